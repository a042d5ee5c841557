-- Literals with a minus before them.
use Rattle.rl_syntax.proofs.Common.{◌≡◌, ℕ, ◌⊎◌, inl, inr, Bool, true, false, cond, ◌==◌, ◌&&◌, List, [], ◌∷◌, ◌++◌, Some, None, refl, sym, ap, subst, ◌∙◌, is_ascii_digit, both_ways, eqb-true}
use Rattle.rl_lenient.proofs.Names.{Kind, Str, ByteStr, CStr, Byte, Char, Int, Float, BoolKind, first_passes, is_string, is_single, opener, raw_opener, Sign, NoSign, Minus, IntReads, Contents, HasNoReading, HasSuffix, ReadsQuoted, truth_text}
use Rattle.rl_syntax.specs.Reading.{ReadsBool}
use Rattle.rl_lenient.specs.Mirrors.NumberAt.{sign_at, float_at, after_exponent, after_fraction, after_digits, is_suffix}
use Rattle.rl_lenient.specs.NumberShapes.{ReadsNoNumber}
use Rattle.rl_lenient.specs.WholeShapes.{IsSplit}
use Rattle.rl_syntax.proofs.StrictNumbers.{without_minus, minus_int}
use Rattle.rl_lenient.proofs.FloatLemmas.{float_past, float_sound}
use Rattle.rl_lenient.proofs.DigitLemmas.{int_sign}
use Rattle.std.specs.Str.{chars}

-- If a text is an integer without a sign, the text with a minus before it is the integer with the same magnitude and suffix.
pub int_on : (t : List ℕ) (s : Sign) (m : ℕ) (x : List ℕ) → sign_at t ≡ NoSign → IntReads t s m x
    → IntReads (45 ∷ t) Minus m x
int_on t s m x e h = minus_int t x m (subst (λ (k : Sign). IntReads t k m x) (sym (int_sign t s m x h) ∙ e) h)

-- If a text has no sign, a minus before it doesn't change the result of `float_at`.
pub float_at-minus : (t : List ℕ) → sign_at t ≡ NoSign → float_at (45 ∷ t) ≡ float_at t
unfolding float_at
float_at-minus [] h = refl
float_at-minus (c ∷ cs) h = go (c == 45) refl h
  where
    go : (b : Bool) → (c == 45) ≡ b → cond b Minus NoSign ≡ NoSign → float_at (45 ∷ c ∷ cs) ≡ float_at (c ∷ cs)
    go true e k = absurd (cc)
    go false e k =
        let Rest : List ℕ → List ℕ = λ u. after_exponent (after_fraction (after_digits 10 u)) in
        ap (λ u. cond (first_passes is_ascii_digit u && is_suffix (Rest u)) (Some (Rest u)) None)
        (sym (ap (λ b. cond b cs (c ∷ cs)) e))

-- A text that begins with two minuses isn't a float.
double_minus : (t : List ℕ) → sign_at t ≡ Minus → float_at (45 ∷ t) ≡ None
unfolding float_at
double_minus [] h = absurd (cc)
double_minus (c ∷ cs) h = go (c == 45) refl h
  where
    go : (b : Bool) → (c == 45) ≡ b → cond b Minus NoSign ≡ Minus → float_at (45 ∷ c ∷ cs) ≡ None
    go false e k = absurd (cc)
    go true e k = ap (λ z. float_at (45 ∷ z ∷ cs)) (eqb-true c 45 e)

-- If a text without a sign isn't a number, it isn't a number with a minus before it either.
pub negative_none : (t : List ℕ) → sign_at t ≡ NoSign → ReadsNoNumber t → ReadsNoNumber (45 ∷ t)
negative_none t e h Int c x r = h Int _ x (record { sign = NoSign; magnitude = r.magnitude; reads = (without_minus t x r.sign r.magnitude r.reads).0; within = r.within; contents_is = refl })
negative_none t e h Float c x r =
    let f = float_sound t x (sym (float_at-minus t e) ∙ float_past (45 ∷ t) r.numeral x r.reads) in
    h Float _ x (record { numeral = f.0; reads = f.1; no_integer = λ s m y q. r.no_integer Minus m y (int_on t s m y e q); contents_is = refl })
negative_none t e h kind c x r = r

-- No number begins with two minuses.
pub negative_twice : (t : List ℕ) → sign_at t ≡ Minus → ReadsNoNumber (45 ∷ t)
negative_twice t e Int c x r =
    let q = int_sign t NoSign r.magnitude x ((without_minus t x r.sign r.magnitude r.reads).0) in
    let w : Minus ≡ NoSign = sym e ∙ q in
    absurd (cc)
negative_twice t e Float c x r =
    let q = sym (double_minus t e) ∙ float_past (45 ∷ t) r.numeral x r.reads in
    absurd (cc)
negative_twice t e kind c x r = r

-- If a text is an integer without a sign, the text with a minus before it is an integer with the same suffix.
negative_int : (t x : List ℕ) → sign_at t ≡ NoSign → HasSuffix Int t x → HasSuffix Int (45 ∷ t) x
negative_int t x e (c, r) = (_, record { sign = Minus; magnitude = r.magnitude; reads = int_on t r.sign r.magnitude x e r.reads; within = r.within; contents_is = refl })

negative_float : (t x : List ℕ) → sign_at t ≡ NoSign → HasSuffix Float t x → HasSuffix Float (45 ∷ t) x
negative_float t x e (c, r) =
    let f = float_sound (45 ∷ t) x (float_at-minus t e ∙ float_past t r.numeral x r.reads) in
    (_, record { numeral = f.0; reads = f.1; no_integer = λ s m y q. r.no_integer NoSign m y ((without_minus t y s m q).0); contents_is = refl })

pub negative_reads : (t x : List ℕ) (k : Kind) → sign_at t ≡ NoSign → (k ≡ Int) ⊎ (k ≡ Float) → HasSuffix k t x
    → HasSuffix k (45 ∷ t) x
negative_reads t x k e (inl n) h = subst (λ (j : Kind). HasSuffix j (45 ∷ t) x) (sym n)
    (negative_int t x e (subst (λ (j : Kind). HasSuffix j t x) n h))
negative_reads t x k e (inr n) h = subst (λ (j : Kind). HasSuffix j (45 ∷ t) x) (sym n)
    (negative_float t x e (subst (λ (j : Kind). HasSuffix j t x) n h))

-- A number's text is its body and its suffix.
pub number_split : (t b x : List ℕ) (k : Kind) → (k ≡ Int) ⊎ (k ≡ Float) → IsSplit k t b x → t ≡ b ++ x
number_split t b x k (inl e) s = subst (λ (j : Kind). IsSplit j t b x) e s
number_split t b x k (inr e) s = subst (λ (j : Kind). IsSplit j t b x) e s

-- Whether a character is a minus. No quoted literal begins with a minus, and neither `true` nor `false` does.
abbrev is_minus : ℕ → Bool
is_minus c = c == 45

-- A string with escapes doesn't begin with a minus.
string_front : (k : Kind) (r : List ℕ) → is_string k ≡ true → first_passes is_minus (opener k ++ r) ≡ false
string_front Str r h = refl
string_front ByteStr r h = refl
string_front CStr r h = refl
string_front Byte r h = refl
string_front Char r h = refl
string_front kind r h = absurd (cc)

-- A raw string doesn't begin with a minus.
raw_front : (k : Kind) (r : List ℕ) → is_string k ≡ true → first_passes is_minus (raw_opener k ++ r) ≡ false
raw_front Str r h = refl
raw_front ByteStr r h = refl
raw_front CStr r h = refl
raw_front kind r h = absurd (cc)

-- A character or byte literal doesn't begin with a minus.
single_front : (k : Kind) (r : List ℕ) → is_single k ≡ true → first_passes is_minus (opener k ++ r) ≡ false
single_front Byte r h = refl
single_front Char r h = refl
single_front Str r h = refl
single_front ByteStr r h = refl
single_front CStr r h = refl
single_front kind r h = absurd (cc)

-- Neither `true` nor `false` begins with a minus.
truth_front : (b : Bool) → first_passes is_minus (truth_text b) ≡ false
truth_front true = refl
truth_front false = refl

-- No quoted literal begins with a minus.
quoted_front : (t x : List ℕ) (k : Kind) (c : Contents) → ReadsQuoted t k c x → first_passes is_minus t ≡ false
quoted_front t x k c r = elim r.form [
  | inl f ↦ ap (first_passes is_minus) f.text_is ∙ string_front k _ f.string
  | inr g ↦ elim g [
    | inl f ↦ ap (first_passes is_minus) f.text_is ∙ raw_front k _ f.string
    | inr f ↦ ap (first_passes is_minus) f.text_is ∙ single_front k _ f.single
  ]
]

-- A text that begins with a minus isn't a quoted literal.
no_quoted : (t x : List ℕ) (k : Kind) (c : Contents) → ReadsQuoted (45 ∷ t) k c x → ⊥
no_quoted t x k c r = both_ways true (quoted_front (45 ∷ t) x k c r) refl

-- A text that begins with a minus is neither `true` nor `false`.
pub no_truth : (t x : List ℕ) (c : Contents) → ReadsBool (45 ∷ t) c x → ⊥
no_truth t x c r = both_ways true (ap (first_passes is_minus) r.text_is ∙ truth_front r.truth) refl

-- A text that begins with a minus is a number, or isn't a literal.
pub negative_no_reading : (t : List ℕ) → ReadsNoNumber (45 ∷ t) → HasNoReading (45 ∷ t)
negative_no_reading t h Int c x r = h Int c x r
negative_no_reading t h Float c x r = h Float c x r
negative_no_reading t h Str c x r = no_quoted t x Str c r
negative_no_reading t h ByteStr c x r = no_quoted t x ByteStr c r
negative_no_reading t h CStr c x r = no_quoted t x CStr c r
negative_no_reading t h Byte c x r = no_quoted t x Byte c r
negative_no_reading t h Char c x r = no_quoted t x Char c r
negative_no_reading t h BoolKind c x r = no_truth t x c r

-- The characters of a text with a minus before it are the minus and the characters of the text.
pub minus_chars : (bs : List ℕ) → chars (45 ∷ bs) ≡ 45 ∷ chars bs
unfolding chars
minus_chars [] = refl
minus_chars (b ∷ bs) = refl
