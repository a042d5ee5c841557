-- A number of Rust's grammar has an equal parse result by `syn`'s grammar, after a minus too.
use Rattle.rl_syntax.proofs.Common.{◌≡◌, ℕ, ◌<◌, ◌≤◌, ◌||◌, ◌&&◌, Bool, true, false, not, eqb, ltb, List, [], ◌∷◌, ◌++◌, refl, sym, ap, subst, ◌∙◌, ◌⊎◌, inl, inr, arith, append_assoc, append-nil, nat_lt, digit_value, is_ascii_digit, is_ascii_hexdigit, is_ascii_alphabetic, is_ascii_alphanumeric, list_all, list_any, list_all-append, eqb-true, eq-eqb, both_ways, and_parts, and_from, or_parts, or_cases, or_from, cases_lt, ltb-true, lt-ltb, not-true, agree_below_at, not_from_false, is_xid_start, is_xid_continue, is_xid_start-ascii}
use Rattle.std.proofs.lemmas.Bool.{false_from_ne_true}
use Rattle.rl_syntax.specs.Texts.{first_passes, begins, is_underscore, is_run_part}
use Rattle.rl_syntax.specs.Spelling.{place_value, without_underscores}
use Rattle.rl_syntax.specs.Numbers.{Base, Binary, Octal, Decimal, Hexadecimal, radix, prefix, is_digit, Sign, NoSign, Minus, sign_text, begins_base, IsAfterPrefix, IsSuffix, is_exponent_letter, IsExponentSuffix, AllowsSuffix, IntReads, limit, Fraction, NoFraction, Dot, fraction_text, IsFraction, Exponent, NoExponent, Power, exponent_text, is_power_sign, BeginsExponent, IsExponent, float_digits}
use Rattle.rl_syntax.specs.Reading.{Contents, Digits, ReadsInt, HasNoInteger, ReadsFloat}
use Rattle.rl_syntax.specs.Strict.{dec, IsDigits, IsDecimalText, IsNumberSuffix, StrictInt, IsStrictExponent, StrictFloat}
use Rattle.rl_syntax.proofs.Dec.{dec_is_decimal}
use Rattle.rl_syntax.proofs.Basics.{apart, all_weaker, all_same, passes_same, digit_is_ten, hex_is_sixteen, word_without, range_past}

-- ---- suffixes

start_no_digit : (c : ℕ) → is_xid_start c ≡ true → is_ascii_digit c ≡ false
start_no_digit c h =
    elim (cases_lt c 128) [
      | inl a ↦ false_from_ne_true (is_ascii_digit c) (λ d.
          let never : (is_ascii_alphabetic c && is_ascii_digit c)
          ≡ false = agree_below_at (λ c. is_ascii_alphabetic c && is_ascii_digit c) (λ c. false) 128 c refl a in
          both_ways _ never (and_from (is_ascii_alphabetic c) (is_ascii_digit c) (sym (is_xid_start-ascii c a) ∙ h) d))
      | inr a ↦ range_past 48 57 c (omega arith) a
    ]

low_digit : (n c : ℕ) → n ≤ 10 → is_ascii_digit c ≡ false → ltb (digit_value c) n ≡ false
low_digit n c small h = false_from_ne_true (ltb (digit_value c) n) (λ d.
    let less : digit_value c < n = ltb-true (digit_value c) n d in
    both_ways (is_ascii_digit c) h (digit_is_ten c ∙ lt-ltb (digit_value c) 10 (omega arith)))

pub no_part : (b : Base) (x : List ℕ) → IsSuffix x → AllowsSuffix b x → first_passes (is_run_part (is_digit b)) x
    ≡ false
no_part b [] s f = refl
no_part b (c ∷ cs) (inl e, u) f = absurd (cc)
no_part b (c ∷ cs) (inr w, u) f =
    let start : is_xid_start c ≡ true = ap (λ z. z || is_xid_start c) (sym u)
    ∙ (and_parts (eqb c 95 || is_xid_start c) (list_all is_xid_continue cs) w).0 in
    or_from (is_digit b c) (is_underscore c) (digit b (start_no_digit c start) f) u
  where
    digit : (b : Base) → is_ascii_digit c ≡ false → AllowsSuffix b (c ∷ cs) → is_digit b c ≡ false
    digit Binary n f = low_digit 2 c (omega arith) n
    digit Octal n f = low_digit 8 c (omega arith) n
    digit Decimal n f = low_digit 10 c (omega arith) n
    digit Hexadecimal n f = f

pub suffix_of_strict : (x : List ℕ) → IsNumberSuffix x → IsSuffix x
suffix_of_strict x (inl e, u) = (inl e, u)
suffix_of_strict x (inr w, u) = (inr w.identifier, u)

no_exponent_suffix : (x : List ℕ) → first_passes is_exponent_letter x ≡ false → IsExponentSuffix x → ⊥
no_exponent_suffix x h e = both_ways (is_exponent_letter e.letter)
    (ap (first_passes is_exponent_letter) (sym e.text_is) ∙ h) e.is_letter

begins_no_exponent : (x : List ℕ) → first_passes is_exponent_letter x ≡ false → BeginsExponent x → ⊥
begins_no_exponent x h e = both_ways (is_exponent_letter e.letter)
    (ap (first_passes is_exponent_letter) (sym e.text_is) ∙ h) e.is_letter

pub suffix_no_part : (x : List ℕ) → IsSuffix x → first_passes (is_run_part (is_digit Decimal)) x ≡ false
suffix_no_part [] s = refl
suffix_no_part (c ∷ cs) (inl e, u) = absurd (cc)
suffix_no_part (c ∷ cs) (inr w, u) =
    let start : is_xid_start c ≡ true = ap (λ z. z || is_xid_start c) (sym u)
    ∙ (and_parts (eqb c 95 || is_xid_start c) (list_all is_xid_continue cs) w).0 in
    or_from (is_digit Decimal c) (is_underscore c) (low_digit 10 c (omega arith) (start_no_digit c start)) u

-- ---- integers

pub passes_on : (test : ℕ → Bool) (a b : List ℕ) → first_passes test a ≡ true → first_passes test (a ++ b) ≡ true
passes_on test [] b h = absurd (cc)
passes_on test (c ∷ cs) b h = h

pub record IsInt (t : List ℕ) (v : Contents) (x : List ℕ) : Type 0 where
  pub magnitude : ℕ
  pub reads : IntReads t NoSign magnitude x
  pub contents_is : v ≡ Digits (dec magnitude)

int_at : (b : Base) (t x : List ℕ) (v : Contents) (s : StrictInt t v x) → s.base ≡ radix b → s.prefix ≡ prefix b
    → IsAfterPrefix b (s.run ++ x) → AllowsSuffix b x → IsInt t v x
int_at b t x v s base front is_front is_suffix_of =
    let All : ℕ → Type 0 = λ n. list_all (is_run_part (λ c. nat_lt (digit_value c) n)) s.run ≡ true in
    let Any : ℕ → Type 0 = λ n. list_any (λ c. nat_lt (digit_value c) n) s.run ≡ true in
    let m = place_value (radix b) (without_underscores s.run) in
    record {
      magnitude = m;
      reads = record {
        base = b;
        digits = s.run;
        front = is_front;
        each = subst All base s.each;
        some = subst Any base s.some;
        is_suffix = suffix_of_strict x s.suffix;
        is_suffix_of = is_suffix_of;
        text_is = s.text ∙ append_assoc s.prefix s.run x ∙ ap (λ z. z ++ (s.run ++ x)) front;
        magnitude_is = refl;
      };
      contents_is = s.contents ∙ ap (λ n. Digits (dec (place_value n (without_underscores s.run)))) base;
    }

pub strict_int : (t x : List ℕ) (v : Contents) → StrictInt t v x → IsInt t v x
strict_int t x v s =
    elim s.is_front [
      | inl f ↦
          let text : t ≡ s.run ++ x = s.text ∙ append_assoc s.prefix s.run x ∙ ap (λ z. z ++ (s.run ++ x)) f.0 in
          int_at Decimal t x v s f.1 f.0 (passes_on is_ascii_digit s.run x f.2.0, ap begins_base (sym text) ∙ f.3)
          (no_exponent_suffix x s.no_exponent)
      | inr f ↦ elim f [
        | inl g ↦ int_at Binary t x v s g.1 g.0 tt tt
        | inr g ↦ elim g [
          | inl h ↦ int_at Octal t x v s h.1 h.0 tt tt
          | inr h ↦ int_at Hexadecimal t x v s h.1 h.0 tt (passes_same (is_digit Hexadecimal) is_ascii_hexdigit
              (λ c. sym (hex_is_sixteen c)) x ∙ s.no_digit h.1)
        ]
      ]
    ]

pub minus_int : (t x : List ℕ) (m : ℕ) → IntReads t NoSign m x → IntReads (45 ∷ t) Minus m x
minus_int t x m r = record {
  base = r.base;
  digits = r.digits;
  front = r.front;
  each = r.each;
  some = r.some;
  is_suffix = r.is_suffix;
  is_suffix_of = r.is_suffix_of;
  text_is = ap (λ z. 45 ∷ z) r.text_is;
  magnitude_is = r.magnitude_is;
}

-- ---- texts that aren't integers

-- An integer's text without its sign begins with a digit.
pub digit_front : (b : Base) (digits x : List ℕ) → IsAfterPrefix b (digits ++ x)
    → first_passes is_ascii_digit (prefix b ++ (digits ++ x)) ≡ true
digit_front Binary digits x f = refl
digit_front Octal digits x f = refl
digit_front Decimal digits x f = f.0
digit_front Hexadecimal digits x f = refl

pub no_sign : (t x : List ℕ) (s : Sign) (m : ℕ) → first_passes is_ascii_digit t ≡ true → IntReads t s m x
    → IntReads t NoSign m x × (s ≡ NoSign)
no_sign t x NoSign m h r = (r, refl)
no_sign t x Minus m h r = absurd (let e = ap (first_passes is_ascii_digit) (sym r.text_is) ∙ h in (cc))

pub without_minus : (t x : List ℕ) (s : Sign) (m : ℕ) → IntReads (45 ∷ t) s m x → IntReads t NoSign m x × (s ≡ Minus)
without_minus t x NoSign m r = absurd (let e = ap (first_passes is_ascii_digit) r.text_is
    ∙ digit_front r.base r.digits x r.front in (cc))
without_minus t x Minus m r = (
  record {
    base = r.base;
    digits = r.digits;
    front = r.front;
    each = r.each;
    some = r.some;
    is_suffix = r.is_suffix;
    is_suffix_of = r.is_suffix_of;
    text_is = let e = r.text_is in cc;
    magnitude_is = r.magnitude_is;
  },
  refl,
)

-- The character is ASCII, and isn't a letter, a digit or an underscore. So an integer's prefix and its digits don't contain
-- the character.
pub record IsForeign (k : ℕ) : Type 0 where
  pub small : k < 128
  pub no_word : (is_ascii_alphanumeric k || eqb k 95) ≡ false
  pub no_digit : (b : Base) → is_run_part (is_digit b) k ≡ false
  pub no_prefix : (b : Base) → list_all (λ c. not (eqb c k)) (prefix b) ≡ true

pub foreign_dot : IsForeign 46
foreign_dot = record { small = omega arith; no_word = refl; no_digit = digit; no_prefix = front }
  where
    digit : (b : Base) → is_run_part (is_digit b) 46 ≡ false
    digit Binary = refl
    digit Octal = refl
    digit Decimal = refl
    digit Hexadecimal = refl

    front : (b : Base) → list_all (λ c. not (eqb c 46)) (prefix b) ≡ true
    front Binary = refl
    front Octal = refl
    front Decimal = refl
    front Hexadecimal = refl

pub foreign_plus : IsForeign 43
foreign_plus = record { small = omega arith; no_word = refl; no_digit = digit; no_prefix = front }
  where
    digit : (b : Base) → is_run_part (is_digit b) 43 ≡ false
    digit Binary = refl
    digit Octal = refl
    digit Decimal = refl
    digit Hexadecimal = refl

    front : (b : Base) → list_all (λ c. not (eqb c 43)) (prefix b) ≡ true
    front Binary = refl
    front Octal = refl
    front Decimal = refl
    front Hexadecimal = refl

pub foreign_minus : IsForeign 45
foreign_minus = record { small = omega arith; no_word = refl; no_digit = digit; no_prefix = front }
  where
    digit : (b : Base) → is_run_part (is_digit b) 45 ≡ false
    digit Binary = refl
    digit Octal = refl
    digit Decimal = refl
    digit Hexadecimal = refl

    front : (b : Base) → list_all (λ c. not (eqb c 45)) (prefix b) ≡ true
    front Binary = refl
    front Octal = refl
    front Decimal = refl
    front Hexadecimal = refl

pub suffix_without : (k : ℕ) (x : List ℕ) → IsForeign k → IsSuffix x → list_all (λ c. not (eqb c k)) x ≡ true
suffix_without k x f (inl e, u) = subst (λ z. list_all (λ c. not (eqb c k)) z ≡ true) (sym e) refl
suffix_without k x f (inr w, u) = word_without k x f.small f.no_word w

int_without : (k : ℕ) (t x : List ℕ) (m : ℕ) → IsForeign k → IntReads t NoSign m x → list_all (λ c. not (eqb c k)) t
    ≡ true
int_without k t x m f r =
    let test : ℕ → Bool = λ c. not (eqb c k) in
    ap (list_all test) r.text_is
    ∙ list_all-append test (prefix r.base) (r.digits ++ x)
    ∙ and_from _ _ (f.no_prefix r.base)
    (list_all-append test r.digits x
    ∙ and_from _ _ (all_weaker (is_run_part (is_digit r.base)) test
    (λ c h. not_from_false (eqb c k) (apart (is_run_part (is_digit r.base)) c k h (f.no_digit r.base))) r.digits
    r.each)
    (suffix_without k x f r.is_suffix))

pub foreign_inside : (k : ℕ) (t a b : List ℕ) → eqb k k ≡ true → t ≡ a ++ (k ∷ b) → list_all (λ c. not (eqb c k)) t
    ≡ true → ⊥
foreign_inside k t a b same e h =
    let test : ℕ → Bool = λ c. not (eqb c k) in
    let p = and_parts (list_all test a) (list_all test (k ∷ b))
    (sym (list_all-append test a (k ∷ b)) ∙ ap (list_all test) (sym e) ∙ h) in
    both_ways (eqb k k) (not-true (eqb k k) (and_parts (test k) (list_all test b) p.1).0) same

pub none_around : (k : ℕ) (t a b : List ℕ) → IsForeign k → eqb k k ≡ true → t ≡ a ++ (k ∷ b)
    → first_passes is_ascii_digit t ≡ true → HasNoInteger t
none_around k t a b f same e d s m x r = foreign_inside k t a b same e (int_without k t x m f (no_sign t x s m d r).0)

pub same_run : (test : ℕ → Bool) (a b r s : List ℕ) → list_all test a ≡ true → list_all test b ≡ true
    → first_passes test r ≡ false → first_passes test s ≡ false → a ++ r ≡ b ++ s → (a ≡ b) × (r ≡ s)
same_run test [] [] r s ha hb hr hs e = (refl, e)
same_run test [] (c ∷ b) r s ha hb hr hs e =
    absurd (both_ways (test c) (ap (first_passes test) (sym e) ∙ hr) (and_parts (test c) (list_all test b) hb).0)
same_run test (c ∷ a) [] r s ha hb hr hs e =
    absurd (both_ways (test c) (ap (first_passes test) e ∙ hs) (and_parts (test c) (list_all test a) ha).0)
same_run test (c ∷ a) (d ∷ b) r s ha hb hr hs e =
    let head : c ≡ d = cc in
    let tail : a ++ r ≡ b ++ s = cc in
    let p = same_run test a b r s (and_parts (test c) (list_all test a) ha).1
    (and_parts (test d) (list_all test b) hb).1 hr hs tail in
    (let e = p.0 in cc, p.1)

pub begins_front : (p t : List ℕ) → begins p (p ++ t) ≡ true
begins_front [] t = refl
begins_front (c ∷ p) t = and_from _ _ (eq-eqb c c refl) (begins_front p t)

pub letter_no_part : (c : ℕ) → is_exponent_letter c ≡ true → is_run_part (is_digit Decimal) c ≡ false
letter_no_part c h =
    let At : ℕ → Type 0 = λ x. is_run_part (is_digit Decimal) x ≡ false in
    elim (or_cases (eqb c 101) (eqb c 69) h) [
      | inl a ↦ subst At (sym (eqb-true c 101 a)) refl
      | inr a ↦ subst At (sym (eqb-true c 69 a)) refl
    ]

-- A decimal text doesn't have another base's prefix.
pub other_base : (b : Base) (t r : List ℕ) → begins_base t ≡ false → t ≡ prefix b ++ r → b ≡ Decimal
other_base Decimal t r h e = refl
other_base Binary t r h e =
    let p = or_parts _ _ (or_parts _ (begins (prefix Hexadecimal) t) h).0 in
    absurd (both_ways _ p.0 (ap (begins (prefix Binary)) e ∙ begins_front (prefix Binary) r))
other_base Octal t r h e =
    let p = or_parts _ _ (or_parts _ (begins (prefix Hexadecimal) t) h).0 in
    absurd (both_ways _ p.1 (ap (begins (prefix Octal)) e ∙ begins_front (prefix Octal) r))
other_base Hexadecimal t r h e =
    let p = or_parts _ _ h in
    absurd (both_ways _ p.1 (ap (begins (prefix Hexadecimal)) e ∙ begins_front (prefix Hexadecimal) r))

-- If an exponent follows the first digits of a float, the text isn't an integer.
none_at_base : (b : Base) (t d row x digits y : List ℕ) (letter : ℕ) → b ≡ Decimal
    → list_all (is_run_part (is_digit Decimal)) d ≡ true → is_exponent_letter letter ≡ true
    → list_all (is_run_part (is_digit Decimal)) row ≡ true → list_any is_ascii_digit row ≡ true → IsSuffix x
    → first_passes (is_run_part (is_digit Decimal)) x ≡ false → t ≡ d ++ (letter ∷ (row ++ x))
    → list_all (is_run_part (is_digit b)) digits ≡ true → IsSuffix y → AllowsSuffix b y → t ≡ prefix b ++ (digits ++ y)
    → ⊥
none_at_base Decimal t d row x digits y letter decimal each is_letter run some sx whole e each_digit sy of text =
    let p = same_run (is_run_part (is_digit Decimal)) d digits (letter ∷ (row ++ x)) y each each_digit
    (letter_no_part letter is_letter) (no_part Decimal y sy of) (sym e ∙ text) in
    of (record { letter = letter; run = row; rest = x; is_letter = is_letter; each = run; some = some; whole = whole; is_rest = sx.0; text_is = sym p.1 })
none_at_base kind t d row x digits y letter decimal each is_letter run some sx whole e each_digit sy of text = absurd
    (cc)

none_at_exponent : (t d row x : List ℕ) (letter : ℕ) → IsDecimalText t → list_all (is_run_part (is_digit Decimal)) d
    ≡ true → is_exponent_letter letter ≡ true → list_all (is_run_part (is_digit Decimal)) row ≡ true
    → list_any is_ascii_digit row ≡ true → IsSuffix x → first_passes (is_run_part (is_digit Decimal)) x ≡ false → t ≡ d
    ++ (letter ∷ (row ++ x)) → first_passes is_ascii_digit t ≡ true → HasNoInteger t
none_at_exponent t d row x letter decimal each is_letter run some sx whole e front s m y r0 =
    let r = (no_sign t y s m front r0).0 in
    none_at_base r.base t d row x r.digits y letter (other_base r.base t (r.digits ++ y) decimal r.text_is) each
    is_letter run some sx whole e r.each r.is_suffix r.is_suffix_of r.text_is

-- ---- floats

pub record IsFloat (t : List ℕ) (v : Contents) (x : List ℕ) : Type 0 where
  pub whole : List ℕ
  pub fraction : Fraction
  pub exponent : Exponent
  pub first : first_passes is_ascii_digit whole ≡ true
  pub each : list_all (is_run_part (is_digit Decimal)) whole ≡ true
  pub is_fraction : IsFraction fraction
  pub is_exponent : IsExponent exponent x
  pub is_suffix : IsSuffix x
  pub text_is : t ≡ (whole ++ (fraction_text fraction ++ exponent_text exponent)) ++ x
  pub no_integer : HasNoInteger t
  pub contents_is : v ≡ Digits (float_digits (whole ++ (fraction_text fraction ++ exponent_text exponent)))

digits_part : (d : List ℕ) → list_all (is_run_part is_ascii_digit) d ≡ true
    → list_all (is_run_part (is_digit Decimal)) d
    ≡ true
digits_part d h = sym (all_same (is_run_part is_ascii_digit) (is_run_part (is_digit Decimal))
    (λ c. ap (λ b. b || eqb c 95) (digit_is_ten c)) d) ∙ h

front_of : (t d r : List ℕ) → t ≡ d ++ r → first_passes is_ascii_digit d ≡ true → first_passes is_ascii_digit t ≡ true
front_of t d r e h = ap (first_passes is_ascii_digit) e ∙ passes_on is_ascii_digit d r h

dot_float : (t x d f : List ℕ) (v : Contents) (s : StrictFloat t v x) → IsDigits d
    → list_all (is_run_part (is_digit Decimal)) f ≡ true → s.numeral ≡ d ++ (46 ∷ f) → (BeginsExponent x → ⊥)
    → IsFloat t v x
dot_float t x d f v s is_d each_f e no_exponent =
    let numeral : s.numeral ≡ d ++ ((46 ∷ f) ++ []) = e ∙ ap (λ z. d ++ (46 ∷ z)) (sym (append-nil f)) in
    let text : t ≡ (d ++ ((46 ∷ f) ++ [])) ++ x = s.text ∙ ap (λ z. z ++ x) numeral in
    let inside : t ≡ d ++ (46 ∷ ((f ++ []) ++ x)) = text ∙ append_assoc d ((46 ∷ f) ++ []) x in
    record {
      whole = d;
      fraction = Dot f;
      exponent = NoExponent;
      first = is_d.0;
      each = digits_part d is_d.1;
      is_fraction = each_f;
      is_exponent = no_exponent;
      is_suffix = suffix_of_strict x s.suffix;
      text_is = text;
      no_integer = none_around 46 t d ((f ++ []) ++ x) foreign_dot refl inside (front_of t d _ inside is_d.0);
      contents_is = s.contents ∙ ap (λ z. Digits (float_digits z)) numeral;
    }

pub record IsPower (e : List ℕ) : Type 0 where
  pub letter : ℕ
  pub sign : List ℕ
  pub run : List ℕ
  pub is_letter : is_exponent_letter letter ≡ true
  pub is_sign : (sign ≡ []) ⊎ ((sign ≡ 43 ∷ []) ⊎ (sign ≡ 45 ∷ []))
  pub each : list_all (is_run_part (is_digit Decimal)) run ≡ true
  pub some : list_any is_ascii_digit run ≡ true
  pub text_is : e ≡ letter ∷ (sign ++ run)

power_of : (e : List ℕ) → IsStrictExponent e → IsPower e
power_of e s = record { letter = s.letter; sign = s.sign; run = s.run; is_letter = s.is_letter; is_sign = s.is_sign; each = digits_part s.run s.each; some = s.some; text_is = s.text }

power_sign : (sign : List ℕ) → ((sign ≡ []) ⊎ ((sign ≡ 43 ∷ []) ⊎ (sign ≡ 45 ∷ []))) → is_power_sign sign ≡ true
power_sign sign (inl e) = ap is_power_sign e
power_sign sign (inr (inl e)) = ap is_power_sign e
power_sign sign (inr (inr e)) = ap is_power_sign e

is_power : (e x : List ℕ) (p : IsPower e) → IsExponent (Power p.letter [] p.sign p.run) x
is_power e x p = (p.is_letter, refl, power_sign p.sign p.is_sign, p.each, p.some)

whole_float : (t x d e : List ℕ) (v : Contents) (s : StrictFloat t v x) → IsDigits d → IsPower e → s.numeral ≡ d ++ e
    → IsFloat t v x
whole_float t x d e v s is_d p h =
    let numeral : s.numeral ≡ d ++ (p.letter ∷ (p.sign ++ p.run)) = h ∙ ap (λ z. d ++ z) p.text_is in
    let text : t ≡ (d ++ (p.letter ∷ (p.sign ++ p.run))) ++ x = s.text ∙ ap (λ z. z ++ x) numeral in
    let inside : t ≡ d ++ (p.letter ∷ ((p.sign ++ p.run) ++ x)) = text
    ∙ append_assoc d (p.letter ∷ (p.sign ++ p.run)) x in
    let front = front_of t d _ inside is_d.0 in
    let suffix = suffix_of_strict x s.suffix in
    let signed : (k : ℕ) → p.sign ≡ k ∷ [] → t ≡ (d ++ (p.letter ∷ [])) ++ (k ∷ (p.run ++ x)) = λ k q. inside
    ∙ ap (λ z. d ++ (p.letter ∷ ((z ++ p.run) ++ x))) q ∙ sym (append_assoc d (p.letter ∷ []) (k ∷ (p.run ++ x))) in
    record {
      whole = d;
      fraction = NoFraction;
      exponent = Power p.letter [] p.sign p.run;
      first = is_d.0;
      each = digits_part d is_d.1;
      is_fraction = tt;
      is_exponent = is_power e x p;
      is_suffix = suffix;
      text_is = text;
      no_integer = elim p.is_sign [
        | inl q ↦ none_at_exponent t d p.run x p.letter s.no_prefix (digits_part d is_d.1) p.is_letter p.each p.some
            suffix (suffix_no_part x suffix) (inside ∙ ap (λ z. d ++ (p.letter ∷ ((z ++ p.run) ++ x))) q) front
        | inr q ↦ elim q [
          | inl plus ↦ none_around 43 t (d ++ (p.letter ∷ [])) (p.run ++ x) foreign_plus refl (signed 43 plus) front
          | inr minus ↦ none_around 45 t (d ++ (p.letter ∷ [])) (p.run ++ x) foreign_minus refl (signed 45 minus) front
        ]
      ];
      contents_is = s.contents ∙ ap (λ z. Digits (float_digits z)) numeral;
    }

fraction_float : (t x d f e : List ℕ) (v : Contents) (s : StrictFloat t v x) → IsDigits d → IsDigits f → IsPower e
    → s.numeral ≡ (d ++ (46 ∷ f)) ++ e → IsFloat t v x
fraction_float t x d f e v s is_d is_f p h =
    let numeral : s.numeral ≡ d ++ ((46 ∷ f) ++ (p.letter ∷ (p.sign ++ p.run))) = h ∙ append_assoc d (46 ∷ f) e
    ∙ ap (λ z. d ++ ((46 ∷ f) ++ z)) p.text_is in
    let text : t ≡ (d ++ ((46 ∷ f) ++ (p.letter ∷ (p.sign ++ p.run)))) ++ x = s.text ∙ ap (λ z. z ++ x) numeral in
    let inside : t ≡ d ++ (46 ∷ ((f ++ (p.letter ∷ (p.sign ++ p.run))) ++ x)) = text
    ∙ append_assoc d ((46 ∷ f) ++ (p.letter ∷ (p.sign ++ p.run))) x in
    record {
      whole = d;
      fraction = Dot f;
      exponent = Power p.letter [] p.sign p.run;
      first = is_d.0;
      each = digits_part d is_d.1;
      is_fraction = digits_part f is_f.1;
      is_exponent = is_power e x p;
      is_suffix = suffix_of_strict x s.suffix;
      text_is = text;
      no_integer = none_around 46 t d _ foreign_dot refl inside (front_of t d _ inside is_d.0);
      contents_is = s.contents ∙ ap (λ z. Digits (float_digits z)) numeral;
    }

pub strict_float : (t x : List ℕ) (v : Contents) → StrictFloat t v x → IsFloat t v x
strict_float t x v s =
    elim s.form [
      | inl a ↦ dot_float t x a.0 [] v s a.1 refl a.2 (λ b. let e = sym a.3 ∙ b.text_is in absurd (cc))
      | inr b ↦ elim b [
        | inl a ↦ dot_float t x a.0 a.1 v s a.2 (digits_part a.1 a.3.1) a.4 (begins_no_exponent x a.5)
        | inr a ↦ elim a.4 [
          | inl e ↦ whole_float t x a.0 a.1 v s a.2 (power_of a.1 a.3) e
          | inr e ↦ fraction_float t x a.0 e.0 a.1 v s a.2 e.1 (power_of a.1 a.3) e.2
        ]
      ]
    ]

pub signed_float : (sign : Sign) (t x : List ℕ) (v : Contents) (f : IsFloat t v x)
    → ReadsFloat (sign_text sign ++ t) (Digits (float_digits (sign_text sign
    ++ (f.whole ++ (fraction_text f.fraction ++ exponent_text f.exponent))))) x
signed_float sign t x v f =
    let body = f.whole ++ (fraction_text f.fraction ++ exponent_text f.exponent) in
    record {
      numeral = sign_text sign ++ body;
      reads = record {
        sign = sign;
        whole = f.whole;
        fraction = f.fraction;
        exponent = f.exponent;
        first = f.first;
        each = f.each;
        is_fraction = f.is_fraction;
        is_exponent = f.is_exponent;
        is_suffix = f.is_suffix;
        numeral_is = refl;
        text_is = ap (λ z. sign_text sign ++ z) f.text_is ∙ sym (append_assoc (sign_text sign) body x);
      };
      no_integer = none_signed sign t f.no_integer;
      contents_is = refl;
    }
  where
    none_signed : (sign : Sign) (t : List ℕ) → HasNoInteger t → HasNoInteger (sign_text sign ++ t)
    none_signed NoSign t h = h
    none_signed Minus t h = λ s m y r. h NoSign m y (without_minus t y s m r).0

-- ---- the laws

-- In each parse result of the text as an integer, the magnitude is within 128 bits.
abbrev pub IsWithin : List ℕ → Type 0
IsWithin t = (sign : Sign) (magnitude : ℕ) (suffix : List ℕ) → IntReads t sign magnitude suffix → magnitude ≤ limit

pub int_strict_reads : (t x : List ℕ) (v : Contents) → StrictInt t v x → IsWithin t → ReadsInt t v x
int_strict_reads t x v s within =
    let i = strict_int t x v s in
    record { sign = NoSign; magnitude = i.magnitude; reads = i.reads; within = within NoSign i.magnitude x i.reads; contents_is = i.contents_is ∙ ap Digits (dec_is_decimal i.magnitude (within NoSign i.magnitude x i.reads)) }

pub int_strict_minus : (t ds x : List ℕ) → StrictInt t (Digits ds) x → IsWithin t
    → ReadsInt (45 ∷ t) (Digits (45 ∷ ds)) x
int_strict_minus t ds x s within =
    let i = strict_int t x (Digits ds) s in
    let e : Digits ds ≡ Digits (dec i.magnitude) = i.contents_is in
    let same : ds ≡ dec i.magnitude = cc in
    record { sign = Minus; magnitude = i.magnitude; reads = minus_int t x i.magnitude i.reads; within = within NoSign i.magnitude x i.reads; contents_is = ap (λ z. Digits (45 ∷ z)) (same ∙ dec_is_decimal i.magnitude (within NoSign i.magnitude x i.reads)) }

pub float_strict_reads : (t x : List ℕ) (v : Contents) → StrictFloat t v x → ReadsFloat t v x
float_strict_reads t x v s =
    let f = strict_float t x v s in
    subst (λ z. ReadsFloat t z x) (sym f.contents_is) (signed_float NoSign t x v f)

pub float_strict_minus : (t ds x : List ℕ) → StrictFloat t (Digits ds) x → ReadsFloat (45 ∷ t) (Digits (45 ∷ ds)) x
float_strict_minus t ds x s =
    let f = strict_float t x (Digits ds) s in
    let e : Digits ds ≡ Digits (float_digits (f.whole ++ (fraction_text f.fraction ++ exponent_text f.exponent))) =
    f.contents_is in
    let same : ds ≡ float_digits (f.whole ++ (fraction_text f.fraction ++ exponent_text f.exponent)) = cc in
    subst (λ z. ReadsFloat (45 ∷ t) (Digits (45 ∷ z)) x) (sym same) (signed_float Minus t x (Digits ds) f)
