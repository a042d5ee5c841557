-- The theorems about the kind of literal that a text begins as.
use Rattle.rl_flaws.proofs.Names.{◌≡◌, ◌⊎◌, ◌==◌, ◌||◌, ℕ, Bool, true, false, not, List, [], ◌∷◌, ◌++◌, Option, Some, None, IfNone, IfSome, refl, sym, ap, subst, ◌∙◌, inl, inr, append_assoc, and_parts, or_from, or_right, both_ways, not-true, cond, is_ascii_digit, list_all, replicate, flat_map, first_passes, is_run_part, Kind, Str, ByteStr, CStr, Byte, Char, Int, Float, BoolKind, Contents, is_single, is_string, opener, raw_opener, strict_text, truth_text, Base, Binary, Octal, Decimal, Hexadecimal, IsAfterPrefix, begins_base, exponent_text, fraction_text, is_digit, is_exponent_letter, prefix, IsDigits, IsDotAlone, IsPointed, IsScientific, IsStrictExponent, Strict, StrictCooked, StrictFloat, StrictInt, StrictRaw, strict_closer, strict_opener, strict_raw_opener, number_front, foreign_dot, letter_no_part, strict_float, strict_int, suffix_no_part, suffix_without, between, after_digits, after_minus, FoundOpener, opener_at, word_has_none, front_not_quoted, run_past, passes_more, is_float_mark, all_same, digit_is_ten, SpellsTruth, LooksLike, LooksLikeOne, OpensNumber, OpensSingle, OpensString, TokenLooks, number_kind, truth_words}
use Rattle.rl_strict.proofs.StrictTokens.{digit_front}
use Rattle.rl_flaws.proofs.LookLemmas.{by_row, minus_past}
use Rattle.rl_flaws.proofs.WalkLemmas.{single_told, string_told}

-- ---- a text begins as at most one kind of literal

told_kind : FoundOpener → Option Kind
told_kind None = None
told_kind (Some p) = Some p.1

-- In the first case, the text begins with the opening delimiter of a literal of the kind `k`. In the second case, the text
-- begins without an opening delimiter: it begins as a number of the kind `k`, or is `true` or `false`.
Told : List ℕ → Kind → Type 0
Told t k = (told_kind (opener_at t) ≡ Some k) ⊎ ((told_kind (opener_at t) ≡ None) × (OpensNumber k t ⊎ SpellsTruth k t))

number_closed : (t : List ℕ) (k : Kind) → OpensNumber k t → opener_at t ≡ None
number_closed t k (d, inl e, digit, is) = front_not_quoted t
    (digit_front t (ap (first_passes is_ascii_digit) e ∙ digit))
number_closed t k (d, inr e, digit, is) = ap opener_at e ∙ front_not_quoted (45 ∷ d) refl

told : (t : List ℕ) (k : Kind) → LooksLike t k → Told t k
unfolding told_kind Told
told t k (inl s) = elim (string_told t k s) [
  | inl p ↦ inl (ap told_kind p.1)
  | inr p ↦ inl (ap told_kind p.3)
]
told t k (inr (inl s)) = let p = single_told t k s in inl (ap told_kind p.1)
told t k (inr (inr (inl n))) = inr (ap told_kind (number_closed t k n), inl n)
told t k (inr (inr (inr (e, (b, is))))) = inr (ap told_kind (ap opener_at is ∙ word_has_none b), inr (e, (b, is)))

-- A text that begins as a number has a digit at its start, or after a minus. The text from this digit on identifies the kind
-- of number.
number_digits : (t : List ℕ) (k : Kind) → OpensNumber k t → (k ≡ number_kind (after_minus t))
    × (first_passes is_ascii_digit (after_minus t) ≡ true)
number_digits t k (d, e, digit, is) =
    let same : after_minus t ≡ d = minus_past t d e digit in
    (is ∙ ap number_kind (sym same), ap (first_passes is_ascii_digit) same ∙ digit)

truth_no_number : (t : List ℕ) (k l : Kind) → SpellsTruth k t → OpensNumber l t → ⊥
truth_no_number t k l (e, (b, is)) n = go b (ap (λ z. first_passes is_ascii_digit (after_minus z)) (sym is)
    ∙ (number_digits t l n).1)
  where
    go : (b : Bool) → first_passes is_ascii_digit (after_minus (truth_text b)) ≡ true → ⊥
    go true h = both_ways false refl h
    go false h = both_ways false refl h

plain_once : (t : List ℕ) (k l : Kind) → OpensNumber k t ⊎ SpellsTruth k t → OpensNumber l t ⊎ SpellsTruth l t → k ≡ l
plain_once t k l (inl a) (inl b) = (number_digits t k a).0 ∙ sym (number_digits t l b).0
plain_once t k l (inl a) (inr b) = absurd (truth_no_number t l k b a)
plain_once t k l (inr a) (inl b) = absurd (truth_no_number t k l a b)
plain_once t k l (inr a) (inr b) = a.0 ∙ sym b.0

told_once : (t : List ℕ) (k l : Kind) → Told t k → Told t l → k ≡ l
unfolding Told
told_once t k l (inl a) (inl b) = let e : Some k ≡ Some l = sym a ∙ b in cc
told_once t k l (inl a) (inr b) = absurd (let e : Some k ≡ None = sym a ∙ b.0 in (cc))
told_once t k l (inr a) (inl b) = absurd (let e : Some l ≡ None = sym b ∙ a.0 in (cc))
told_once t k l (inr a) (inr b) = plain_once t k l a.1 b.1

pub looks_once : (t : List ℕ) → LooksLikeOne t
looks_once t k l a b = told_once t k l (told t k a) (told t l b)

-- ---- a quoted literal token begins as a literal of its kind

cooked_looks : (k : Kind) (t : List ℕ) (v : Contents) (x : List ℕ) → is_string k ≡ true → strict_opener k ≡ opener k
    → StrictCooked t k v x → OpensString k t
cooked_looks k t v x s same c = (
  opener k,
  flat_map strict_text c.units ++ (strict_closer k ++ x),
  (s, inl refl),
  c.text ∙ between (strict_opener k) (flat_map strict_text c.units) (strict_closer k) x
      ∙ ap (λ z. z ++ (flat_map strict_text c.units ++ (strict_closer k ++ x))) same,
)

single_looks : (k : Kind) (t : List ℕ) (v : Contents) (x : List ℕ) → is_single k ≡ true → strict_opener k ≡ opener k
    → StrictCooked t k v x → OpensSingle k t
single_looks k t v x s same c = (
  s,
  (
    flat_map strict_text c.units ++ (strict_closer k ++ x),
    c.text ∙ between (strict_opener k) (flat_map strict_text c.units) (strict_closer k) x
        ∙ ap (λ z. z ++ (flat_map strict_text c.units ++ (strict_closer k ++ x))) same,
  ),
)

raw_joined : (o h i x : List ℕ) → ((((o ++ h) ++ (34 ∷ i)) ++ (34 ∷ h)) ++ x)
    ≡ (o ++ (h ++ (34 ∷ []))) ++ (i ++ (34 ∷ (h ++ x)))
raw_joined o h i x = simp append_assoc

raw_looks : (k : Kind) (t : List ℕ) (v : Contents) (x : List ℕ) → is_string k ≡ true → strict_raw_opener k ≡ raw_opener
    k → StrictRaw t k v x → OpensString k t
raw_looks k t v x s same r =
    let h : List ℕ = replicate r.hashes 35 in (
      raw_opener k ++ (h ++ (34 ∷ [])),
      r.inside ++ (34 ∷ (h ++ x)),
      (s, inr (r.hashes, r.few, refl)),
      r.text ∙ raw_joined (strict_raw_opener k) h r.inside x
          ∙ ap (λ z. (z ++ (h ++ (34 ∷ []))) ++ (r.inside ++ (34 ∷ (h ++ x)))) same,
    )

-- ---- a number begins as a literal of its kind

plain_kind : (t : List ℕ) (m : Bool) → begins_base t ≡ false → first_passes is_float_mark (after_digits 10 t) ≡ m
    → number_kind t ≡ cond m Float Int
plain_kind t m n h = ap (λ b. by_row b (first_passes is_float_mark (after_digits 10 t))) n
    ∙ ap (λ b. cond b Float Int) h

integer_base : (b : Base) (t w x : List ℕ) → IsAfterPrefix b w → t ≡ prefix b ++ w → (begins_base t ≡ true)
    ⊎ ((b ≡ Decimal) × (begins_base t ≡ false))
integer_base Binary t w x h e = inl (ap begins_base e)
integer_base Octal t w x h e = inl (ap begins_base e)
integer_base Hexadecimal t w x h e = inl (ap begins_base e)
integer_base Decimal t w x h e = inr (refl, ap begins_base e ∙ h.1)

no_mark : (x : List ℕ) → first_passes is_exponent_letter x ≡ false → list_all (λ c. not (c == 46)) x ≡ true
    → first_passes is_float_mark x ≡ false
no_mark [] n h = refl
no_mark (c ∷ cs) n h = or_from (c == 46) (is_exponent_letter c)
    (not-true (c == 46) (and_parts (not (c == 46)) (list_all (λ c. not (c == 46)) cs) h).0) n

int_digit : (t : List ℕ) (v : Contents) (x : List ℕ) → StrictInt t v x → first_passes is_ascii_digit t ≡ true
int_digit t v x s =
    let r = (strict_int t x v s).reads in
    ap (first_passes is_ascii_digit) r.text_is ∙ number_front r.base r.digits x r.front

int_kind : (t : List ℕ) (v : Contents) (x : List ℕ) → StrictInt t v x → Int ≡ number_kind t
int_kind t v x s =
    let r = (strict_int t x v s).reads in
    elim (integer_base r.base t (r.digits ++ x) x r.front r.text_is) [
      | inl h ↦ sym (ap (λ b. by_row b (first_passes is_float_mark (after_digits 10 t))) h)
      | inr p ↦
          let part : (c : ℕ) → Bool = is_run_part (is_digit Decimal) in
          let each : list_all part r.digits ≡ true = subst (λ b. list_all (is_run_part (is_digit b)) r.digits ≡ true)
          p.0
          r.each in
          let text : t ≡ r.digits ++ x = r.text_is ∙ ap (λ b. prefix b ++ (r.digits ++ x)) p.0 in
          let after : after_digits 10 t ≡ x = ap (after_digits 10) text
          ∙ (run_past part r.digits x each (suffix_no_part x r.is_suffix)).1 in
          let mark = no_mark x s.no_exponent (suffix_without 46 x foreign_dot r.is_suffix) in
          sym (plain_kind t false p.1 (ap (first_passes is_float_mark) after ∙ mark))
    ]

int_looks : (t : List ℕ) (v : Contents) (x : List ℕ) → StrictInt t v x → OpensNumber Int t
int_looks t v x s = (t, inl refl, int_digit t v x s, int_kind t v x s)

float_kind : (t d r : List ℕ) (c : ℕ) → IsDigits d → t ≡ d ++ (c ∷ r) → is_float_mark c ≡ true
    → is_run_part (is_digit Decimal) c ≡ false → begins_base t ≡ false → Float ≡ number_kind t
float_kind t d r c is e mark stop n =
    let each : list_all (is_run_part (is_digit Decimal)) d ≡ true = sym (all_same (is_run_part is_ascii_digit)
    (is_run_part (is_digit Decimal)) (λ c. ap (λ b. b || (c == 95)) (digit_is_ten c)) d) ∙ is.1 in
    let after : after_digits 10 t ≡ c ∷ r = ap (after_digits 10) e
    ∙ (run_past (is_run_part (is_digit Decimal)) d (c ∷ r) each stop).1 in
    sym (plain_kind t true n (ap (first_passes is_float_mark) after ∙ mark))

letter_kind : (t d e r : List ℕ) → IsDigits d → IsStrictExponent e → t ≡ d ++ (e ++ r) → begins_base t ≡ false
    → Float ≡ number_kind t
letter_kind t d e r is p text n = float_kind t d ((p.sign ++ p.run) ++ r) p.letter is
    (text ∙ ap (λ z. d ++ (z ++ r)) p.text) (or_right (p.letter == 46) (is_exponent_letter p.letter) p.is_letter)
    (letter_no_part p.letter p.is_letter) n

float_digit : (t : List ℕ) (v : Contents) (x : List ℕ) → StrictFloat t v x → first_passes is_ascii_digit t ≡ true
float_digit t v x s =
    let f = strict_float t x v s in
    let more : List ℕ = fraction_text f.fraction ++ exponent_text f.exponent in
    ap (first_passes is_ascii_digit) f.text_is
    ∙ passes_more is_ascii_digit (f.whole ++ more) x (passes_more is_ascii_digit f.whole more f.first)

point_kind : (t d f x numeral : List ℕ) → IsDigits d → t ≡ numeral ++ x → numeral ≡ d ++ (46 ∷ f) → begins_base t ≡
    false → Float ≡ number_kind t
point_kind t d f x numeral is text e n = float_kind t d (f ++ x) 46 is
    (text ∙ ap (λ z. z ++ x) e ∙ append_assoc d (46 ∷ f) x) refl refl n

form_kind : (t numeral x : List ℕ) → t ≡ numeral ++ x → begins_base t ≡ false
    → IsDotAlone numeral x ⊎ (IsPointed numeral x ⊎ IsScientific numeral x) → Float ≡ number_kind t
form_kind t numeral x text n (inl (d, is, e, last)) = point_kind t d [] x numeral is text e n
form_kind t numeral x text n (inr (inl (d, f, is, is_f, e, more))) = point_kind t d f x numeral is text e n
form_kind t numeral x text n (inr (inr (d, p, is, is_p, inl e))) = letter_kind t d p x is is_p
    (text ∙ ap (λ z. z ++ x) e ∙ append_assoc d p x) n
form_kind t numeral x text n (inr (inr (d, p, is, is_p, inr (f, is_f, e)))) =
    point_kind t d (f ++ p) x numeral is text (e ∙ append_assoc d (46 ∷ f) p) n

float_looks : (t : List ℕ) (v : Contents) (x : List ℕ) → StrictFloat t v x → OpensNumber Float t
float_looks t v x s = (t, inl refl, float_digit t v x s, form_kind t s.numeral x s.text s.no_prefix s.form)

-- ---- a literal token of any kind begins as a literal of its kind

pub token_looks : (t : List ℕ) → TokenLooks t
token_looks t Str v x (inl s) = inl (cooked_looks Str t v x refl refl s)
token_looks t Str v x (inr s) = inl (raw_looks Str t v x refl refl s)
token_looks t ByteStr v x (inl s) = inl (cooked_looks ByteStr t v x refl refl s)
token_looks t ByteStr v x (inr s) = inl (raw_looks ByteStr t v x refl refl s)
token_looks t CStr v x (inl s) = inl (cooked_looks CStr t v x refl refl s)
token_looks t CStr v x (inr s) = inl (raw_looks CStr t v x refl refl s)
token_looks t Byte v x (inl s) = inr (inl (single_looks Byte t v x refl refl s))
token_looks t Byte v x (inr s) = absurd s.allowed
token_looks t Char v x (inl s) = inr (inl (single_looks Char t v x refl refl s))
token_looks t Char v x (inr s) = absurd s.allowed
token_looks t Int v x s = inr (inr (inl (int_looks t v x s)))
token_looks t Float v x s = inr (inr (inl (float_looks t v x s)))
token_looks t BoolKind v x s = inr (inr (inr (refl, (s.truth, s.text ∙ truth_words s.truth))))

pub token_told : (t : List ℕ) (r : Option Kind) → IfSome r (LooksLike t) → IfNone r ((k : Kind) → LooksLike t k → ⊥)
    → (k : Kind) (v : Contents) (x : List ℕ) → Strict t k v x → r ≡ Some k
token_told t None y n k v x s = absurd (n k (token_looks t k v x s))
token_told t (Some l) y n k v x s = ap Some (looks_once t l k y (token_looks t k v x s))
