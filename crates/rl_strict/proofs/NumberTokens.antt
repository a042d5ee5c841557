-- The code's parser of numbers reads each number of Rust's grammar to its end.
use Rattle.rl_strict.proofs.Names.{◌≡◌, ◌≢◌, ℕ, ◌||◌, Bool, true, false, not, ◌==◌, List, [], ◌∷◌, ◌++◌, refl, sym, ap, subst, ◌∙◌, inl, inr, append_assoc, append-nil, and_parts, not-true, is_ascii_digit, is_ascii_hexdigit, list_all, list_any, first_passes, is_underscore, Base, Binary, Octal, Decimal, Hexadecimal, radix, prefix, is_exponent_letter, Contents, AllowsSuffix, IsDigits, IsDecimalText, IsNumberSuffix, StrictInt, IsStrictExponent, StrictFloat, foreign_dot, letter_no_part, no_part, suffix_no_part, suffix_without, suffix_of_strict, digit_is_ten, hex_is_sixteen, passes_same, has_value, letter_no_dot, not_based, is_float_mark, digits_end_at, fraction_end_at, suffix_end_at}
use Rattle.rl_strict.proofs.StrictLemmas.{IsStrictNumber}
use Rattle.rl_strict.proofs.NumberEnds.{Passes, based_is, both_fail, decimal_is, digits_plain, digits_power, each_fails, fraction_is, in_row, is_read, number_end_at, power_is, row_bare, row_part, row_plain, some_value, suffix_is_read, whole_digits, whole_dot, whole_plain}

-- ---- the characters that a suffix doesn't begin with

no_row : (x : List ℕ) → IsNumberSuffix x → first_passes in_row x ≡ false
no_row x s = suffix_no_part x (suffix_of_strict x s)

no_digit : (x : List ℕ) → IsNumberSuffix x → first_passes is_ascii_digit x ≡ false
no_digit x s = passes_same is_ascii_digit (has_value 10) digit_is_ten x
    ∙ (each_fails (has_value 10) is_underscore x (no_row x s)).0

no_dot : (x : List ℕ) → IsNumberSuffix x → first_passes (λ c. c == 46) x ≡ false
no_dot [] s = refl
no_dot (c ∷ cs) s = not-true (c == 46) (and_parts (not (c == 46)) (list_all (λ c. not (c == 46)) cs)
    (suffix_without 46 (c ∷ cs) foreign_dot (suffix_of_strict (c ∷ cs) s))).0

no_mark : (x : List ℕ) → IsNumberSuffix x → first_passes is_exponent_letter x ≡ false
    → first_passes is_float_mark x ≡ false
no_mark x s n = both_fail (λ c. c == 46) is_exponent_letter x (no_dot x s) n

-- ---- an exponent

exponent_is : (e x : List ℕ) → IsStrictExponent e → IsNumberSuffix x → digits_end_at (e ++ x) ≡ suffix_end_at x
exponent_is e x p s =
    let each = row_part p.run p.each in
    let some = sym (some_value p.run) ∙ p.some in
    ap digits_end_at (ap (λ z. z ++ x) p.text ∙ ap (λ z. p.letter ∷ z) (append_assoc p.sign p.run x))
    ∙ digits_power p.letter (p.sign ++ (p.run ++ x)) p.is_letter
    ∙ power_is p.sign p.run x true p.is_sign (λ e. row_bare p.run x each some) each some (no_row x s)

-- A test that fails for the letter of an exponent fails for the exponent's first character, which is this letter.
exponent_front : (test : ℕ → Bool) (e x : List ℕ) (p : IsStrictExponent e) → test p.letter ≡ false
    → first_passes test (e ++ x) ≡ false
exponent_front test e x p h = ap (λ z. first_passes test (z ++ x)) p.text ∙ h

-- ---- a float

dot_alone : (t d numeral x : List ℕ) → IsDecimalText t → IsDigits d → numeral ≡ d ++ (46 ∷ []) → x ≡ []
    → t ≡ numeral ++ x → Passes number_end_at t
unfolding fraction_end_at
dot_alone t d numeral x n h is e text =
    let whole : t ≡ d ++ (46 ∷ []) = text ∙ ap (λ z. numeral ++ z) e ∙ append-nil numeral ∙ is in
    ap is_read (decimal_is t d (46 ∷ []) (not_based t n) whole h refl ∙ whole_dot [])

pointed : (t d f numeral x : List ℕ) → IsDecimalText t → IsDigits d → IsDigits f → numeral ≡ d ++ (46 ∷ f) →
    first_passes is_exponent_letter x ≡ false → IsNumberSuffix x → t ≡ numeral ++ x → number_end_at t ≡ suffix_end_at x
pointed t d f numeral x n h k is p s text =
    let whole : t ≡ d ++ (46 ∷ (f ++ x)) = text ∙ ap (λ z. z ++ x) is ∙ append_assoc d (46 ∷ f) x in
    decimal_is t d (46 ∷ (f ++ x)) (not_based t n) whole h refl ∙ whole_dot (f ++ x) ∙ fraction_is f x k (no_row x s)
    ∙ digits_plain x p

scientific : (t d e numeral x : List ℕ) → IsDecimalText t → IsDigits d → IsStrictExponent e → numeral ≡ d ++ e
    → IsNumberSuffix x → t ≡ numeral ++ x → number_end_at t ≡ suffix_end_at x
scientific t d e numeral x n h p is s text =
    decimal_is t d (e ++ x) (not_based t n) (text ∙ ap (λ z. z ++ x) is ∙ append_assoc d e x) h
    (exponent_front in_row e x p (letter_no_part p.letter p.is_letter))
    ∙ whole_digits (e ++ x) (exponent_front (λ c. c == 46) e x p (letter_no_dot p.letter p.is_letter))
    ∙ exponent_is e x p s

pointed_power : (t d f e numeral x : List ℕ) → IsDecimalText t → IsDigits d → IsDigits f → IsStrictExponent e
    → numeral ≡ (d ++ (46 ∷ f)) ++ e → IsNumberSuffix x → t ≡ numeral ++ x → number_end_at t ≡ suffix_end_at x
pointed_power t d f e numeral x n h k p is s text =
    let y : List ℕ = e ++ x in
    let whole : t ≡ d ++ (46 ∷ (f ++ y)) = text ∙ ap (λ z. z ++ x) is ∙ append_assoc (d ++ (46 ∷ f)) e x
    ∙ append_assoc d (46 ∷ f) y in
    decimal_is t d (46 ∷ (f ++ y)) (not_based t n) whole h refl ∙ whole_dot (f ++ y)
    ∙ fraction_is f y k (exponent_front in_row e x p (letter_no_part p.letter p.is_letter)) ∙ exponent_is e x p s

float_passes : (t x : List ℕ) (v : Contents) → StrictFloat t v x → Passes number_end_at t
float_passes t x v s =
    let n = s.no_prefix in
    let read = suffix_is_read x s.suffix in
    elim s.form [
      | inl a ↦ dot_alone t a.0 s.numeral x n a.1 a.2 a.3 s.text
      | inr b ↦ elim b [
        | inl a ↦ ap is_read (pointed t a.0 a.1 s.numeral x n a.2 a.3 a.4 a.5 s.suffix s.text) ∙ read
        | inr a ↦ elim a.4 [
          | inl e ↦ ap is_read (scientific t a.0 a.1 s.numeral x n a.2 a.3 e s.suffix s.text) ∙ read
          | inr e ↦ ap is_read (pointed_power t a.0 e.0 a.1 s.numeral x n a.2 e.1 a.3 e.2 s.suffix s.text) ∙ read
        ]
      ]
    ]

-- ---- an integer

decimal_passes : (t x : List ℕ) (v : Contents) (s : StrictInt t v x) → s.prefix ≡ [] → IsDigits s.run
    → IsDecimalText t → Passes number_end_at t
decimal_passes t x v s p d n =
    ap is_read (decimal_is t s.run x (not_based t n) (s.text ∙ ap (λ z. (z ++ s.run) ++ x) p) d (no_row x s.suffix)
    ∙ whole_plain x (no_mark x s.suffix s.no_exponent)) ∙ suffix_is_read x s.suffix

based_passes : (b : Base) (t x : List ℕ) (v : Contents) (s : StrictInt t v x) → b ≢ Decimal → s.prefix ≡ prefix b
    → s.base ≡ radix b → AllowsSuffix b x → Passes number_end_at t
based_passes b t x v s n p base of =
    let All : ℕ → Type 0 = λ r. list_all (λ c. has_value r c || is_underscore c) s.run ≡ true in
    let Any : ℕ → Type 0 = λ r. list_any (has_value r) s.run ≡ true in
    ap is_read (ap number_end_at (s.text ∙ ap (λ z. (z ++ s.run) ++ x) p)
    ∙ based_is b s.run x n (subst All base s.each) (no_part b x (suffix_of_strict x s.suffix) of)
    ∙ row_plain b s.run x (subst Any base s.some) (no_digit x s.suffix) (no_mark x s.suffix s.no_exponent))
    ∙ suffix_is_read x s.suffix

int_passes : (t x : List ℕ) (v : Contents) → StrictInt t v x → Passes number_end_at t
int_passes t x v s =
    elim s.is_front [
      | inl f ↦ decimal_passes t x v s f.0 f.2 f.3
      | inr f ↦ elim f [
        | inl g ↦ based_passes Binary t x v s (λ e. absurd (cc)) g.0 g.1 tt
        | inr g ↦ elim g [
          | inl h ↦ based_passes Octal t x v s (λ e. absurd (cc)) h.0 h.1 tt
          | inr h ↦ based_passes Hexadecimal t x v s (λ e. absurd (cc)) h.0 h.1
              (sym (passes_same is_ascii_hexdigit (has_value 16) hex_is_sixteen x) ∙ s.no_digit h.1)
        ]
      ]
    ]

-- ---- a number

pub number_passes : (t : List ℕ) → IsStrictNumber t → Passes number_end_at t
number_passes t (v, x, inl s) = int_passes t x v s
number_passes t (v, x, inr s) = float_passes t x v s
