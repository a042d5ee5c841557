-- Decimal integers that Rust reads as floats because of their suffix.
use Rattle.rl_strict.proofs.Names.{◌≡◌, ◌≢◌, ℕ, ◌==◌, Bool, true, false, cond, List, [], ◌∷◌, ◌++◌, refl, sym, ap, subst, ◌∙◌, inl, inr, both_ways, codes, encode_utf8_all, encodes-chars, eqb-true, is_ascii_digit, IsTrue, IsUtf8, ◌↔◌, NoSign, Sign, first_passes, sign_text, run_found, not_among, after_digits, after_minus, passes_more, IsFloatBySuffix, IsFloatSuffix}
use Rattle.rl_syntax.proofs.Common.{chars}
use Rattle.rl_lenient.proofs.Names.{Minus}
use Rattle.rl_lexer.proofs.LexemeRows.{run_past}
use Rattle.rl_strict.proofs.NumberEnds.{in_row, part_row, row_part}

-- ---- the suffixes `f32` and `f64`

-- The text `f32` is ASCII, so the list of its bytes is the list of its characters.
f32_chars : chars (codes "f32") ≡ codes "f32"
unfolding chars
f32_chars = refl

f64_chars : chars (codes "f64") ≡ codes "f64"
unfolding chars
f64_chars = refl

f32_bytes : encode_utf8_all (codes "f32") ≡ codes "f32"
unfolding lib.Utf8.encode
f32_bytes = refl

f64_bytes : encode_utf8_all (codes "f64") ≡ codes "f64"
unfolding lib.Utf8.encode
f64_bytes = refl

pub suffix_chars : (x : List ℕ) → IsFloatSuffix x → IsFloatSuffix (chars x)
suffix_chars x (inl e) = inl (ap chars e ∙ f32_chars)
suffix_chars x (inr e) = inr (ap chars e ∙ f64_chars)

pub other_suffix : (x : List ℕ) → IsUtf8 x → x ≢ codes "f32" → x ≢ codes "f64" → IsFloatSuffix (chars x) → ⊥
other_suffix x u no_f32 no_f64 (inl e) = no_f32 (sym (encodes-chars x u) ∙ ap encode_utf8_all e ∙ f32_bytes)
other_suffix x u no_f32 no_f64 (inr e) = no_f64 (sym (encodes-chars x u) ∙ ap encode_utf8_all e ∙ f64_bytes)

-- The suffixes `f32` and `f64` don't begin with a digit.
no_digit : (x : List ℕ) → IsFloatSuffix x → first_passes is_ascii_digit x ≡ false
no_digit x (inl e) = ap (first_passes is_ascii_digit) e
no_digit x (inr e) = ap (first_passes is_ascii_digit) e

no_row : (x : List ℕ) → IsFloatSuffix x → first_passes in_row x ≡ false
no_row x (inl e) = ap (first_passes in_row) e
no_row x (inr e) = ap (first_passes in_row) e

-- ---- the sign of the number

sign_before : (t : List ℕ) → (s : Sign) × (t ≡ sign_text s ++ after_minus t)
sign_before [] = (NoSign, refl)
sign_before (c ∷ cs) = go (c == 45) refl
  where
    go : (b : Bool) → (c == 45) ≡ b → (s : Sign) × (c ∷ cs ≡ sign_text s ++ after_minus (c ∷ cs))
    go true h = (Minus, ap (λ z. z ∷ cs) (eqb-true c 45 h) ∙ ap (λ b. 45 ∷ cond b cs (c ∷ cs)) (sym h))
    go false h = (NoSign, ap (λ b. cond b cs (c ∷ cs)) (sym h))

past_sign : (s : Sign) (number : List ℕ) → first_passes is_ascii_digit number ≡ true
    → after_minus (sign_text s ++ number) ≡ number
past_sign Minus number digit = refl
past_sign NoSign [] digit = refl
past_sign NoSign (c ∷ cs) digit = ap (λ b. cond b cs (c ∷ cs)) (not_among c 45 is_ascii_digit digit refl)

-- ---- the digits of the number

-- A text is a float by its suffix if the text after its optional minus is decimal digits and the suffix `f32` or `f64`.
by_suffix : (t : List ℕ) → first_passes is_ascii_digit (after_minus t) ≡ true
    → IsFloatSuffix (after_digits 10 (after_minus t)) → IsFloatBySuffix t
by_suffix t digit is_float =
    let signed = sign_before t in
    let found = run_found in_row (after_minus t) in
    record {
      sign = signed.0;
      digits = found.0;
      suffix = after_digits 10 (after_minus t);
      are_digits = (first found.0 found.2, part_row found.0 found.1.each);
      is_float = is_float;
      text_is = signed.1 ∙ ap (λ z. sign_text signed.0 ++ z) found.2;
    }
  where
    first : (run : List ℕ) → after_minus t ≡ run ++ after_digits 10 (after_minus t)
        → first_passes is_ascii_digit run ≡ true
    first [] e = absurd (both_ways (first_passes is_ascii_digit (after_minus t))
        (ap (first_passes is_ascii_digit) e ∙ no_digit (after_digits 10 (after_minus t)) is_float) digit)
    first (c ∷ cs) e = sym (ap (first_passes is_ascii_digit) e) ∙ digit

record Parts (t : List ℕ) : Type 0 where
  pub digit : first_passes is_ascii_digit (after_minus t) ≡ true
  pub is_float : IsFloatSuffix (after_digits 10 (after_minus t))

parts_of : (t : List ℕ) → IsFloatBySuffix t → Parts t
parts_of t f =
    let number = f.digits ++ f.suffix in
    let digit = passes_more is_ascii_digit f.digits f.suffix f.are_digits.0 in
    let same : after_minus t ≡ number = ap after_minus f.text_is ∙ past_sign f.sign number digit in
    let rest : after_digits 10 number ≡ f.suffix = run_past in_row f.digits f.suffix
    (record { each = row_part f.digits f.are_digits.1; ends = no_row f.suffix f.is_float }) in
    record {
      digit = ap (first_passes is_ascii_digit) same ∙ digit;
      is_float = subst IsFloatSuffix (sym (ap (after_digits 10) same ∙ rest)) f.is_float;
    }

-- ---- the code's test for a float by its suffix

pub float_decides : (t number rest : List ℕ) (b : Bool) → number ≡ after_minus t → rest ≡ after_digits 10 number
    → first_passes is_ascii_digit number ≡ true → IsTrue b ↔ IsFloatSuffix rest → IsTrue b ↔ IsFloatBySuffix t
float_decides t number rest b after run digit is =
    let suffix : rest ≡ after_digits 10 (after_minus t) = run ∙ ap (after_digits 10) after in (
      λ h. by_suffix t (sym (ap (first_passes is_ascii_digit) after) ∙ digit) (subst IsFloatSuffix suffix (is.0 h)),
      λ f. is.1 (subst IsFloatSuffix (sym suffix) (parts_of t f).is_float),
    )

pub no_float : (t number : List ℕ) → number ≡ after_minus t → first_passes is_ascii_digit number ≡ false
    → IsTrue false ↔ IsFloatBySuffix t
no_float t number after none = (
  λ h. absurd (both_ways false refl h),
  λ f. absurd (both_ways (first_passes is_ascii_digit number) none
      (ap (first_passes is_ascii_digit) after ∙ (parts_of t f).digit)),
)
