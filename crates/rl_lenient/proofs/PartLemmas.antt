-- The parts of numbers, as the code finds them.
use Rattle.rl_syntax.proofs.Common.{◌≡◌, ℕ, true, false, cond, List, ◌∷◌, ◌++◌, Option, Some, None, refl, sym, ap, subst, ◌∙◌, append_cancel_right, is_ascii_digit}
use Rattle.rl_lenient.proofs.Names.{first_passes, is_run_part, prefix, radix, Sign, Fraction, NoFraction, Dot, fraction_text, IsFraction, IntReads, FloatReads, Kind, Float, ReadsAs, HasNoReading, HasSuffix}
use Rattle.rl_syntax.specs.Numbers.{Exponent, NoExponent, Power, exponent_text, IsExponent}
use Rattle.rl_syntax.proofs.OneNumber.{float_once}
use Rattle.rl_syntax.proofs.OneReading.{one_reading}
use Rattle.rl_syntax.proofs.StrictNumbers.{letter_no_part, no_part}
use Rattle.rl_lenient.specs.Mirrors.NumberAt.{run, has_value, digit_run_at, after_digits, after_minus, radix_at}
use Rattle.rl_lenient.proofs.FloatLemmas.{fraction_stops, letter_no_dot}
use Rattle.rl_lenient.proofs.IntegerLemmas.{minus_past, radix_past}
use Rattle.rl_lenient.proofs.RunLemmas.{run_join, run_past}
use Rattle.rl_lenient.proofs.TestLemmas.{passes_more}
use Rattle.rl_lenient.specs.PartMirrors.PartsAt.{fraction_at, after_letter}
use Rattle.rl_lenient.specs.NumberParts.{IsFloatOf, IsIntegerOf, HasOneFloatOf, HasOneIntegerOf, fraction_run, power_run}

-- ---- parse results

-- A text without a parse result isn't a literal of any kind.
pub reads_as_none : (t : List ℕ) (kind : Kind) → HasNoReading t → ReadsAs kind t → ⊥
reads_as_none t kind h (v, x, r) = h kind v x r

-- A literal of one kind isn't a literal of another kind.
pub reads_as_other : (t x : List ℕ) (found kind : Kind) → HasSuffix found t x → (found ≡ kind → ⊥) → ReadsAs kind t → ⊥
reads_as_other t x found kind (v, r) other (w, y, s) = other (one_reading t found kind v w x y r s).0

-- If the kind in a text's parse result is `Float`, the text is a float literal.
pub found_float : (t x : List ℕ) (kind : Kind) → kind ≡ Float → HasSuffix kind t x → (n : List ℕ) × FloatReads t n x
found_float t x kind e h = let r = subst (λ (k : Kind). HasSuffix k t x) e h in (r.1.numeral, r.1.reads)

-- ---- sequences of digits

-- A text is split into `front` and `rest`. If `rest` is the text after the leading digits and underscores, `front` is those
-- digits and underscores.
pub row_front : (t front rest : List ℕ) → t ≡ front ++ rest → rest ≡ after_digits 10 t → front ≡ digit_run_at 10 t
row_front t front rest is stops =
    append_cancel_right front (digit_run_at 10 t) rest (sym is ∙ run_join (is_run_part (has_value 10)) t
    ∙ ap (λ z. digit_run_at 10 t ++ z) (sym stops))

-- ---- integers

integer_row : (t : List ℕ) (s : Sign) (m : ℕ) (x : List ℕ) (r : IntReads t s m x)
    → radix_at (after_minus t) ≡ (radix r.base, r.digits ++ x)
integer_row t s m x r =
    let q = radix_past r.base (r.digits ++ x) r.front in
    ap (λ z. radix_at (after_minus z)) r.text_is
    ∙ ap radix_at (minus_past s (prefix r.base ++ (r.digits ++ x)) q.1).0
    ∙ q.0

pub integer_of : (t : List ℕ) (s : Sign) (m : ℕ) (x : List ℕ) (r : IntReads t s m x) (base : ℕ) (row digits rest : List ℕ)
    → (base, row) ≡ radix_at (after_minus t) → row ≡ digits ++ rest → rest ≡ after_digits base row
    → (base ≡ radix r.base) × (digits ≡ r.digits)
integer_of t s m x r base row digits rest from is stops =
    let both : ◌≡◌ {A = ℕ × List ℕ} (base, row) (radix r.base, r.digits ++ x) = from ∙ integer_row t s m x r in
    let base_is : base ≡ radix r.base = ap (λ (p : ℕ × List ℕ). p.0) both in
    let row_is : row ≡ r.digits ++ x = ap (λ (p : ℕ × List ℕ). p.1) both in
    let past = run_past (is_run_part (has_value (radix r.base))) r.digits x r.each
    (no_part r.base x r.is_suffix r.is_suffix_of) in
    let left : rest ≡ x = stops ∙ ap (λ b. after_digits b row) base_is ∙ ap (after_digits (radix r.base)) row_is
    ∙ past.1 in
    (base_is, append_cancel_right digits r.digits x (ap (λ z. digits ++ z) (sym left) ∙ sym is ∙ row_is))

pub integer_is : (t : List ℕ) (m : ℕ) (x : List ℕ) (base : ℕ) (row digits rest : List ℕ)
    → ((s : Sign) × IntReads t s m x) → (base, row) ≡ radix_at (after_minus t) → row ≡ digits ++ rest
    → rest ≡ after_digits base row → IsIntegerOf t base digits
integer_is t m x base row digits rest (s, r) from is stops =
    let parts = integer_of t s m x r base row digits rest from is stops in
    (s, m, x, r, parts.0, parts.1)

-- ---- floats

-- The text of an exponent doesn't begin with a digit or an underscore.
exponent_stops : (e : Exponent) (x : List ℕ) → IsExponent e x
    → first_passes (is_run_part (has_value 10)) (exponent_text e) ≡ false
exponent_stops NoExponent x h = refl
exponent_stops (Power letter us sg row) x h = letter_no_part letter h.0

-- For the text of an exponent, `after_letter` returns the text after the exponent's letter.
letter_past : (e : Exponent) → after_letter (exponent_text e) ≡ power_run e
letter_past NoExponent = refl
letter_past (Power letter us sg row) = refl

-- For a float's fraction and exponent, `fraction_at` returns the digits of the fraction, and the text of the exponent.
fraction_past : (f : Fraction) (e : Exponent) (x : List ℕ) → IsFraction f → IsExponent e x
    → fraction_at (fraction_text f ++ exponent_text e) ≡ (fraction_run f, exponent_text e)
fraction_past NoFraction NoExponent x h k = refl
fraction_past NoFraction (Power letter us sg row) x h k =
    ap (λ b. cond b (Some (digit_run_at 10 (us ++ (sg ++ row))), after_digits 10 (us ++ (sg ++ row)))
    (None, letter ∷ (us ++ (sg ++ row)))) (letter_no_dot letter k.0)
fraction_past (Dot row) e x h k =
    let past = run_past (is_run_part (has_value 10)) row (exponent_text e) h (exponent_stops e x k) in
    ap (λ z. (Some z, after_digits 10 (row ++ exponent_text e))) past.0 ∙ ap (λ z. (Some row, z)) past.1

-- The parts of a float's text before its suffix, as the code finds them: the digits before the dot, the fraction, and the
-- exponent.
pub record Split (numeral whole : List ℕ) (fraction exponent : Option (List ℕ)) : Type 0 where
  pub unsigned : List ℕ
  pub unsigned_is : unsigned ≡ after_minus numeral
  pub whole_is : whole ≡ digit_run_at 10 unsigned
  pub power : List ℕ
  pub fraction_is : (fraction, power) ≡ fraction_at (after_digits 10 unsigned)
  pub exponent_is : exponent ≡ after_letter power

pub float_of : (t n x : List ℕ) (r : FloatReads t n x) (whole : List ℕ) (fraction exponent : Option (List ℕ))
    → Split n whole fraction exponent
    → (whole ≡ r.whole) × (fraction ≡ fraction_run r.fraction) × (exponent ≡ power_run r.exponent)
float_of t n x r whole fraction exponent s =
    let e : List ℕ = exponent_text r.exponent in
    let y : List ℕ = fraction_text r.fraction ++ e in
    let u : List ℕ = r.whole ++ y in
    let first : first_passes is_ascii_digit u ≡ true = passes_more is_ascii_digit r.whole y r.first in
    let unsigned : s.unsigned ≡ u = s.unsigned_is ∙ ap after_minus r.numeral_is ∙ (minus_past r.sign u first).0 in
    let past = run_past (is_run_part (has_value 10)) r.whole y r.each
    (fraction_stops r.fraction e (exponent_stops r.exponent x r.is_exponent)) in
    let left : after_digits 10 s.unsigned ≡ y = ap (after_digits 10) unsigned ∙ past.1 in
    let both : ◌≡◌ {A = Option (List ℕ) × List ℕ} (fraction, s.power) (fraction_run r.fraction, e) =
    s.fraction_is ∙ ap fraction_at left ∙ fraction_past r.fraction r.exponent x r.is_fraction r.is_exponent in (
      s.whole_is ∙ ap (digit_run_at 10) unsigned ∙ past.0,
      ap (λ (p : Option (List ℕ) × List ℕ). p.0) both,
      s.exponent_is ∙ ap after_letter (ap (λ (p : Option (List ℕ) × List ℕ). p.1) both) ∙ letter_past r.exponent,
    )

pub float_is : (t numeral suffix whole : List ℕ) (fraction exponent : Option (List ℕ))
    → ((n : List ℕ) × FloatReads t n suffix)
    → t ≡ numeral ++ suffix → Split numeral whole fraction exponent → IsFloatOf t whole fraction exponent
float_is t numeral suffix whole fraction exponent (n, r) is s =
    let same : numeral ≡ n = append_cancel_right numeral n suffix (sym is ∙ r.text_is) in
    let parts = float_of t n suffix r whole fraction exponent
    (subst (λ (z : List ℕ). Split z whole fraction exponent) same s) in
    (n, suffix, r, parts.0, parts.1, parts.2)

-- ---- laws

-- If a text is an integer with a base and digits, the base is that of the text's prefix, and the digits follow this prefix.
integer_row_is : (t : List ℕ) (base : ℕ) (digits : List ℕ) → IsIntegerOf t base digits
    → (base ≡ (radix_at (after_minus t)).0)
    × (digits ≡ run (is_run_part (has_value (radix_at (after_minus t)).0)) (radix_at (after_minus t)).1)
integer_row_is t base digits (s, m, x, r, base_is, digits_are) =
    let at = integer_row t s m x r in
    let past = run_past (is_run_part (has_value (radix r.base))) r.digits x r.each
    (no_part r.base x r.is_suffix r.is_suffix_of) in (
      base_is ∙ sym (ap (λ (p : ℕ × List ℕ). p.0) at),
      digits_are ∙ sym past.0 ∙ sym (ap (λ (p : ℕ × List ℕ). run (is_run_part (has_value p.0)) p.1) at),
    )

pub one_integer_of : (t : List ℕ) → HasOneIntegerOf t
one_integer_of t base other digits others a b =
    let first = integer_row_is t base digits a in
    let second = integer_row_is t other others b in
    (first.0 ∙ sym second.0, first.1 ∙ sym second.1)

-- For each text before a float's suffix, the code finds the parts: the digits before the dot, the fraction, and the exponent.
split_of : (n : List ℕ) → Split n (digit_run_at 10 (after_minus n)) (fraction_at (after_digits 10 (after_minus n))).0
    (after_letter (fraction_at (after_digits 10 (after_minus n))).1)
split_of n = record {
  unsigned = after_minus n;
  unsigned_is = refl;
  whole_is = refl;
  power = (fraction_at (after_digits 10 (after_minus n))).1;
  fraction_is = refl;
  exponent_is = refl;
}

pub one_float_of : (t : List ℕ) → HasOneFloatOf t
one_float_of t whole other_whole fraction other_fraction exponent other_exponent (n, x, r, w, f, e) (m, y, s, v, g, h) =
    let same = float_once t n m x y r s in
    let first = float_of t n x r _ _ _ (split_of n) in
    let second = float_of t m y s _ _ _ (split_of m) in
    let whole_is : r.whole ≡ s.whole = sym first.0 ∙ ap (λ z. digit_run_at 10 (after_minus z)) same.0 ∙ second.0 in
    let fraction_is : fraction_run r.fraction ≡ fraction_run s.fraction = sym first.1
    ∙ ap (λ z. (fraction_at (after_digits 10 (after_minus z))).0) same.0 ∙ second.1 in
    let exponent_is : power_run r.exponent ≡ power_run s.exponent = sym first.2
    ∙ ap (λ z. after_letter (fraction_at (after_digits 10 (after_minus z))).1) same.0 ∙ second.2 in
    (w ∙ whole_is ∙ sym v, f ∙ fraction_is ∙ sym g, e ∙ exponent_is ∙ sym h)
