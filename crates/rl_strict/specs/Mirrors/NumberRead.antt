-- An executable model of the code, for proofs only: parses a number of Rust's grammar from left to right, to the number's
-- end or its flaw.
use Rattle.std.specs.Prelude.{ℕ, ◌==◌, not, List, [], ◌∷◌, Option, Some, None, Result, Ok, Err, if◌then◌else◌}
use Rattle.std.specs.Char.{is_ascii_digit}
use Rattle.std.specs.Str.{chars}
use Prim.Native.Char.{code}
use Rattle.rl_syntax.specs.Texts.{first_passes}
use Rattle.rl_syntax.specs.Numbers.{is_exponent_letter, capped}
use Rattle.rl_lenient.specs.Mirrors.NumberAt.{after_digits, after_power_sign, has_digit_at, magnitude_at, radix_at}
use Rattle.rl_lenient.specs.Mirrors.PlainAt.{is_some_text}
use Rattle.rl_strict.specs.declared.flaws.FlawKind.{FlawKind}
use Rattle.rl_strict.specs.declared.flaws.FlawKind.TheVariants.{BadSuffix, BasedFloat, InvalidDigit, NoDigits, NoExponentDigit, NoFractionDigit}
use Rattle.rl_strict.specs.StrictNumberFlaws.{is_float_mark}
use Rattle.rl_strict.specs.Mirrors.StrictFlawAt.{suffix_rest}
use Rattle.rl_strict.specs.declared.read_numbers.Number.{Number}
use Rattle.rl_strict.specs.declared.read_numbers.Number.TheVariants.{Integer, Float}
use Rattle.rl_strict.specs.declared.read_numbers.Stop.{Stop}

-- The result of parsing the end of a number: no flaw and the suffix, or a kind of flaw and the text that begins at the flaw.
abbrev pub Ending : Type 0
Ending = Option FlawKind × List ℕ

abbrev pub ended : List ℕ → Ending
ended x = (None, x)

abbrev pub stopped : FlawKind → List ℕ → Ending
stopped k rest = (Some k, rest)

-- Converts the result of a function of the code to the result that the executable model returns. The function `of` returns
-- the suffix of a parsed value.
abbrev pub outcome : {X : Type 0} → (X → List ℕ) → Result X Stop → Ending
outcome of (Ok x) = ended (of x)
outcome of (Err s) = stopped s.kind (chars s.rest.now)

-- Parses a suffix after a number's digits.
unfoldable pub suffix_end_at : List ℕ → Ending
suffix_end_at t = if is_some_text (suffix_rest t) then stopped BadSuffix (suffix_rest t) else ended t

-- Parses the text after the letter of an exponent.
unfoldable pub power_end_at : List ℕ → Ending
power_end_at t =
    if has_digit_at 10 (after_power_sign t) then suffix_end_at (after_digits 10 (after_power_sign t))
    else stopped NoExponentDigit (after_digits 10 (after_power_sign t))

-- Parses the text after the digits of a fraction.
unfoldable pub digits_end_at : List ℕ → Ending
digits_end_at [] = suffix_end_at []
digits_end_at (c ∷ cs) = if is_exponent_letter c then power_end_at cs else suffix_end_at (c ∷ cs)

-- Parses the text after a float's dot.
unfoldable pub fraction_end_at : List ℕ → Ending
fraction_end_at [] = ended []
fraction_end_at (c ∷ cs) =
    if is_ascii_digit c then digits_end_at (after_digits 10 (c ∷ cs)) else stopped NoFractionDigit (c ∷ cs)

-- The result of parsing a number. The first part is the kind of flaw, or `None`. The second part is `Some m` for an integer
-- with the magnitude `m`, and `None` for a float or a flaw. Above 128 bits, `m` is `None`. The last part is the suffix, or
-- the text that begins at the flaw.
abbrev pub NumberRead : Type 0
NumberRead = Option FlawKind × Option (Option ℕ) × List ℕ

abbrev pub as_float : Ending → NumberRead
as_float (None, x) = (None, None, x)
as_float (Some k, x) = (Some k, None, x)

abbrev pub as_integer : Option ℕ → Ending → NumberRead
as_integer m (None, x) = (None, Some m, x)
as_integer m (Some k, x) = (Some k, None, x)

abbrev pub number_outcome : Result Number Stop → NumberRead
number_outcome (Ok (Integer m x)) = (None, Some m, chars x.now)
number_outcome (Ok (Float x)) = (None, None, chars x.now)
number_outcome (Err s) = (Some s.kind, None, chars s.rest.now)

-- Parses the text after a decimal whole part, whose magnitude is `m`.
unfoldable pub whole_read_at : Option ℕ → List ℕ → NumberRead
whole_read_at m [] = as_integer m (suffix_end_at [])
whole_read_at m (c ∷ cs) =
    if c == code "." then as_float (fraction_end_at cs)
    else (if is_exponent_letter c then as_float (power_end_at cs)
    else as_integer m (suffix_end_at (c ∷ cs)))

-- Parses the text after the prefix of a base other than ten.
unfoldable pub based_read_at : ℕ → List ℕ → NumberRead
based_read_at radix t =
    if first_passes is_ascii_digit (after_digits radix t) then as_float (stopped InvalidDigit (after_digits radix t))
    else (if not (has_digit_at radix t) then as_float (stopped NoDigits (after_digits radix t))
    else (if first_passes is_float_mark (after_digits radix t) then as_float (stopped BasedFloat (after_digits radix t))
    else as_integer (capped (magnitude_at radix t)) (suffix_end_at (after_digits radix t))))

unfoldable pub number_read_at : List ℕ → NumberRead
number_read_at t =
    if (radix_at t).0 == 10
    then whole_read_at (capped (magnitude_at 10 (radix_at t).1)) (after_digits 10 (radix_at t).1)
    else based_read_at (radix_at t).0 (radix_at t).1
