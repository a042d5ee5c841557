-- Decimal numbers that round to infinity. A numeral is the text before a float's suffix, a list of characters: digits with
-- underscores among them, an optional dot, and an optional exponent (a letter and digits).
use Rattle.std.specs.Prelude.{ℕ, ◌+◌, ◌-◌, ◌*◌, ◌^◌, ◌≤◌, ◌==◌, Bool, List, [], ◌∷◌, filter, length, take, if◌then◌else◌}
use Rattle.std.specs.Char.{is_ascii_digit}
use Rattle.std.specs.List.{list_any}
use Prim.Native.Char.{code}
use Rattle.rl_syntax.specs.Numbers.{is_exponent_letter}
use Rattle.rl_syntax.specs.Spelling.{place_value}

-- The part of a numeral before the letter of its exponent.
abbrev pub decimal_part : List ℕ → List ℕ
decimal_part [] = []
decimal_part (c ∷ cs) = if is_exponent_letter c then [] else c ∷ decimal_part cs

-- The part of a numeral after the letter of its exponent.
abbrev pub power_part : List ℕ → List ℕ
power_part [] = []
power_part (c ∷ cs) = if is_exponent_letter c then cs else power_part cs

abbrev pub after_point : List ℕ → List ℕ
after_point [] = []
after_point (c ∷ cs) = if c == code "." then cs else after_point cs

abbrev pub digits_only : List ℕ → List ℕ
digits_only cs = filter is_ascii_digit cs

-- The integer that the digits before a numeral's exponent represent, without the dot.
abbrev pub significand : List ℕ → ℕ
significand numeral = place_value 10 (digits_only (decimal_part numeral))

-- The integer that the digits of a numeral's exponent represent, without its sign.
abbrev pub exponent : List ℕ → ℕ
exponent numeral = place_value 10 (digits_only (power_part numeral))

abbrev pub has_minus : List ℕ → Bool
has_minus numeral = list_any (λ c. c == code "-") (power_part numeral)

-- The exponent of the power of ten that multiplies the significand. It is 0 if the numeral's exponent is negative.
abbrev pub raised : List ℕ → ℕ
raised numeral = if has_minus numeral then 0 else exponent numeral

-- The exponent of the power of ten that divides the significand. It is the number of digits after the dot, plus the magnitude
-- of a negative exponent.
abbrev pub lowered : List ℕ → ℕ
lowered numeral =
    length (digits_only (after_point (decimal_part numeral))) + (if has_minus numeral then exponent numeral else 0)

-- The decimal number is at least the integer `least`.
abbrev pub IsAtLeast : ℕ → List ℕ → Type 0
IsAtLeast least numeral = least * 10 ^ lowered numeral ≤ significand numeral * 10 ^ raised numeral

-- The text of a number before its suffix.
abbrev pub numeral_of : List ℕ → List ℕ → List ℕ
numeral_of text suffix = take (length text - length suffix) text
