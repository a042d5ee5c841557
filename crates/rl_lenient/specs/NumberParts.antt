-- The parts of integer and float literals, without sign and suffix. The parts are fields of the records `IntReads` and
-- `FloatReads`, which state how a text is parsed.
use Rattle.std.specs.Prelude.{◌≡◌, ℕ, List, ◌++◌, Option, Some, None}
use Rattle.rl_syntax.specs.Numbers.{Sign, IntReads, radix, FloatReads, Fraction, NoFraction, Dot, Exponent, NoExponent, Power}

-- The text is an integer literal of the given base, with the given digits. The digits include underscores.
abbrev pub IsIntegerOf : List ℕ → ℕ → List ℕ → Type 0
IsIntegerOf text base digits =
    (sign : Sign) × (magnitude : ℕ) × (suffix : List ℕ) × (r : IntReads text sign magnitude suffix)
    × (base ≡ radix r.base) × (digits ≡ r.digits)

-- The text after a float's dot, or `None` without a dot.
abbrev pub fraction_run : Fraction → Option (List ℕ)
fraction_run NoFraction = None
fraction_run (Dot run) = Some run

-- The text after the letter of a float's exponent, or `None` without an exponent.
abbrev pub power_run : Exponent → Option (List ℕ)
power_run NoExponent = None
power_run (Power letter underscores sign run) = Some (underscores ++ (sign ++ run))

-- The text is a float literal with the given parts: the digits before its dot, the text after its dot, and the text after its
-- exponent's letter.
abbrev pub IsFloatOf : List ℕ → List ℕ → Option (List ℕ) → Option (List ℕ) → Type 0
IsFloatOf text whole fraction exponent =
    (numeral : List ℕ) × (suffix : List ℕ) × (r : FloatReads text numeral suffix)
    × (whole ≡ r.whole) × (fraction ≡ fraction_run r.fraction) × (exponent ≡ power_run r.exponent)

-- As an integer literal, the text has at most one base and one sequence of digits.
abbrev pub HasOneIntegerOf : List ℕ → Type 0
HasOneIntegerOf text =
    (base other : ℕ) (digits others : List ℕ) → IsIntegerOf text base digits → IsIntegerOf text other others
    → (base ≡ other) × (digits ≡ others)

-- As a float literal, the text has at most one sequence of digits before its dot, one fraction and one exponent.
abbrev pub HasOneFloatOf : List ℕ → Type 0
HasOneFloatOf text =
    (whole other_whole : List ℕ) (fraction other_fraction exponent other_exponent : Option (List ℕ))
    → IsFloatOf text whole fraction exponent → IsFloatOf text other_whole other_fraction other_exponent
    → (whole ≡ other_whole) × (fraction ≡ other_fraction) × (exponent ≡ other_exponent)
