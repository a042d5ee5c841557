-- The meaning of each kind of flaw in a text that begins as a number of Rust's grammar, or as neither a number nor a quoted
-- literal. `front` is the text before the flaw, and `rest` the text that begins at the flaw.
use Rattle.std.specs.Prelude.{◌≡◌, ◌≢◌, ◌⊎◌, ℕ, ◌==◌, ◌||◌, Bool, IsTrue, IsFalse, List, [], ◌∷◌, ◌++◌, codes}
use Rattle.std.specs.Char.{is_ascii_digit}
use Rattle.std.specs.List.{list_all, list_any}
use Prim.Native.Char.{code}
use Rattle.rl_syntax.specs.Numbers.{Base, Decimal, is_digit, is_exponent_letter, is_power_sign, prefix}
use Rattle.rl_syntax.specs.Reading.{truth_text}
use Rattle.rl_syntax.specs.Strict.{IsDigits}
use Rattle.rl_syntax.specs.Texts.{first_passes, is_run_part, is_underscore}
use Rattle.rl_strict.specs.declared.flaws.FlawKind.{FlawKind}
use Rattle.rl_strict.specs.declared.flaws.FlawKind.TheVariants.{Empty, NotALiteral, UnexpectedEnd, NoExponentDigit, BadSuffix, Minus, NoDigits, InvalidDigit, BasedFloat, NoFractionDigit}
use Rattle.rl_strict.specs.FlawKinds.{Begins}
use Rattle.rl_strict.specs.StrictShapes.{IsToken}

-- A character that continues the whole part of a decimal number to a float: a dot, `e` or `E`.
abbrev pub is_float_mark : ℕ → Bool
is_float_mark c = c == code "." || is_exponent_letter c

-- `front` is the prefix of a base other than ten, such as `0x`, followed by `run`. `run` has only digits of the base and
-- underscores.
pub record IsBasedRun (base : Base) (run front : List ℕ) : Type 0 where
  pub not_decimal : base ≢ Decimal
  pub each : IsTrue (list_all (is_run_part (is_digit base)) run)
  pub front_is : front ≡ prefix base ++ run

-- The text is empty, or a dot and digits.
abbrev pub IsStrictFraction : List ℕ → Type 0
IsStrictFraction fraction = (fraction ≡ []) ⊎ ((digits : List ℕ) × IsDigits digits × (fraction ≡ code "." ∷ digits))

-- `front` is the start of a float up to the first digit of its exponent: a whole part, an optional fraction, `e` or `E`, an
-- optional sign, and underscores. An example is `1.5e-_`.
pub record EndsInPower (front : List ℕ) : Type 0 where
  pub whole : List ℕ
  pub fraction : List ℕ
  pub letter : ℕ
  pub sign : List ℕ
  pub underscores : List ℕ
  pub is_whole : IsDigits whole
  pub is_fraction : IsStrictFraction fraction
  pub is_letter : IsTrue (is_exponent_letter letter)
  pub is_sign : IsTrue (is_power_sign sign)
  pub all_underscores : IsTrue (list_all is_underscore underscores)
  pub front_is : front ≡ whole ++ (fraction ++ (letter ∷ (sign ++ underscores)))

-- A number's digits are missing or invalid. In the order of the equations, the flaws are: no digit after the prefix of a
-- base, a digit that the base doesn't have, a dot or an exponent after digits of a base, no digit after the dot, and no
-- digit in the exponent.
abbrev pub IsDigitFlaw : FlawKind → List ℕ → List ℕ → Type 0
IsDigitFlaw NoDigits front rest =
    (base : Base) × (run : List ℕ) × IsBasedRun base run front × IsTrue (list_all is_underscore run)
    × IsFalse (first_passes (λ c. is_ascii_digit c || is_run_part (is_digit base) c) rest)
IsDigitFlaw InvalidDigit front rest =
    (base : Base) × (run : List ℕ) × IsBasedRun base run front × Begins is_ascii_digit rest
    × IsFalse (first_passes (is_digit base) rest)
IsDigitFlaw BasedFloat front rest =
    (base : Base) × (run : List ℕ) × IsBasedRun base run front × IsTrue (list_any (is_digit base) run)
    × Begins is_float_mark rest × IsFalse (first_passes (is_digit base) rest)
IsDigitFlaw NoFractionDigit front rest =
    (whole : List ℕ) × IsDigits whole × (front ≡ whole ++ codes ".") × (rest ≢ [])
    × IsFalse (first_passes is_ascii_digit rest)
IsDigitFlaw NoExponentDigit front rest =
    (power : EndsInPower front) × IsFalse (first_passes (is_run_part (is_digit Decimal)) rest)
    × (power.sign ++ power.underscores ≡ [] → IsFalse (first_passes (λ c. is_power_sign (c ∷ [])) rest))
IsDigitFlaw kind front rest = ⊥

-- The flaw of a number: its digits are missing or invalid (`IsDigitFlaw`), or the text before the flaw is a number with an
-- optional suffix, and the next character can't continue it.
abbrev pub IsStrictNumberFlaw : FlawKind → List ℕ → List ℕ → Type 0
IsStrictNumberFlaw BadSuffix front rest =
    IsToken front × (rest ≢ []) × ((kind : FlawKind) → IsDigitFlaw kind front rest → ⊥)
IsStrictNumberFlaw kind front rest = IsDigitFlaw kind front rest

-- The text is `true`, `false`, or a prefix of `true` or `false`.
pub record BeginsTruth (text : List ℕ) : Type 0 where
  pub truth : Bool
  pub more : List ℕ
  pub word_is : truth_text truth ≡ text ++ more

-- The text is `b`, `c`, or a prefix of `true` or `false`.
abbrev pub BeginsWord : List ℕ → Type 0
BeginsWord text = (text ≡ codes "b") ⊎ (text ≡ codes "c") ⊎ BeginsTruth text

-- The flaws of texts that begin neither as a number, nor with a minus, nor as a quoted literal. In the order of the
-- equations, the flaws are: the text is empty, the text ends too soon, and a character can't continue the text to a literal.
abbrev pub IsWordFlaw : FlawKind → List ℕ → List ℕ → Type 0
IsWordFlaw Empty front rest = (front ≡ []) × (rest ≡ [])
IsWordFlaw UnexpectedEnd front rest = BeginsWord front × (front ≢ []) × (rest ≡ [])
IsWordFlaw NotALiteral front rest = BeginsWord front × (rest ≢ [])
IsWordFlaw kind front rest = ⊥

-- The flaws of texts that begin neither with a digit nor as a quoted literal: a minus, and the flaws of `IsWordFlaw`.
abbrev pub IsStrictWordFlaw : FlawKind → List ℕ → List ℕ → Type 0
IsStrictWordFlaw Minus front rest = (front ≡ []) × Begins (λ c. c == code "-") rest
IsStrictWordFlaw NotALiteral front rest =
    BeginsWord front × (rest ≢ []) × (front ≡ [] → IsFalse (first_passes (λ c. c == code "-") rest))
IsStrictWordFlaw kind front rest = IsWordFlaw kind front rest
