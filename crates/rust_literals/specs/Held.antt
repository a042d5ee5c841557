-- The parts that a number stores besides its token: the digits in base ten, and the byte offset of the suffix.
use Rattle.std.specs.Prelude.{◌≡◌, ℕ, List, Option, Some, None, take, drop}
use Rattle.std.specs.Str.{chars, IsCharBoundary}
use Rattle.rl_syntax.specs.declared.kind.Kind.{Kind}
use Rattle.rl_syntax.specs.declared.kind.Kind.TheVariants.{Int, Float}
use Rattle.rl_syntax.specs.Numbers.{FloatReads, float_digits}
use Rattle.rl_syntax.specs.Reading.{Digits, ReadsInt, HasSuffix}

-- The list `digits` contains the digits in base ten of the text, which is a number of the given kind. A float is parsed
-- by the rule for floats only, even if the text is an integer too.
abbrev pub HasDigits : Kind → List ℕ → List ℕ → Type 0
HasDigits Int text digits = (x : List ℕ) × ReadsInt text (Digits digits) x
HasDigits Float text digits =
    (numeral x : List ℕ) × FloatReads text numeral x × (digits ≡ float_digits numeral)
HasDigits _ text digits = ⊥

-- `x` is the suffix of the text, which is a literal of the kind given. A float is parsed by the rule for floats only,
-- even if the text is an integer too.
abbrev pub HasOwnSuffix : Kind → List ℕ → List ℕ → Type 0
HasOwnSuffix Float text x = (numeral : List ℕ) × FloatReads text numeral x
HasOwnSuffix kind text x = HasSuffix kind text x

-- The digits in base ten that a number stores: a string of their own, or else the number's text before its suffix.
abbrev pub digits_in : Option (List ℕ) → List ℕ → ℕ → List ℕ
digits_in (Some own) text at = own
digits_in None text at = take at text

-- The text, a list of bytes, is a number of the kind `kind` with the digits `digits` in base ten, and its suffix begins
-- at the byte offset `at`.
pub record HoldsNumber (kind : Kind) (text digits : List ℕ) (at : ℕ) : Type 0 where
  pub digits_are : HasDigits kind (chars text) (chars digits)
  pub suffix : HasOwnSuffix kind (chars text) (chars (drop at text))
  pub boundary : IsCharBoundary text at
