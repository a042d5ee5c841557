-- The statements of the laws of src/laws.rt, each as a definition.
use Rattle.std.specs.Prelude.{◌≡◌, ◌<◌, ◌≤◌, ℕ, Bool, List, IsFalse, IsTrue, length, nat_lt}
use Rattle.std.specs.Char.{digit_value}
use Rattle.std.specs.List.{list_all}
use Rattle.std.specs.Str.{all_scalars}
use Rattle.rl_syntax.specs.Texts.{begins_char, code}
use Rattle.rl_syntax.specs.declared.kind.Kind.{Kind}
use Rattle.rl_syntax.specs.Quoted.{is_string}
use Rattle.rl_syntax.specs.Spelling.{place_value}
use Rattle.rl_writing.specs.Integers.{group_size, grouped, numeral}
use Rattle.rl_writing.specs.RawStrings.{raw_contents}

-- The digits that are written for a number are digits of the base.
abbrev pub ANumeralHasDigitsOfItsBase : Type 0
ANumeralHasDigitsOfItsBase =
    (base n : ℕ) (upper : Bool) → 2 ≤ base → base ≤ 16
    → IsTrue (list_all (λ c. nat_lt (digit_value c) base) (numeral base upper n))

-- The digits that are written for a number represent that number.
abbrev pub ANumeralRepresentsItsNumber : Type 0
ANumeralRepresentsItsNumber =
    (base n : ℕ) (upper : Bool) → 2 ≤ base → base ≤ 16 → place_value base (numeral base upper n) ≡ n

-- The digits that are written for a number don't begin with a zero, except for the number 0.
abbrev pub ANumeralHasNoZeroInFront : Type 0
ANumeralHasNoZeroInFront =
    (base n : ℕ) (upper : Bool) → 2 ≤ base → base ≤ 16 → 0 < n
    → IsFalse (begins_char (code "0") (numeral base upper n))

-- An integer with fewer digits than `least` is written without underscores.
abbrev pub FewDigitsAreNotGrouped : Type 0
FewDigitsAreNotGrouped =
    (group least : ℕ) (digits : List ℕ) → length digits < least
    → grouped (group_size group least (length digits)) digits ≡ digits

-- An integer with `least` digits or more is written as if `least` were 0.
abbrev pub EnoughDigitsAreGrouped : Type 0
EnoughDigitsAreGrouped =
    (group least : ℕ) (digits : List ℕ) → least ≤ length digits
    → group_size group least (length digits) ≡ group

-- All raw strings of one kind and value have one text between their quotes. If no raw string can contain this text, no raw
-- string has the value.
abbrev pub RawStringsOfOneValueContainOneText : Type 0
RawStringsOfOneValueContainOneText =
    (kind : Kind) (inside other : List ℕ) → IsTrue (is_string kind) → IsTrue (all_scalars inside)
    → IsTrue (all_scalars other) → raw_contents kind inside ≡ raw_contents kind other → inside ≡ other
