-- The parts of a written integer literal: its digits, their groups, and its suffix.
use Rattle.std.specs.Prelude.{ℕ, suc, ◌%◌, Bool, ◌&&◌, ◌==◌, nat_lt, List, [], ◌∷◌, ◌++◌, length, if◌then◌else◌, Option, Some, None}
use Rattle.std.specs.Fmt.{digits_onto}
use Prim.Native.Char.{code}
use Rattle.rl_syntax.specs.Numbers as numbers
use Rattle.rl_syntax.specs.Words.{type_name}
use Rattle.rl_syntax.specs.declared.integer_type.IntegerType.{IntegerType}
use Rattle.rl_writing.specs.declared.base.Base.{Base}
use Rattle.rl_writing.specs.declared.base.Base.TheVariants.{Binary, Octal, Decimal, Hexadecimal}

-- Converts a base of the code (`base.rt`) to the base in the definitions of the grammars.
abbrev pub base_view : Base → numbers.Base
base_view Binary = numbers.Binary
base_view Octal = numbers.Octal
base_view Decimal = numbers.Decimal
base_view Hexadecimal = numbers.Hexadecimal

-- The suffix that names the integer type, or an empty suffix for `None`.
abbrev pub suffix_text : Option IntegerType → List ℕ
suffix_text (Some name) = type_name name
suffix_text None = []

-- The digits of a number in a base, without a leading zero, as std's formatting writes them. The definitions `digits`
-- and `decimal` of std write only 64 digits.
unfoldable pub numeral : ℕ → Bool → ℕ → List ℕ
numeral base upper n = digits_onto (suc n) base upper n []

-- Whether an underscore follows a digit of a number that is written in groups of `size` digits. `left` digits come after
-- this digit.
abbrev pub is_digit_group_end : ℕ → ℕ → Bool
is_digit_group_end size left = nat_lt 0 size && nat_lt 0 left && left % size == 0

-- The size of the groups in which `count` digits are written: 0, which means no groups, if `count` is below `least`.
abbrev pub group_size : ℕ → ℕ → ℕ → ℕ
group_size group least count = if nat_lt count least then 0 else group

-- The digits, with an underscore between groups. Groups have the given size, and are counted from the last digit. If the size
-- is 0, no underscores are written.
abbrev pub grouped : ℕ → List ℕ → List ℕ
grouped size [] = []
grouped size (d ∷ ds) =
    d ∷ ((if is_digit_group_end size (length ds) then code "_" ∷ [] else []) ++ grouped size ds)
