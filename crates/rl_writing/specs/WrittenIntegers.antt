-- The integer literals that are written for values, in a style.
use Rattle.std.specs.Prelude.{◌≡◌, ℕ, List, ◌++◌, length, Option}
use Rattle.std.specs.Fmt.{decimal}
use Rattle.rl_syntax.specs.declared.kind.Kind.TheVariants.{Int}
use Rattle.rl_syntax.specs.Numbers.{prefix, radix}
use Rattle.rl_syntax.specs.Reading.{Digits, Reads}
use Rattle.rl_syntax.specs.Strict.{Strict}
use Rattle.rl_syntax.specs.declared.integer_type.IntegerType.{IntegerType}
use Rattle.rl_writing.specs.declared.integers.IntegerStyle.{IntegerStyle}
use Rattle.rl_writing.specs.Integers.{base_view, group_size, grouped, numeral, suffix_text}

-- The digits of a value, in the base and in the groups of the style.
abbrev pub grouped_numeral : ℕ → IntegerStyle → List ℕ
grouped_numeral value style =
    let digits = numeral (radix (base_view style.base)) style.upper value in
    grouped (group_size style.group style.least (length digits)) digits

-- The integer literal of a value: its prefix, its digits in groups, and its suffix.
abbrev pub written_integer : ℕ → IntegerStyle → Option IntegerType → List ℕ
written_integer value style suffix =
    prefix (base_view style.base) ++ (grouped_numeral value style ++ suffix_text suffix)

-- The text is the integer literal that is written for the value. By `syn`'s and by Rust's grammar, the literal has the value
-- and the suffix.
pub record IsWrittenInteger (value : ℕ) (style : IntegerStyle) (suffix : Option IntegerType)
    (text : List ℕ) : Type 0 where
  pub text_is : text ≡ written_integer value style suffix
  pub strict : Strict text Int (Digits (decimal value)) (suffix_text suffix)
  pub reads : Reads text Int (Digits (decimal value)) (suffix_text suffix)
