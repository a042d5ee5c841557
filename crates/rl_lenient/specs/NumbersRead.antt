-- The relation between a text and the number that the parser returns for the text.
use Rattle.std.specs.Prelude.{ℕ, List}
use Rattle.std.specs.Str.{chars}
use Rattle.rl_syntax.specs.Texts.{IsTail}
use Rattle.rl_syntax.specs.Numbers.{FloatReads}
use Rattle.rl_syntax.specs.Reading.{HasNoInteger}
use Rattle.rl_lenient.specs.declared.number_forms.Number.{Number}
use Rattle.rl_lenient.specs.declared.number_forms.Number.TheVariants.{Integer, Float}
use Rattle.rl_lenient.specs.NumberShapes.{HasMagnitude}

-- The text is the parsed number: an integer with the given magnitude and suffix, or a float with the given suffix.
abbrev pub IsNumberOf : List ℕ → Number → Type 0
IsNumberOf text (Integer magnitude suffix) =
    HasMagnitude (chars text) magnitude (chars suffix.now) × IsTail text suffix.now
IsNumberOf text (Float suffix) =
    ((numeral : List ℕ) × FloatReads (chars text) numeral (chars suffix.now))
    × HasNoInteger (chars text) × IsTail text suffix.now
