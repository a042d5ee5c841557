-- The statements of the laws on the parts of numbers, of src/laws.rt, each as a definition.
use Rattle.std.specs.Prelude.{List, ℕ}
use Rattle.rl_lenient.specs.NumberParts.{HasOneFloatOf, HasOneIntegerOf}

-- All parse results of a text as an integer literal agree on its base and on its digits, as they are written.
abbrev pub AnIntegerHasOneBase : Type 0
AnIntegerHasOneBase =
    (text : List ℕ) → HasOneIntegerOf text

-- All parse results of a text as a float literal agree on its parts: the digits before the dot, the fraction, and the
-- exponent.
abbrev pub AFloatHasOneOfEachPart : Type 0
AFloatHasOneOfEachPart =
    (text : List ℕ) → HasOneFloatOf text
