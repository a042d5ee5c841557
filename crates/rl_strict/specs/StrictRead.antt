-- The parse result of a text by Rust's grammar.
use Rattle.std.specs.Prelude.{◌≡◌, ◌⊎◌, ◌∷◌, ◌-◌, ℕ, List, drop, false, length}
use Rattle.std.specs.Str.{chars, IsCharBoundary}
use Prim.Native.Char.{code}
use Rattle.rl_syntax.specs.Reading.{truth_text}
use Rattle.rl_lenient.specs.Founds.{IsFound}
use Rattle.rl_strict.specs.declared.flaws.FlawKind.{FlawKind}
use Rattle.rl_strict.specs.declared.read_numbers.Number.{Number}
use Rattle.rl_strict.specs.declared.read_numbers.Number.TheVariants.{Integer as AnInteger, Float as AFloat}
use Rattle.rl_strict.specs.SignedFlaws.{IsMinusFlawOf, IsSignedToken}
use Rattle.rl_strict.specs.declared.strict_reading.Reading.{Reading}
use Rattle.rl_strict.specs.declared.strict_reading.Reading.TheVariants.{Text, Unit, Integer, Float, Truth}
use Rattle.rl_strict.specs.Flaws.{StopsBefore}
use Rattle.rl_strict.specs.StrictFlaws.{IsStrictFlawOf}
use Rattle.rl_strict.specs.StrictNumbersRead.{IsFloatRead, IsIntegerRead}
use Rattle.rl_strict.specs.StrictShapes.{IsToken}

-- The parse result of a literal token. For a quoted literal it is the result of `parse_literal`, which parses by `syn`'s
-- grammar. For a number it is the magnitude, and the byte offset of the suffix. For `true` and `false` it is the `bool`.
abbrev pub IsStrictReading : List ℕ → Reading → Type 0
IsStrictReading text (Text kind body) =
    IsFound text (record { magnitude = 0; body = body; kind = kind; truth = false; unit = 0 })
IsStrictReading text (Unit kind body unit) =
    IsFound text (record { magnitude = 0; body = body; kind = kind; truth = false; unit = unit })
IsStrictReading text (Integer magnitude suffix_at) =
    IsCharBoundary text suffix_at × IsIntegerRead (chars text) magnitude (chars (drop suffix_at text))
IsStrictReading text (Float suffix_at) =
    IsCharBoundary text suffix_at × IsFloatRead (chars text) (chars (drop suffix_at text))
IsStrictReading text (Truth truth) = chars text ≡ truth_text truth

-- The parse result of a minus and a number.
abbrev pub IsMinusRead : List ℕ → Reading → Type 0
IsMinusRead text (Integer magnitude suffix_at) =
    (number : List ℕ) × (chars text ≡ code "-" ∷ number) × IsCharBoundary text suffix_at
    × IsIntegerRead number magnitude (chars (drop suffix_at text))
IsMinusRead text (Float suffix_at) =
    (number : List ℕ) × (chars text ≡ code "-" ∷ number) × IsCharBoundary text suffix_at
    × IsFloatRead number (chars (drop suffix_at text))
IsMinusRead text reading = ⊥

-- The parse result of a literal token, or of a minus and a number.
abbrev pub IsSignedRead : List ℕ → Reading → Type 0
IsSignedRead text reading = IsStrictReading text reading ⊎ IsMinusRead text reading

-- Converts a parsed number to a parse result with the byte offset of the number's suffix in `text`. `text` ends with the
-- suffix.
abbrev pub placed_in : List ℕ → Number → Reading
placed_in text (AnInteger magnitude suffix) = Integer magnitude (length text - length suffix.now)
placed_in text (AFloat suffix) = Float (length text - length suffix.now)

-- `text` isn't a literal token. The flaw is at `rest`: the text before `rest` can be completed to a literal token, and no
-- longer prefix can. The text to show for the flaw begins at `piece`. `kind` is the kind of flaw.
pub record IsFlawAt (text : List ℕ) (kind : FlawKind) (piece rest : List ℕ) : Type 0 where
  pub none : IsToken text → ⊥
  pub stops : StopsBefore IsToken text rest
  pub says : IsStrictFlawOf kind text piece rest

-- The minus followed by `text` isn't a negative number. The flaw is at `rest`: the minus and the text before `rest` can be
-- completed to a negative number, and no longer prefix can. `kind` is the kind of flaw.
pub record IsMinusStop (text : List ℕ) (kind : FlawKind) (rest : List ℕ) : Type 0 where
  pub none : IsSignedToken (code "-" ∷ text) → ⊥
  pub stops : StopsBefore IsSignedToken (code "-" ∷ text) rest
  pub says : IsMinusFlawOf kind text rest
