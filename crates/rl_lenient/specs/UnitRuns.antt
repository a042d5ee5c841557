-- Sequences of characters and escapes at the start of a text, by `syn`'s grammar.
use Rattle.std.specs.Prelude.{◌≡◌, ℕ, List, [], ◌∷◌, ◌++◌, ⊤}
use Rattle.std.specs.List.{AllByRecursion}
use Rattle.rl_syntax.specs.declared.kind.Kind.{Kind}
use Rattle.rl_syntax.specs.Quoted.{QuotedUnit, IsUnit, EndsBefore, texts, values}

-- Each escaped line end in a sequence of characters and escapes includes all white space after it. The text `rest` follows
-- the sequence.
abbrev pub RunEnds : List QuotedUnit → List ℕ → Type 0
RunEnds [] rest = ⊤
RunEnds (u ∷ us) rest = EndsBefore u (texts us ++ rest) × RunEnds us rest

-- By `syn`'s grammar, the text begins with characters and escapes of a literal of the kind that have the given value, and `rest`
-- is the text after them.
pub record BeginsRun (kind : Kind) (text value rest : List ℕ) : Type 0 where
  pub units : List QuotedUnit
  pub each : AllByRecursion (IsUnit kind) units
  pub ends : RunEnds units rest
  pub text_is : text ≡ texts units ++ rest
  pub value_is : value ≡ values kind units
