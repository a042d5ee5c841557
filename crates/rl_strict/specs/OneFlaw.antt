-- A text has at most one flaw.
use Rattle.std.specs.Prelude.{◌≡◌, ℕ, List}
use Rattle.rl_strict.specs.declared.flaws.Flaw.{Flaw}
use Rattle.rl_strict.specs.StrictFlaws.{ExplainsStrictly}

-- Two flaws that explain the text by the relation `explains` are equal: they have one kind, one byte range, and one range of
-- text to show.
abbrev pub IsExplainedOnce : (List ℕ → Flaw → Type 0) → List ℕ → Type 0
IsExplainedOnce explains text = (a b : Flaw) → explains text a → explains text b → a ≡ b

-- At most one flaw explains why the text isn't a literal token.
abbrev pub HasOneFlaw : List ℕ → Type 0
HasOneFlaw text = IsExplainedOnce ExplainsStrictly text
