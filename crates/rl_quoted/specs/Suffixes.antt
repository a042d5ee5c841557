-- Literals with a suffix that isn't empty.
use Rattle.std.specs.Prelude.{◌≢◌, ℕ, List, []}
use Rattle.rl_syntax.specs.declared.kind.Kind.{Kind}
use Rattle.rl_syntax.specs.Reading.{HasSuffix}

-- The text is a literal of the kind `kind` with a suffix that isn't empty.
pub record HasSomeSuffix (kind : Kind) (text : List ℕ) : Type 0 where
  pub suffix : List ℕ
  pub has : HasSuffix kind text suffix
  pub some : suffix ≢ []
