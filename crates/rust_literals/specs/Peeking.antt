-- The relation of a type's functions `peek` and `parse`.
use Rattle.std.specs.Prelude.{◌≡◌, List, Result, Ok, Err, ⊤}
use Rattle.rl_syntax.specs.declared.span.Span.{Span}
use Rattle.rl_tokens.specs.declared.error.Error.{Error}
use Rattle.rl_tokens.specs.declared.error.ErrorKind.TheVariants.{Memory}
use Rattle.rl_tokens.specs.Trees.{Tree}

-- The parser's result is a value, or the error for an allocation failure.
abbrev pub SucceedsOrMemory : {T A : Type 0} → Result T (Error A) → Type 0
SucceedsOrMemory (Ok value) = ⊤
SucceedsOrMemory (Err e) = e.kind ≡ Memory

-- `peek` is `true` exactly for the token trees from which the parser returns a value, provided that no allocation
-- fails. For other token trees the parser's error isn't an allocation failure. The condition `peeks` specifies `peek`,
-- and the relation `runs` specifies the parser.
pub record PeekReports {T A : Type 0}
    (runs : List Tree → Span → Result T (Error A) → List Tree → Type 0) (peeks : List Tree → Type 0)
    : Type 0 where
  pub finds : (trees : List Tree) (scope : Span) (answer : Result T (Error A)) (rest : List Tree)
      → runs trees scope answer rest → peeks trees → SucceedsOrMemory answer
  pub only : (trees : List Tree) (scope : Span) (value : T) (rest : List Tree)
      → runs trees scope (Ok value) rest → peeks trees
  pub wants : (trees : List Tree) (scope : Span) (e : Error A) (rest : List Tree)
      → runs trees scope (Err e) rest → e.kind ≡ Memory → peeks trees
