-- The reasons why a text isn't an integer or a float literal. A text is a list of characters here.
use Rattle.std.specs.Prelude.{ℕ, List}
use Rattle.rl_tokens.specs.declared.error.ErrorKind.{ErrorKind}
use Rattle.rl_tokens.specs.declared.error.ErrorKind.TheVariants.{NotInteger, TooLarge, NotFloat, Memory}
use Rattle.rl_syntax.specs.declared.kind.Kind.{Kind}
use Rattle.rl_syntax.specs.declared.kind.Kind.TheVariants.{Int, Float}
use Rattle.rl_syntax.specs.Reading.{HasNoInteger, IsPast, HasNoFloat}
use Rattle.rl_lenient.specs.NumberShapes.{IsNumber}

-- The kind of error for a text that isn't a number of the kind given: `NotInteger`, `TooLarge` for an integer above 128
-- bits, or `NotFloat`.
abbrev pub IsNoNumber : {A : Type 0} → Kind → List ℕ → ErrorKind A → Type 0
IsNoNumber Int text NotInteger = HasNoInteger text
IsNoNumber Int text TooLarge = IsPast text
IsNoNumber Float text NotFloat = HasNoFloat text
IsNoNumber _ text _ = ⊥

-- The kind of error for a text that can't be parsed as a number of the kind given. The kind of error is `Memory` if the
-- text is a number of that kind and an allocation failed.
abbrev pub IsRejectedAs : {A : Type 0} → Kind → List ℕ → ErrorKind A → Type 0
IsRejectedAs kind text Memory = IsNumber kind text
IsRejectedAs kind text reason = IsNoNumber kind text reason
