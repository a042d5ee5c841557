-- Consequences of a postcondition about an `Option` result.
use Rattle.rl_syntax.proofs.Common.{Option, Some, None}
use Rattle.std.specs.Option.{IfSome, IfNone}

-- If `P` implies `Q`, then `IfNone r P` implies `IfNone r Q`.
pub none_then : {A P Q : Type 0} (r : Option A) → (P → Q) → IfNone r P → IfNone r Q
none_then None f p = f p
none_then (Some a) f p = tt

-- If `P` holds, `P` holds on the condition that an option has a value.
pub if_some : {A P : Type 0} (r : Option A) → P → IfSome r (λ a. P)
if_some None p = tt
if_some (Some a) p = p
