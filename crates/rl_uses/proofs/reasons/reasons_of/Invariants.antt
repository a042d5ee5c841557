use Rattle.std.proofs.Common.{take}
use Rattle.rl_uses.specs.Reasons.{AreReasons}
use Rattle.rl_uses.proofs.reasons.reasons_of.Given as goal

abbrev pub invariant-loop-literal : goal.invariant-loop-literal
invariant-loop-literal g l = AreReasons (take l.literal-index l.literals) l.reasons.items
