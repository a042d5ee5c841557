use Rattle.std.proofs.Common.{string_bytes, take}
use Rattle.rl_uses.specs.Rewrites.{AreLines}
use Rattle.rl_uses.proofs.rewrite.lines.Given as goal

abbrev pub invariant-loop-literal : goal.invariant-loop-literal
invariant-loop-literal g l = AreLines (take l.literal-index l.literals) (string_bytes l.out)
