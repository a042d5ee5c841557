use Rattle.std.proofs.Common.{take}
use Rattle.rl_uses.specs.Lints.{AreErrors}
use Rattle.rl_uses.proofs.lint.bad_spans.Given as goal

abbrev pub invariant-loop-literal : goal.invariant-loop-literal
invariant-loop-literal g l = AreErrors (take l.literal-index l.literals) l.spans.items
