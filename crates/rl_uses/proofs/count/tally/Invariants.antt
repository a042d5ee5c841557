use Rattle.rl_uses.specs.Counts.{AreCounts}
use Rattle.rl_uses.proofs.count.tally.Given as goal

abbrev pub invariant-loop-literal : goal.invariant-loop-literal
invariant-loop-literal g l = AreCounts l.yielded l.counts
