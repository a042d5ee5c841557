use Rattle.rl_syntax.proofs.Common.{length}
use Rattle.rl_cursors.proofs.ValueOffsetLemmas.{IsOffsetOnTheWay}
use Rattle.rl_cursors.proofs.segments.Segments.value_offset.Given as goal

abbrev pub invariant-loop-segment : goal.invariant-loop-segment
invariant-loop-segment l = IsOffsetOnTheWay l.fn.self l.at l.self l.offset

abbrev pub decreases-loop-segment : goal.decreases-loop-segment
decreases-loop-segment l = length l.self.rest
