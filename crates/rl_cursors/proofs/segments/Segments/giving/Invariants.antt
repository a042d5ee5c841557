use Rattle.rl_syntax.proofs.Common.{length}
use Rattle.rl_cursors.proofs.SegmentLemmas.{IsOnTheWay}
use Rattle.rl_cursors.proofs.segments.Segments.giving.Given as goal

abbrev pub invariant-loop-segment : goal.invariant-loop-segment
invariant-loop-segment l = IsOnTheWay l.fn.self l.at l.self l.left

abbrev pub decreases-loop-segment : goal.decreases-loop-segment
decreases-loop-segment l = length l.self.rest
