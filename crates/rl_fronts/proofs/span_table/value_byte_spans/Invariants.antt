use Rattle.rl_syntax.proofs.Common.{length}
use Rattle.rl_cursors.proofs.SegmentLemmas.{IsTabled}
use Rattle.rl_fronts.proofs.span_table.value_byte_spans.Given as goal

abbrev pub invariant-loop-segment : goal.invariant-loop-segment
invariant-loop-segment g l = IsTabled l.fn.segments l.segments l.base l.spans.items

abbrev pub decreases-loop-segment : goal.decreases-loop-segment
decreases-loop-segment g l = length l.segments.rest
