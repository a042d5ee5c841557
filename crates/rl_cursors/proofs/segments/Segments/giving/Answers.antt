use Rattle.rl_syntax.proofs.Common.{arith}
use Rattle.rl_cursors.proofs.SegmentLemmas.{arrives, ends_before, goes_past}
use Rattle.rl_cursors.proofs.segments.Segments.giving.Goals as goal

pub returns-then-left-len-clause-some : goal.returns-then-left-len-clause-some
returns-then-left-len-clause-some c =
    arrives _ _ _ _ _ c.in-Some.segment c.loop-segment.invariant c.in-Some.ensures.next c.in-Some.ensures.some
    (omega (arith, c.if-left-len.true, c.len-len.ensures))

pub loop-segment-preserved : goal.loop-segment-preserved
loop-segment-preserved c = goes_past _ _ _ _ _ _ c.in-Some.segment c.loop-segment.invariant c.in-Some.ensures.next
    (omega (arith, c.if-left-len.false, c.len-len.ensures)) (omega (arith, c.len-len.ensures))

pub returns-clause-none : goal.returns-clause-none
returns-clause-none c = ends_before _ _ _ _ c.loop-segment.invariant c.in_default.ensures.none
