use Rattle.rl_syntax.proofs.Common.{arith}
use Rattle.rl_cursors.proofs.ValueOffsetLemmas.{offset_arrives, offset_ends, offset_goes_past, offset_near, offset_room, offset_starts}
use Rattle.rl_cursors.proofs.segments.Segments.value_offset.Goals as goal

pub loop-segment-init : goal.loop-segment-init
loop-segment-init c = offset_starts c.args.self c.args.at

pub overflow_add-result : goal.overflow_add-result
overflow_add-result c = omega (
  arith,
  c.ranges.at.fits,
  c.value_offset.ensures,
  offset_near _ _ _ _ _ c.in-Some.segment c.loop-segment.invariant c.in-Some.ensures.next,
)

pub returns-then-at-segment : goal.returns-then-at-segment
returns-then-at-segment c =
    offset_arrives _ _ _ _ _ _ c.in-Some.segment c.loop-segment.invariant c.in-Some.ensures.next c.if-at-segment.true
    c.in-Some.ensures.some (omega (arith, c.value_offset.ensures))

pub overflow_add-offset : goal.overflow_add-offset
overflow_add-offset c = omega (
  arith,
  c.ranges.at.fits,
  c.if-at-segment.false,
  c.len-offset.ensures,
  offset_room _ _ _ _ _ c.in-Some.segment c.loop-segment.invariant c.in-Some.ensures.next,
)

pub loop-segment-preserved : goal.loop-segment-preserved
loop-segment-preserved c =
    offset_goes_past _ _ _ _ _ _ c.in-Some.segment c.loop-segment.invariant c.in-Some.ensures.next
    c.if-at-segment.false (omega (arith, c.len-offset.ensures))

pub returns : goal.returns
returns c = offset_ends _ _ _ _ c.loop-segment.invariant c.in_default.ensures.none
