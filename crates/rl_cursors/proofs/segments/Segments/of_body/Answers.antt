use Rattle.rl_cursors.proofs.SegmentStarts.{ends_in_text, segments_of, starts}
use Rattle.rl_cursors.proofs.segments.Segments.of_body.Goals as goal

pub invariant_of-result : goal.invariant_of-result
invariant_of-result c = starts _ _ _ c.args.body.now c.utf8.text c.range.ensures.value c.requires

pub returns-clause-segments : goal.returns-clause-segments
returns-clause-segments c = segments_of _ _ _ c.args.body.now c.utf8.text c.range.ensures.value c.requires

pub returns-clause-within : goal.returns-clause-within
returns-clause-within c = ends_in_text _ _ c.args.body.now c.range.ensures.value c.requires.stands
