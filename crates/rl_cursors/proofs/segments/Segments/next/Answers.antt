use Rattle.rl_cursors.proofs.SegmentLemmas.{takes_segment}
use Rattle.rl_cursors.proofs.segments.Segments.next.Goals as goal

pub returns-clause-next : goal.returns-clause-next
returns-clause-next c = rw (← c.self.view_is) (takes_segment _ _ _ _ _ _ c.self.invariant
    c.split_segment.ensures.following.is_text c.split_segment.ensures.front c.split_segment.ensures.longest
    c.split_segment.ensures.whole)
