use Rattle.rl_flaws.proofs.Names.{refl}
use Rattle.rl_cursors.proofs.SegmentLemmas.{takes_segment}
use Rattle.rl_flaws.proofs.PieceLemmas.{pieces_left}
use Rattle.rl_flaws.proofs.pieces.Pieces.next.Goals as goal

pub returns-then-not-is_empty : goal.returns-then-not-is_empty
returns-then-not-is_empty c = rw (← c.self.view_is) (
  takes_segment _ _ _ _ _ _ c.self.invariant.segments c.split_segment.ensures.following.is_text
      c.split_segment.ensures.front c.split_segment.ensures.longest c.split_segment.ensures.whole,
  refl,
  refl,
)

pub invariant_of-self-2 : goal.invariant_of-self-2
invariant_of-self-2 c = pieces_left _ _ _ _ _ _ c.self.inside.left _ c.self.invariant.same c.next_flaw-judged.ensures.same
    c.next_flaw-judged.ensures.good c.next_flaw-judged.ensures.left
