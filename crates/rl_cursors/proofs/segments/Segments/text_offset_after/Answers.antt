use Rattle.rl_syntax.proofs.Common.{length, arith, ap, subst, sym}
use Rattle.rl_cursors.specs.Segments.{IsLeftAt, SegmentsState, ends_in}
use Rattle.rl_cursors.proofs.SegmentLemmas.{given_end, given_within, past_left}
use Rattle.rl_cursors.proofs.segments.Segments.text_offset_after.Goals as goal

pub text_offset_after-requires : goal.text_offset_after-requires
text_offset_after-requires c = given_within _ _ _ _ c.in-Some.ensures.some

pub returns-in-Some : goal.returns-in-Some
returns-in-Some c = subst (IsLeftAt ends_in c.args.self c.args.at) (sym c.text_offset_after.ensures)
    (given_end _ _ _ _ c.in-Some.ensures.some)

pub returns-in-None : goal.returns-in-None
returns-in-None c =
    past_left ends_in _ _ _ c.in-None.ensures.none (omega (
      arith,
      c.self.invariant.room,
      ap
          (λ (s : SegmentsState). s.at) c.self.view_is,
      ap (λ (s : SegmentsState). length s.rest) c.self.view_is,
    ))
