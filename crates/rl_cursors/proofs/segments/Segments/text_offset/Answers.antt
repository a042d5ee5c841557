use Rattle.rl_syntax.proofs.Common.{length, arith, ap, subst, sym}
use Rattle.rl_cursors.specs.Segments.{IsLeftAt, SegmentsState, begins_in}
use Rattle.rl_cursors.proofs.SegmentLemmas.{given_place, given_within, past_left}
use Rattle.rl_cursors.proofs.segments.Segments.text_offset.Goals as goal

pub text_offset-requires : goal.text_offset-requires
text_offset-requires c = given_within _ _ _ _ c.in-Some.ensures.some

pub returns-in-Some : goal.returns-in-Some
returns-in-Some c = subst (IsLeftAt begins_in c.args.self c.args.at) (sym c.text_offset.ensures)
    (given_place _ _ _ _ c.in-Some.ensures.some)

pub returns-in-None : goal.returns-in-None
returns-in-None c =
    past_left begins_in _ _ _ c.in-None.ensures.none (omega (
      arith,
      c.self.invariant.room,
      ap
          (λ (s : SegmentsState). s.at) c.self.view_is,
      ap (λ (s : SegmentsState). length s.rest) c.self.view_is,
    ))
