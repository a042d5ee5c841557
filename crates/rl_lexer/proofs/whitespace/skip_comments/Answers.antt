-- Each iteration of the loop of `skip_comments` skips one comment and the white space after it.
use Rattle.rl_syntax.proofs.Common.{arith, sym, common_steps, chars}
use Rattle.rl_syntax.specs.Texts.{is_white}
use Rattle.rl_syntax.proofs.TailLemmas.{tail_step}
use Rattle.rl_lexer.proofs.Pieces.{run_ends, skipped_run, skipped_none, skipped_slash, skipped_comment}
use Rattle.rl_lexer.proofs.whitespace.skip_comments.Goals as goal

pub loop-inside-preserved : goal.loop-inside-preserved
loop-inside-preserved c =
    let run = c.skip_white-rest.ensures in
    let following = c.in-Some-after_comment.following.now in
    record {
      following = tail_step _ _ _ (tail_step _ _ _ (tail_step _ _ _ c.loop-inside.invariant.following
          c.in-Some.ensures.following) c.in-Some-after_comment.ensures.following) run.following;
      dark = run_ends is_white (chars following) _ run.rest;
      skipped = λ r s. c.loop-inside.invariant.skipped r (skipped_comment _ _ (chars following) r c.in-Some.ensures.rest
          (sym c.in-Some-after_comment.ensures.rest) (skipped_run (chars following) _ r run.rest s));
    }

pub returns-in_default-after_comment-clause-skipped : goal.returns-in_default-after_comment-clause-skipped
returns-in_default-after_comment-clause-skipped c =
    c.loop-inside.invariant.skipped _ (skipped_slash _ _ c.in-Some.ensures.rest
    (sym c.in_default-after_comment.ensures.rest))

pub returns-clause-skipped : goal.returns-clause-skipped
returns-clause-skipped c = c.loop-inside.invariant.skipped _
    (skipped_none _ c.loop-inside.invariant.dark c.in_default.ensures.rest)

pub loop-inside-smaller : goal.loop-inside-smaller
loop-inside-smaller c = grind (arith, common_steps)
