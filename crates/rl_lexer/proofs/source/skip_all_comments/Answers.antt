use Rattle.rl_syntax.proofs.Common.{arith, chars, common_steps, subst, sym}
use Rattle.rl_syntax.specs.Texts.{is_white}
use Rattle.rl_syntax.proofs.TailLemmas.{tail_step}
use Rattle.rl_lexer.proofs.CommentsPassed.{no_comment, reach_comment}
use Rattle.rl_lexer.proofs.LiteralSteps.{reach_end, reach_run}
use Rattle.rl_lexer.proofs.Pieces.{run_ends, skipped_none, skipped_slash}
use Rattle.rl_lexer.specs.Mirrors.LiteralsAt.{Reaches}
use Rattle.rl_lexer.proofs.source.skip_all_comments.Goals as goal

pub loop-inside-preserved : goal.loop-inside-preserved
loop-inside-preserved c =
    let run = c.skip_white-rest.ensures in
    let following = c.in-Some-after_any_comment.following.now in
    record {
      following = tail_step _ _ _ (tail_step _ _ _ (tail_step _ _ _ c.loop-inside.invariant.following
          c.in-Some.ensures.following) c.in-Some-after_any_comment.ensures.following) run.following;
      dark = run_ends is_white (chars following) _ run.rest;
      reaches = λ r more. c.loop-inside.invariant.reaches r (subst (λ z. Reaches z r) (sym c.in-Some.ensures.rest)
          (reach_comment (chars c.in-Some.inside.now) (chars following) r
          (sym c.in-Some-after_any_comment.ensures.rest) (reach_run (chars following) _ r run.rest more)));
    }

pub returns-in_default-after_any_comment-clause-reaches : goal.returns-in_default-after_any_comment-clause-reaches
returns-in_default-after_any_comment-clause-reaches c =
    c.loop-inside.invariant.reaches _ (reach_end _ _ (skipped_slash _ _ c.in-Some.ensures.rest
    (no_comment (chars c.in-Some.inside.now) (sym c.in_default-after_any_comment.ensures.rest))))

pub returns-clause-reaches : goal.returns-clause-reaches
returns-clause-reaches c = c.loop-inside.invariant.reaches _ (reach_end _ _
    (skipped_none _ c.loop-inside.invariant.dark c.in_default.ensures.rest))

pub loop-inside-smaller : goal.loop-inside-smaller
loop-inside-smaller c = grind (arith, common_steps)
