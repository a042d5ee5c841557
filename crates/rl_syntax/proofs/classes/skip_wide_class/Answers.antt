use Rattle.rl_syntax.proofs.Common.{common_steps, ◌∙◌, sym, arith, chars}
use Rattle.rl_syntax.specs.Classes.{class_test}
use Rattle.rl_syntax.proofs.TailLemmas.{tail_step}
use Rattle.rl_syntax.proofs.RowSteps.{row_step}
use Rattle.rl_syntax.proofs.classes.skip_wide_class.Goals as goal

pub loop-c-preserved : goal.loop-c-preserved
loop-c-preserved c = record {
  following = tail_step c.args.text.now c.loop-c.rest.now c.in-Some.following.now c.loop-c.invariant.following
      c.in-Some.ensures.following;
  same = row_step (class_test c.args.class) (chars c.loop-c.rest.now) (chars c.in-Some.following.now) c.in-Some.c
      c.in-Some.ensures.chars (sym c.if-not-is_in_class.ensures) ∙ c.loop-c.invariant.same;
}

pub returns-then-not-is_in_class-clause-shorter : goal.returns-then-not-is_in_class-clause-shorter
returns-then-not-is_in_class-clause-shorter c = grind (arith, common_steps) steps 300000
