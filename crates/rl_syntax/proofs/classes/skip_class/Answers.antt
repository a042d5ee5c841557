use Rattle.rl_syntax.proofs.Common.{common_steps, ◌∙◌, sym, rules, arith, chars}
use Rattle.rl_syntax.specs.Classes.{class_test}
use Rattle.rl_syntax.proofs.TailLemmas.{tail_step}
use Rattle.rl_syntax.proofs.RowSteps.{row_step}
use Rattle.rl_syntax.proofs.classes.skip_class.Goals as goal

pub loop-byte-preserved : goal.loop-byte-preserved
loop-byte-preserved c = record {
  following = tail_step c.args.text.now c.loop-byte.rest.now c.in-Some.following.now c.loop-byte.invariant.following
      c.in-Some.ensures.following;
  same = row_step (class_test c.args.class) (chars c.loop-byte.rest.now) (chars c.in-Some.following.now) c.in-Some.byte
      c.in-Some.ensures.some (sym c.if-not-is_in_class.ensures) ∙ c.loop-byte.invariant.same;
}

pub returns-clause-following : goal.returns-clause-following
returns-clause-following c = tail_step c.args.text.now c.loop-byte.rest.now c.skip_wide_class.result.now
    c.loop-byte.invariant.following c.skip_wide_class.ensures.following

pub returns-then-not-is_in_class-clause-rest : goal.returns-then-not-is_in_class-clause-rest
returns-then-not-is_in_class-clause-rest c = search rules steps 300000

pub returns-then-not-is_in_class-clause-shorter : goal.returns-then-not-is_in_class-clause-shorter
returns-then-not-is_in_class-clause-shorter c = grind (arith, common_steps) steps 300000

pub returns-clause-shorter : goal.returns-clause-shorter
returns-clause-shorter c = grind (arith, common_steps) steps 300000
