use Rattle.rl_syntax.proofs.TailLemmas.{tail_step}
use Rattle.rl_syntax.proofs.Common.{common_steps, arith}
use Rattle.rl_lenient.specs.Mirrors.NumberAt.{after_exponent}
use Rattle.rl_lenient.proofs.number_forms.after_exponent.Goals as goal

pub returns-else-run-clause-following : goal.returns-else-run-clause-following
unfolding after_exponent
returns-else-run-clause-following c = grind (arith, common_steps) steps 200000

pub returns-clause-following : goal.returns-clause-following
unfolding after_exponent
returns-clause-following c = grind (arith, common_steps) steps 200000

pub returns-then-run-clause-following : goal.returns-then-run-clause-following
returns-then-run-clause-following c = tail_step _ _ _ c.in-Some-e-default.ensures.following
    (tail_step _ _ _ c.power_digits.ensures.following c.skip_digits-run.ensures.following)
