use Rattle.rl_strict.proofs.Names.{ok_tail, tail_step}
use Rattle.rl_strict.proofs.read_numbers.read_power.Goals as goal

pub returns-then-run-clause-following : goal.returns-then-run-clause-following
returns-then-run-clause-following c = ok_tail (λ x. x.now) _ _ _
    (tail_step _ _ _ c.after_sign.ensures.following c.skip_digits-run.ensures.following) c.read_suffix.ensures.following
