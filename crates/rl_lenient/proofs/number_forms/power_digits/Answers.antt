use Rattle.rl_syntax.proofs.TailLemmas.{tail_step}
use Rattle.rl_lenient.proofs.number_forms.power_digits.Goals as goal

pub returns-in-Some-eq43-default-clause-following : goal.returns-in-Some-eq43-default-clause-following
returns-in-Some-eq43-default-clause-following c = tail_step _ _ _ c.skip_class-signed.ensures.following
    c.in-Some-eq43-default.ensures.following
