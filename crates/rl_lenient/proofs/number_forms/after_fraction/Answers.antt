use Rattle.rl_syntax.proofs.TailLemmas.{tail_step}
use Rattle.rl_lenient.proofs.number_forms.after_fraction.Goals as goal

pub returns-in-Some-eq46-default-clause-following : goal.returns-in-Some-eq46-default-clause-following
returns-in-Some-eq46-default-clause-following c = tail_step _ _ _ c.in-Some-eq46-default.ensures.following
    c.skip_digits.ensures.following
