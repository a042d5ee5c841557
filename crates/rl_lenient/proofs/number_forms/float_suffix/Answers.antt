use Rattle.rl_syntax.proofs.TailLemmas.{tail_step, some_tail}
use Rattle.rl_lenient.proofs.number_forms.float_suffix.Goals as goal

pub returns-clause-following : goal.returns-clause-following
returns-clause-following c = some_tail (λ x. x.now) _ _ c.tail_suffix.result
    (tail_step _ _ _ c.after_minus-whole.ensures.following c.skip_digits.ensures.following) c.tail_suffix.ensures.following
