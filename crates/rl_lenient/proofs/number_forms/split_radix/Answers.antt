use Rattle.rl_syntax.proofs.TailLemmas.{tail_step, tail_self}
use Rattle.rl_lenient.proofs.number_forms.split_radix.Goals as goal

pub returns-in-Some-eq98-default-clause-following : goal.returns-in-Some-eq98-default-clause-following
returns-in-Some-eq98-default-clause-following c = tail_step _ _ _ c.in-Some-eq48-default.ensures.following
    c.in-Some-eq98-default.ensures.following

pub returns-in-Some-eq111-default-clause-following : goal.returns-in-Some-eq111-default-clause-following
returns-in-Some-eq111-default-clause-following c = tail_step _ _ _ c.in-Some-eq48-default.ensures.following
    c.in-Some-eq111-default.ensures.following

pub returns-in-Some-eq120-default-clause-following : goal.returns-in-Some-eq120-default-clause-following
returns-in-Some-eq120-default-clause-following c = tail_step _ _ _ c.in-Some-eq48-default.ensures.following
    c.in-Some-eq120-default.ensures.following

pub returns-clause-following : goal.returns-clause-following
returns-clause-following c = tail_self _ c.utf8.text
