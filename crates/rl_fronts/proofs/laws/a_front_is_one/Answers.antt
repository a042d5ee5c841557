use Rattle.rl_fronts.proofs.Theorems.{a_front_is_one, a_group_is_no_front}
use Rattle.rl_fronts.proofs.laws.a_front_is_one.Goals as goal

pub returns-clause-front : goal.returns-clause-front
returns-clause-front c = a_front_is_one

pub returns-clause-group : goal.returns-clause-group
returns-clause-group c = a_group_is_no_front
