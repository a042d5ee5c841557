use Rattle.rl_tokens.proofs.Theorems.{a_rest_of_a_rest_is_a_rest}
use Rattle.rl_tokens.proofs.laws.steps_join.Goals as goal

pub returns : goal.returns
returns c = a_rest_of_a_rest_is_a_rest
