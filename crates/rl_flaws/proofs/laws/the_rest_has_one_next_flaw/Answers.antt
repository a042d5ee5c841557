use Rattle.rl_flaws.proofs.Theorems.{the_rest_has_one_next_flaw}
use Rattle.rl_flaws.proofs.laws.the_rest_has_one_next_flaw.Goals as goal

pub returns : goal.returns
returns c = the_rest_has_one_next_flaw
