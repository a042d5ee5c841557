use Rattle.rl_flaws.proofs.Theorems.{a_token_has_no_flaw}
use Rattle.rl_flaws.proofs.laws.a_token_has_no_flaw.Goals as goal

pub returns : goal.returns
returns c = a_token_has_no_flaw
