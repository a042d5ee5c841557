use Rattle.rl_strict.proofs.Theorems.{a_text_has_one_value_flaw}
use Rattle.rl_strict.proofs.laws.a_text_has_one_value_flaw.Goals as goal

pub returns : goal.returns
returns c = a_text_has_one_value_flaw
