use Rattle.rl_strict.proofs.Theorems.{a_text_in_a_file_has_one_flaw}
use Rattle.rl_strict.proofs.laws.a_text_in_a_file_has_one_flaw.Goals as goal

pub returns : goal.returns
returns c = a_text_in_a_file_has_one_flaw
