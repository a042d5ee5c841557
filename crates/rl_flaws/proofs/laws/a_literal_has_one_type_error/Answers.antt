use Rattle.rl_flaws.proofs.Theorems.{a_literal_has_one_type_error}
use Rattle.rl_flaws.proofs.laws.a_literal_has_one_type_error.Goals as goal

pub returns : goal.returns
returns c = a_literal_has_one_type_error
