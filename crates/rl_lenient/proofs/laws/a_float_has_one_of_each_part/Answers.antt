use Rattle.rl_lenient.proofs.PartTheorems.{a_float_has_one_of_each_part}
use Rattle.rl_lenient.proofs.laws.a_float_has_one_of_each_part.Goals as goal

pub returns : goal.returns
returns c = a_float_has_one_of_each_part
