use Rattle.rl_lenient.proofs.PartTheorems.{an_integer_has_one_base}
use Rattle.rl_lenient.proofs.laws.an_integer_has_one_base.Goals as goal

pub returns : goal.returns
returns c = an_integer_has_one_base
