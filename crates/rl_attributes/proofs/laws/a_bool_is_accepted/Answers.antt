use Rattle.rl_attributes.proofs.Theorems.{a_bool_is_accepted as law}
use Rattle.rl_attributes.proofs.laws.a_bool_is_accepted.Goals as goal

pub returns : goal.returns
returns g c = law
