use Rattle.rl_attributes.proofs.Theorems.{only_an_allocation_failure_rejects_a_string as law}
use Rattle.rl_attributes.proofs.laws.only_an_allocation_failure_rejects_a_string.Goals as goal

pub returns : goal.returns
returns g c = law
