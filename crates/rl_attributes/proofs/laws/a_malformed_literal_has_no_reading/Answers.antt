use Rattle.rl_attributes.proofs.Theorems.{a_malformed_literal_has_no_reading as law}
use Rattle.rl_attributes.proofs.laws.a_malformed_literal_has_no_reading.Goals as goal

pub returns : goal.returns
returns g c = law
