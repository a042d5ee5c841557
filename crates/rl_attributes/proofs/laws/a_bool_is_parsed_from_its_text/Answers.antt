use Rattle.rl_attributes.proofs.Theorems.{a_bool_is_parsed_from_its_text as law}
use Rattle.rl_attributes.proofs.laws.a_bool_is_parsed_from_its_text.Goals as goal

pub returns : goal.returns
returns g c = law
