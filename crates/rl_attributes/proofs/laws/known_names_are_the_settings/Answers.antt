use Rattle.rl_attributes.proofs.Theorems.{known_names_are_the_settings as law}
use Rattle.rl_attributes.proofs.laws.known_names_are_the_settings.Goals as goal

pub returns : goal.returns
returns c = law
