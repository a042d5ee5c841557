use Rattle.rl_attributes.proofs.Theorems.{the_text_tells_the_suffix as law}
use Rattle.rl_attributes.proofs.laws.the_text_tells_the_suffix.Goals as goal

pub returns : goal.returns
returns g c = law
