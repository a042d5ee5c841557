use Rattle.rl_attributes.proofs.Theorems.{the_text_tells_the_kind as law}
use Rattle.rl_attributes.proofs.laws.the_text_tells_the_kind.Goals as goal

pub returns : goal.returns
returns g c = law
