use Rattle.rl_syntax.proofs.Theorems.{a_minus_tells_the_sign}
use Rattle.rl_syntax.proofs.laws.a_minus_tells_the_sign.Goals as goal

pub returns : goal.returns
returns c = a_minus_tells_the_sign
