use Rattle.rl_restyle.proofs.Theorems.{keeps_each_literal}
use Rattle.rl_restyle.proofs.laws.each_literal_keeps_its_value.Goals as goal

pub returns : goal.returns
returns c = keeps_each_literal
