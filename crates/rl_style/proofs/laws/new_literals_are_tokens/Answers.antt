use Rattle.rl_style.proofs.Theorems.{keeps_its_ends}
use Rattle.rl_style.proofs.laws.new_literals_are_tokens.Goals as goal

pub returns : goal.returns
returns c = keeps_its_ends
