use Rattle.rl_syntax.proofs.Theorems.{both_grammars_agree}
use Rattle.rl_syntax.proofs.laws.both_grammars_agree.Goals as goal

pub returns : goal.returns
returns c = both_grammars_agree
