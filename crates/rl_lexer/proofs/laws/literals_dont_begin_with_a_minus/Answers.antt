use Rattle.rl_lexer.proofs.Theorems.{literals_dont_begin_with_a_minus}
use Rattle.rl_lexer.proofs.laws.literals_dont_begin_with_a_minus.Goals as goal

pub returns : goal.returns
returns c = literals_dont_begin_with_a_minus
