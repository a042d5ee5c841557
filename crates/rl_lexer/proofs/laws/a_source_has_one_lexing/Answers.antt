use Rattle.rl_lexer.proofs.Theorems.{one_lexing}
use Rattle.rl_lexer.proofs.laws.a_source_has_one_lexing.Goals as goal

pub returns : goal.returns
returns c = one_lexing
