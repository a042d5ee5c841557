use Rattle.rl_tokens.proofs.Theorems.{reprinted_literals_lex_to_themselves}
use Rattle.rl_tokens.proofs.laws.reprinted_literals_lex_to_themselves.Goals as goal

pub returns : goal.returns
returns c = reprinted_literals_lex_to_themselves
