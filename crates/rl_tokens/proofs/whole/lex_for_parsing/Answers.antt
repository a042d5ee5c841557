use Rattle.rl_syntax.proofs.Common.{arith, common_steps}
use Rattle.rl_tokens.proofs.whole.lex_for_parsing.Goals as goal

pub returns-in-Ok-clause-ok : goal.returns-in-Ok-clause-ok
returns-in-Ok-clause-ok g c = grind (arith, common_steps)

pub returns-in-Err-clause-rejected : goal.returns-in-Err-clause-rejected
returns-in-Err-clause-rejected g c = grind (arith, common_steps)
