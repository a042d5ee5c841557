use Rattle.rl_syntax.proofs.Common.{common_steps, arith}
use Rattle.rl_tokens.proofs.token.TokenStream.append.Goals as goal

pub returns-in-Err-clause-unchanged : goal.returns-in-Err-clause-unchanged
returns-in-Err-clause-unchanged g c = grind (arith, common_steps) steps 300000
