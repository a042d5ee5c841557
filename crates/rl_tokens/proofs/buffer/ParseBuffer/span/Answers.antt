use Rattle.rl_syntax.proofs.Common.{common_steps, arith}
use Rattle.rl_tokens.proofs.buffer.ParseBuffer.span.Goals as goal

pub returns-in-None : goal.returns-in-None
returns-in-None g c = grind (arith, common_steps) steps 300000
