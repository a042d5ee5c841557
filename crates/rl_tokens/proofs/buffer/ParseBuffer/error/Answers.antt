use Rattle.rl_syntax.proofs.Common.{common_steps, arith}
use Rattle.rl_tokens.proofs.buffer.ParseBuffer.error.Goals as goal

pub returns : goal.returns
returns g c = grind (arith, common_steps) steps 300000
