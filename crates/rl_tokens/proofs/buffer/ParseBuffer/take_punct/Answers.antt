use Rattle.rl_syntax.proofs.Common.{arith, common_steps}
use Rattle.rl_tokens.proofs.buffer.ParseBuffer.take_punct.Goals as goal

pub returns-in-Some-clause-borrowed : goal.returns-in-Some-clause-borrowed
returns-in-Some-clause-borrowed g c = grind (arith, common_steps)

pub returns-in-None-clause-left : goal.returns-in-None-clause-left
returns-in-None-clause-left g c = grind (arith, common_steps)

pub returns-in-None-clause-rejected : goal.returns-in-None-clause-rejected
returns-in-None-clause-rejected g c = grind (arith, common_steps)
