use Rattle.rl_syntax.proofs.Common.{rules}
use Rattle.rl_tokens.proofs.buffer.ParseBuffer.peek_punct.Goals as goal

pub returns-in-Some : goal.returns-in-Some
returns-in-Some g c = search rules steps 300000
