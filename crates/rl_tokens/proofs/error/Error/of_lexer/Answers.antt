use Rattle.rl_syntax.proofs.Common.{rules}
use Rattle.rl_tokens.proofs.error.Error.of_lexer.Goals as goal

pub returns-in-Memory : goal.returns-in-Memory
returns-in-Memory g c = search rules steps 300000
