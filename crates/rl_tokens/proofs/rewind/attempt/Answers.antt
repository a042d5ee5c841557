use Rattle.rl_syntax.proofs.Common.{rules}
use Rattle.rl_tokens.proofs.rewind.attempt.Goals as goal

pub returns-in-Err-clause-rejected : goal.returns-in-Err-clause-rejected
returns-in-Err-clause-rejected g c = (c.ran.new.input, search rules)
