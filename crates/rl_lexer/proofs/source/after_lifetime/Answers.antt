use Rattle.rl_syntax.proofs.Common.{rules}
use Rattle.rl_lexer.proofs.source.after_lifetime.Goals as goal

pub returns-in-Some-eq39-default-clause-rest : goal.returns-in-Some-eq39-default-clause-rest
returns-in-Some-eq39-default-clause-rest c = search rules steps 300000
