use Rattle.rl_syntax.proofs.Common.{rules}
use Rattle.rl_syntax.proofs.span.Span.join.Goals as goal

pub returns-clause-range : goal.returns-clause-range
returns-clause-range c = search rules steps 300000
