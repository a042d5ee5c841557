use Rattle.rl_syntax.proofs.Common.{rules}
use Rattle.rl_fronts.proofs.front.Front.span.Goals as goal

pub returns-in-Negative : goal.returns-in-Negative
returns-in-Negative g c = search rules steps 300000
