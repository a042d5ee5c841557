use Rattle.rl_syntax.proofs.Common.{rules}
use Rattle.rl_fronts.proofs.front.Front.token.Goals as goal

pub returns-in-Negative-clause-ok : goal.returns-in-Negative-clause-ok
returns-in-Negative-clause-ok g c = search rules steps 300000

pub returns-in-Negative-clause-memory : goal.returns-in-Negative-clause-memory
returns-in-Negative-clause-memory g c = search rules steps 300000
