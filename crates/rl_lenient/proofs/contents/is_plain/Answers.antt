use Rattle.rl_syntax.proofs.Common.{rules}
use Rattle.rl_lenient.proofs.contents.is_plain.Goals as goal

pub returns-in-Float : goal.returns-in-Float
returns-in-Float c = search rules steps 300000
