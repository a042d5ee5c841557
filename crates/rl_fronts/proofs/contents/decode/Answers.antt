use Rattle.rl_syntax.proofs.Common.{common_steps, arith}
use Rattle.rl_fronts.proofs.contents.decode.Goals as goal

pub returns-in_err-bytes : goal.returns-in_err-bytes
returns-in_err-bytes g c = grind (arith, common_steps) steps 200000

pub returns : goal.returns
returns g c = grind (arith, common_steps) steps 200000
