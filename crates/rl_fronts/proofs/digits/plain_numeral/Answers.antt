use Rattle.rl_syntax.proofs.Common.{common_steps, arith}
use Rattle.rl_fronts.proofs.digits.plain_numeral.Goals as goal

pub returns-in_err-digits : goal.returns-in_err-digits
returns-in_err-digits g c = grind (arith, common_steps) steps 200000

pub returns : goal.returns
returns g c = grind (arith, common_steps) steps 200000
