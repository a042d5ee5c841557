use Rattle.rl_syntax.proofs.Common.{common_steps, arith}
use Rattle.rl_lenient.specs.Mirrors.UnitAt.{hex_at}
use Rattle.rl_lenient.proofs.units.hex_escape.Goals as goal

pub returns-in_err-low-clause-ascii : goal.returns-in_err-low-clause-ascii
unfolding hex_at
returns-in_err-low-clause-ascii c = grind (arith, common_steps) steps 200000

pub overflow_mul-code : goal.overflow_mul-code
unfolding hex_at
overflow_mul-code c = grind (arith, common_steps) steps 200000

pub overflow_add-code : goal.overflow_add-code
unfolding hex_at
overflow_add-code c = grind (arith, common_steps) steps 200000

pub overflow_cast-result : goal.overflow_cast-result
unfolding hex_at
overflow_cast-result c = grind (arith, common_steps) steps 200000

pub returns-then-may_be_hex-clause-value : goal.returns-then-may_be_hex-clause-value
unfolding hex_at
returns-then-may_be_hex-clause-value c = grind (arith, common_steps) steps 200000

pub returns-else-may_be_hex-clause-value : goal.returns-else-may_be_hex-clause-value
unfolding hex_at
returns-else-may_be_hex-clause-value c = grind (arith, common_steps) steps 200000

pub returns-then-may_be_hex-clause-ascii : goal.returns-then-may_be_hex-clause-ascii
returns-then-may_be_hex-clause-ascii c = grind (arith, common_steps) steps 2000000
