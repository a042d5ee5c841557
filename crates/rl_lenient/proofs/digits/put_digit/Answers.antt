use Rattle.rl_syntax.proofs.Common.{common_steps, arith}
use Rattle.rl_lenient.proofs.digits.put_digit.Goals as goal

pub overflow_cast-c : goal.overflow_cast-c
overflow_cast-c c = grind (arith, common_steps) steps 200000

pub returns-in-E-clause-end : goal.returns-in-E-clause-end
returns-in-E-clause-end c = grind (arith, common_steps) steps 200000

pub returns-in-E-clause-bytes : goal.returns-in-E-clause-bytes
returns-in-E-clause-bytes c = grind (arith, common_steps) steps 200000

pub returns-in_default-clause-end : goal.returns-in_default-clause-end
returns-in_default-clause-end c = grind (arith, common_steps) steps 200000

pub returns-in_default-clause-bytes : goal.returns-in_default-clause-bytes
returns-in_default-clause-bytes c = grind (arith, common_steps) steps 200000
