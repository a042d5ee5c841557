use Rattle.rl_syntax.specs.Written.{written_unit}
use Rattle.rl_syntax.proofs.Common.{common_steps, arith}
use Rattle.rl_syntax.proofs.written_unit.named_escape.Goals as goal

pub returns-in-0-clause-some : goal.returns-in-0-clause-some
unfolding written_unit
returns-in-0-clause-some c = rw c.in-0.is (grind (arith, common_steps) steps 300000)

pub returns-in-9-clause-some : goal.returns-in-9-clause-some
unfolding written_unit
returns-in-9-clause-some c = rw c.in-9.is (grind (arith, common_steps) steps 300000)

pub returns-in-10-clause-some : goal.returns-in-10-clause-some
unfolding written_unit
returns-in-10-clause-some c = rw c.in-10.is (grind (arith, common_steps) steps 300000)

pub returns-in-13-clause-some : goal.returns-in-13-clause-some
unfolding written_unit
returns-in-13-clause-some c = rw c.in-13.is (grind (arith, common_steps) steps 300000)

pub returns-in-92-clause-some : goal.returns-in-92-clause-some
unfolding written_unit
returns-in-92-clause-some c = rw c.in-92.is (grind (arith, common_steps) steps 300000)
