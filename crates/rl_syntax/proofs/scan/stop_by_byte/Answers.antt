use Rattle.rl_syntax.proofs.Common.{arith, common_steps}
use Rattle.rl_syntax.proofs.scan.stop_by_byte.Goals as goal

pub loop-at-preserved : goal.loop-at-preserved
loop-at-preserved g c = grind (arith, common_steps)

pub returns-else-not-is_stop : goal.returns-else-not-is_stop
returns-else-not-is_stop g c = grind (arith, common_steps)

pub returns-after-loop-at : goal.returns-after-loop-at
returns-after-loop-at g c = grind (arith, common_steps)
