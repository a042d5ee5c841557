use Rattle.rl_strict.proofs.Names.{common_steps, arith}
use Rattle.rl_strict.proofs.flaws.skip_letters.Goals as goal

pub loop-letter-smaller : goal.loop-letter-smaller
loop-letter-smaller c = grind (arith, common_steps) steps 200000

pub loop-letter-preserved : goal.loop-letter-preserved
loop-letter-preserved c = grind (arith, common_steps) steps 200000

pub returns-in_default-split_char : goal.returns-in_default-split_char
returns-in_default-split_char c = grind (arith, common_steps) steps 200000
