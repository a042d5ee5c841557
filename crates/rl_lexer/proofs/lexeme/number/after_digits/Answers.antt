use Rattle.rl_syntax.proofs.Common.{arith, common_steps}
use Rattle.rl_syntax.proofs.TailLemmas.{tail_step}
use Rattle.rl_lexer.proofs.lexeme.number.after_digits.Goals as goal

pub loop-following-preserved : goal.loop-following-preserved
loop-following-preserved c = grind (arith, common_steps, tail_step)
