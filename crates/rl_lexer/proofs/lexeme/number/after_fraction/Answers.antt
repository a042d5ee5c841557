use Rattle.rl_syntax.proofs.Common.{arith, common_steps}
use Rattle.rl_syntax.proofs.TailLemmas.{tail_step}
use Rattle.rl_lexer.proofs.lexeme.number.after_fraction.Goals as goal

pub returns-then-begins_dot-clause-following : goal.returns-then-begins_dot-clause-following
returns-then-begins_dot-clause-following c = grind (arith, common_steps, tail_step)
