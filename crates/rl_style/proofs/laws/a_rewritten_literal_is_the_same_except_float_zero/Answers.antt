use Rattle.rl_style.proofs.Theorems.{a_rewritten_literal_is_the_same_except_float_zero}
use Rattle.rl_style.proofs.laws.a_rewritten_literal_is_the_same_except_float_zero.Goals as goal

pub returns : goal.returns
returns c = a_rewritten_literal_is_the_same_except_float_zero
