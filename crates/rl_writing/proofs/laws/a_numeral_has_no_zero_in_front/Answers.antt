use Rattle.rl_writing.proofs.Theorems.{a_numeral_has_no_zero_in_front}
use Rattle.rl_writing.proofs.laws.a_numeral_has_no_zero_in_front.Goals as goal

pub returns : goal.returns
returns c = a_numeral_has_no_zero_in_front
