use Rattle.rl_syntax.proofs.Theorems.{a_text_is_strict_in_one_way}
use Rattle.rl_syntax.proofs.laws.a_text_has_one_strict_reading.Goals as goal

pub returns : goal.returns
returns c = a_text_is_strict_in_one_way
