use Rattle.rl_syntax.proofs.Theorems.{a_text_has_one_reading}
use Rattle.rl_syntax.proofs.laws.a_text_has_one_reading.Goals as goal

pub returns : goal.returns
returns c = a_text_has_one_reading
