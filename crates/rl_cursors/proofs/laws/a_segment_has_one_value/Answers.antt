use Rattle.rl_cursors.proofs.Theorems.{a_segment_has_one_value}
use Rattle.rl_cursors.proofs.laws.a_segment_has_one_value.Goals as goal

pub returns : goal.returns
returns c = a_segment_has_one_value
