use Rattle.rl_cursors.proofs.Theorems.{segments_make_the_literal}
use Rattle.rl_cursors.proofs.laws.segments_join_to_the_literal.Goals as goal

pub returns : goal.returns
returns c = segments_make_the_literal
