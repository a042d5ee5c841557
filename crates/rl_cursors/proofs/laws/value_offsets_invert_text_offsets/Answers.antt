use Rattle.rl_cursors.proofs.Theorems.{offsets_invert_the_places}
use Rattle.rl_cursors.proofs.laws.value_offsets_invert_text_offsets.Goals as goal

pub returns : goal.returns
returns c = offsets_invert_the_places
