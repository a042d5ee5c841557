use Rattle.rl_cursors.proofs.Theorems.{the_places_of_bytes_are_in_order}
use Rattle.rl_cursors.proofs.laws.text_offsets_keep_the_order_of_bytes.Goals as goal

pub returns : goal.returns
returns c = the_places_of_bytes_are_in_order
