use Rattle.rl_cursors.proofs.Theorems.{the_offsets_of_bytes_are_in_the_body}
use Rattle.rl_cursors.proofs.laws.text_offsets_are_in_the_body.Goals as goal

pub returns : goal.returns
returns c = the_offsets_of_bytes_are_in_the_body
