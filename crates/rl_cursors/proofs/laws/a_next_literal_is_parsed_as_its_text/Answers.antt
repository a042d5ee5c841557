use Rattle.rl_cursors.proofs.Theorems.{a_taken_literal_is_read}
use Rattle.rl_cursors.proofs.laws.a_next_literal_is_parsed_as_its_text.Goals as goal

pub returns : goal.returns
returns c = a_taken_literal_is_read
