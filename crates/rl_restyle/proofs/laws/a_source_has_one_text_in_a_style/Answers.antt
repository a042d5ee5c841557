use Rattle.rl_restyle.proofs.Theorems.{has_one_text}
use Rattle.rl_restyle.proofs.laws.a_source_has_one_text_in_a_style.Goals as goal

pub returns : goal.returns
returns c = has_one_text
