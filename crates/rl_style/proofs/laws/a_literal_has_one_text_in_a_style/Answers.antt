use Rattle.rl_style.proofs.Theorems.{a_literal_has_one_text_in_a_style}
use Rattle.rl_style.proofs.laws.a_literal_has_one_text_in_a_style.Goals as goal

pub returns : goal.returns
returns c = a_literal_has_one_text_in_a_style
