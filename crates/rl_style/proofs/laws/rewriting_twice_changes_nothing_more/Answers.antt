use Rattle.rl_style.proofs.Theorems.{a_rewritten_text_stays}
use Rattle.rl_style.proofs.laws.rewriting_twice_changes_nothing_more.Goals as goal

pub returns : goal.returns
returns c = a_rewritten_text_stays
