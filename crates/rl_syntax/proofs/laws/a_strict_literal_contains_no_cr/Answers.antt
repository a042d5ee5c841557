use Rattle.rl_syntax.proofs.Theorems.{a_strict_text_has_no_return}
use Rattle.rl_syntax.proofs.laws.a_strict_literal_contains_no_cr.Goals as goal

pub returns : goal.returns
returns c = a_strict_text_has_no_return
