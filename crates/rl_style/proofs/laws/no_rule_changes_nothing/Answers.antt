use Rattle.rl_style.proofs.Theorems.{no_rule_changes_nothing}
use Rattle.rl_style.proofs.laws.no_rule_changes_nothing.Goals as goal

pub returns : goal.returns
returns c = no_rule_changes_nothing
