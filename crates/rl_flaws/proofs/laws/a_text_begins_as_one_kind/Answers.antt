use Rattle.rl_flaws.proofs.Theorems.{a_text_begins_as_one_kind}
use Rattle.rl_flaws.proofs.laws.a_text_begins_as_one_kind.Goals as goal

pub returns : goal.returns
returns c = a_text_begins_as_one_kind
