use Rattle.rl_flaws.proofs.Theorems.{a_token_begins_as_its_kind}
use Rattle.rl_flaws.proofs.laws.a_token_begins_as_its_kind.Goals as goal

pub returns : goal.returns
returns c = a_token_begins_as_its_kind
