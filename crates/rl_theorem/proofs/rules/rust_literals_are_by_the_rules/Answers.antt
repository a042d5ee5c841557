use Rattle.rl_theorem.proofs.RustLaw.{strict_is_by_the_rules}
use Rattle.rl_theorem.proofs.rules.rust_literals_are_by_the_rules.Goals as goal

pub returns : goal.returns
returns c = strict_is_by_the_rules
