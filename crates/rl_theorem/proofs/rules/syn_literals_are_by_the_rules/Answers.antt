use Rattle.rl_theorem.proofs.SynLaw.{reads_is_by_the_rules}
use Rattle.rl_theorem.proofs.rules.syn_literals_are_by_the_rules.Goals as goal

pub returns : goal.returns
returns c = reads_is_by_the_rules
