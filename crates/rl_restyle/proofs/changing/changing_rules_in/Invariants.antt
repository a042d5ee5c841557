use Rattle.rl_syntax.proofs.Common.{chars, length}
use Rattle.rl_restyle.proofs.ChangingLemmas.{AreTaken}
use Rattle.rl_restyle.proofs.changing.changing_rules_in.Given as goal

abbrev pub invariant-loop-rule : goal.invariant-loop-rule
invariant-loop-rule g l = AreTaken l.style (chars l.front) (chars l.text) l.rest l.rules.items

abbrev pub decreases-loop-rule : goal.decreases-loop-rule
decreases-loop-rule g l = length l.rest
