use Rattle.rl_syntax.proofs.Common.{◌≡◌, length}
use Rattle.rl_cursors.specs.Groups.{open_in}
use Rattle.rl_cursors.proofs.GroupLemmas.{HasPassed}
use Rattle.rl_cursors.proofs.groups.first_error.Given as goal

abbrev pub invariant-loop-token : goal.invariant-loop-token
invariant-loop-token l = record {
  has : HasPassed l.text l.tokens.rest (open_in l.groups);
  same : l.tokens.text ≡ l.text;
}

abbrev pub decreases-loop-token : goal.decreases-loop-token
decreases-loop-token l = length l.tokens.rest
