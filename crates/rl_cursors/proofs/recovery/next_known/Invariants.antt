-- The loop's invariant: the tokens consumed so far aren't literals.
use Rattle.rl_syntax.proofs.Common.{length}
use Rattle.rl_cursors.proofs.RecoverySteps.{Walks}
use Rattle.rl_cursors.proofs.recovery.next_known.Given as goal

abbrev pub invariant-loop-unclosed : goal.invariant-loop-unclosed
invariant-loop-unclosed l = Walks l.unclosed l.initial.tokens l.tokens

abbrev pub decreases-loop-unclosed : goal.decreases-loop-unclosed
decreases-loop-unclosed l = length l.tokens.rest
