use Rattle.std.proofs.Common.{length}
use Rattle.rl_cursors.specs.Linters.{HasReported}
use Rattle.rl_uses.specs.Capitals.{IsCapital, place_of}
use Rattle.rl_uses.proofs.capitals.capital_integers.Given as goal

abbrev pub invariant-loop-token : goal.invariant-loop-token
invariant-loop-token g l = HasReported IsCapital place_of l.source l.tokens l.places.items

abbrev pub decreases-loop-token : goal.decreases-loop-token
decreases-loop-token g l = length l.tokens.rest
