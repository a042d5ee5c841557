-- The invariant of the loop: the consumed tokens aren't literals.
use Rattle.rl_syntax.proofs.Common.{length}
use Rattle.rl_lexer.proofs.LiteralSteps.{Passed}
use Rattle.rl_lexer.proofs.sources.Sources.next_literal.Given as goal

abbrev pub invariant-loop-token : goal.invariant-loop-token
invariant-loop-token l = Passed l.initial.self l.self

abbrev pub decreases-loop-token : goal.decreases-loop-token
decreases-loop-token l = length l.self.rest
