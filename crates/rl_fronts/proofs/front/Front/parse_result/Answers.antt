use Rattle.rl_syntax.proofs.Common.{subst, ◌∷◌}
use Rattle.rl_lenient.proofs.Names.{SpannedText}
use Rattle.rl_tokens.specs.Puncts.{Mark}
use Rattle.rl_lenient.specs.Founds.{IsFound}
use Rattle.rl_fronts.proofs.front.Front.parse_result.Goals as goal

pub returns-in-Literal-clause-found : goal.returns-in-Literal-clause-found
returns-in-Literal-clause-found g c = rw c.in-Literal.is (rw c.text.ensures at c.parse_literal.ensures.found)

pub returns-in-Word-clause-found : goal.returns-in-Word-clause-found
returns-in-Word-clause-found g c = rw c.in-Word.is (rw c.text-in-Word.ensures.text at c.parse_literal-in-Word.ensures.found)

pub returns-in-Negative-clause-found : goal.returns-in-Negative-clause-found
returns-in-Negative-clause-found g c =
    rw c.in-Negative.is (subst (λ (n : Mark × SpannedText). IsFound (45 ∷ n.1.text) c.negative.inside.found)
    c.negative.view_is c.negative.invariant)
