use Rattle.rl_cursors.proofs.Theorems.{kinds_differ}
use Rattle.rl_uses.proofs.CapitalLemmas.{no_integer, no_reading}
use Rattle.rl_uses.proofs.capitals.is_capital.Goals as goal

pub returns-in_default-clause-no : goal.returns-in_default-clause-no
returns-in_default-clause-no c =
    λ f. no_integer c.args.text.now c.in-Some.found c.in-Some.ensures.found
    (λ e. kinds_differ _ _ _ c.eq.ensures c.if-eq.false e)

pub returns-in_default-2-clause-no : goal.returns-in_default-2-clause-no
returns-in_default-2-clause-no c = λ f. no_reading _ (rw c.in_default.is at c.parse_literal.ensures.none)
