use Rattle.rl_syntax.proofs.Common.{arith, common_steps, subst}
use Rattle.rl_cursors.specs.NextLiterals.{HasNoNextLiteral}
use Rattle.rust_literals.proofs.FlatLemmas.{no_some}
use Rattle.rust_literals.proofs.flat.push_leading_literal.Goals as goal

pub returns-in_default-clause-none : goal.returns-in_default-clause-none
returns-in_default-clause-none g c = λ _. subst HasNoNextLiteral c.fork-ahead.ensures
    (no_some c.in_ok-literal.field-0 c.in_default.is c.in_ok-literal.ensures.none)

pub returns-clause-next : goal.returns-clause-next
returns-clause-next g c = grind (arith, common_steps) steps 400000

pub returns-clause-shorter : goal.returns-clause-shorter
returns-clause-shorter g c = grind (arith, common_steps) steps 400000
