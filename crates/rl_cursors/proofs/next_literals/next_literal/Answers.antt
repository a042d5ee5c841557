use Rattle.rl_syntax.proofs.Common.{subst}
use Rattle.rl_cursors.specs.NextLiterals.{HasNoNextLiteral}
use Rattle.rl_cursors.proofs.NextLiteralLemmas.{if_none}
use Rattle.rl_cursors.proofs.next_literals.next_literal.Goals as goal

pub returns-in_err-literal-clause-none : goal.returns-in_err-literal-clause-none
returns-in_err-literal-clause-none c = if_none c.from_residual.result
    (subst HasNoNextLiteral c.fork-ahead.ensures c.in_err-literal.ensures.none)
