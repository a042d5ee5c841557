use Rattle.rl_syntax.proofs.Common.{sym, subst}
use Rattle.rl_lexer.specs.Cursors.{IsCursorState}
use Rattle.rl_cursors.proofs.RecoverySteps.{begins_state}
use Rattle.rl_cursors.proofs.recovery.Recovery.new.Goals as goal

pub invariant_of-result : goal.invariant_of-result
invariant_of-result c = begins_state c.args.text.now c.rest.result.now c.nothing.result
    (subst (IsCursorState c.args.text.now) (sym c.rest.ensures) c.new-tokens.ensures.following) c.nothing.ensures
