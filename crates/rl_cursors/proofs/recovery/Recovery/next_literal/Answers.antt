use Rattle.rl_syntax.proofs.Common.{chars, subst, sym}
use Rattle.rl_syntax.specs.Texts.{IsTail}
use Rattle.rl_lexer.specs.Cursors.{CursorState}
use Rattle.rl_lexer.specs.Sources.{BeginsNoSource}
use Rattle.rl_cursors.proofs.RecoverySteps.{further, literal_tail}
use Rattle.rl_cursors.proofs.recovery.Recovery.next_literal.Goals as goal

pub invariant_of-self : goal.invariant_of-self
invariant_of-self c = further c.self.inside.text.now c.self.inside.part.now c.self.inside.rest.now
    c.rest-self-inside.result.now c.self.inside.unclosed c.self.invariant
    (subst (IsTail c.self.inside.rest.now) (sym c.rest-self-inside.ensures)
    (subst (λ (z : CursorState). IsTail z.rest c.next_of.new.tokens.rest) c.resume-tokens.ensures
    (literal_tail c.resume-tokens.result c.in-Some.token c.next_of.new.tokens c.in-Some.ensures.found)))

pub stop-requires-clause-none : goal.stop-requires-clause-none
stop-requires-clause-none c = subst (λ z. BeginsNoSource (chars z)) (sym c.rest.ensures) c.in-None.ensures.none
