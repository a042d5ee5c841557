use Rattle.rl_syntax.proofs.Common.{both_ways, chars, subst, sym}
use Rattle.rl_syntax.proofs.TailLemmas.{if_none}
use Rattle.rl_lexer.specs.Cursors.{CursorState}
use Rattle.rl_lexer.specs.Sources.{BeginsNoSource}
use Rattle.rl_cursors.proofs.RecoverySteps.{walks_on, walks_start}
use Rattle.rl_cursors.proofs.recovery.next_known.Goals as goal

pub loop-unclosed-init : goal.loop-unclosed-init
loop-unclosed-init c = walks_start c.args.unclosed c.args.tokens.now c.requires.cursor c.requires.unclosed

pub loop-unclosed-preserved : goal.loop-unclosed-preserved
loop-unclosed-preserved c = walks_on c.args.unclosed c.args.tokens.now c.loop-unclosed.tokens c.next.new.self
    c.in_ok-token.token c.loop-unclosed.invariant c.in_ok-token.ensures.next
    (λ is. both_ways _ c.if-is_literal.false (c.is_literal.ensures.1 is))

pub returns-then-begin-clause-none : goal.returns-then-begin-clause-none
returns-then-begin-clause-none c = subst (λ z. BeginsNoSource (chars z)) c.rest.ensures (c.begin.ensures c.if-begin.true)

pub returns-in_err-token-clause-none : goal.returns-in_err-token-clause-none
returns-in_err-token-clause-none c = if_none c.from_residual.result
    (subst (λ (z : CursorState). BeginsNoSource (chars z.rest)) (sym c.in_err-token.ensures.stays)
    c.in_err-token.ensures.none)
