use Rattle.rl_syntax.proofs.Common.{chars, subst, sym}
use Rattle.rl_syntax.specs.Texts.{IsTail}
use Rattle.rl_lexer.specs.Cursors.{IsCursorState}
use Rattle.rl_cursors.specs.Recoveries.{RecoveryState, begins_character}
use Rattle.rl_cursors.proofs.RecoverySteps.{lines_of, nothing_left, taken_up, unclosed_rest}
use Rattle.rl_cursors.proofs.recovery.Recovery.go_on.Goals as goal

pub after-unclosed-requires-clause-unclosed : goal.after-unclosed-requires-clause-unclosed
after-unclosed-requires-clause-unclosed c = unclosed_rest c.self.inside.unclosed c.self.inside.rest.now c.args.rest.now
    c.self.invariant.cursor.following.is_text
    (subst (λ (z : RecoveryState). IsTail z.part.rest c.args.rest.now) (sym c.self.view_is) c.requires.following)
    c.self.invariant.unclosed

pub invariant_of-self : goal.invariant_of-self
invariant_of-self c =
    let rest = c.args.rest.now in
    let lines = c.in-Some.lines.now in
    taken_up c.self.inside.text.now c.self.inside.part.now c.self.inside.rest.now rest lines c.rest-self-inside.result.now
    c.self.inside.unclosed c.after-unclosed.result c.self.invariant
    (subst (λ (z : RecoveryState). IsTail z.part.rest rest) (sym c.self.view_is) c.requires.following)
    c.in-Some.ensures.following
    (subst (IsCursorState lines) (sym c.rest-self-inside.ensures) c.new-tokens.ensures.following)
    (c.after-unclosed.ensures (begins_character (chars rest)) (chars lines)
    (lines_of (chars rest) (chars lines) c.in-Some.ensures.lines))

pub invariant_of-self-in-None : goal.invariant_of-self-in-None
invariant_of-self-in-None c = nothing_left c.self.inside.text.now c.self.inside.part.now c.self.inside.rest.now
    c.self.inside.unclosed c.self.invariant
