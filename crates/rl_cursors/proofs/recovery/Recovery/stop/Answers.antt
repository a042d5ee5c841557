use Rattle.rl_syntax.proofs.Common.{◌+◌, ◌-◌, ◌≡◌, arith, ap, length, sym, subst}
use Rattle.rl_syntax.specs.Texts.{IsTail}
use Rattle.rl_cursors.specs.Recoveries.{RecoveryState}
use Rattle.rl_cursors.proofs.RecoverySteps.{error_of, further, in_whole_len, stops_at}
use Rattle.rl_cursors.proofs.recovery.Recovery.stop.Goals as goal

pub invariant_of-self : goal.invariant_of-self
invariant_of-self c = further _ _ c.self.inside.rest.now _ _ c.self.invariant
    (subst (λ (z : RecoveryState). IsTail z.part.rest c.args.rest.now) (sym c.self.view_is) c.requires.following)

pub returns-clause-error : goal.returns-clause-error
returns-clause-error c =
    let rest = c.args.rest.now in
    let whole = c.self.inside.text.now in
    let tail : IsTail c.self.inside.rest.now rest = subst (λ (z : RecoveryState). IsTail z.part.rest rest)
    (sym c.self.view_is) c.requires.following in
    let place : (length whole - length rest) + length rest ≡ length c.args.self.now.whole = omega (
      arith,
      in_whole_len whole c.self.inside.part.now c.self.inside.rest.now rest c.self.inside.unclosed c.self.invariant tail,
      ap (λ (z : RecoveryState). length z.whole) c.self.view_is,
    ) in
    stops_at rest c.args.self.now c.go_on.new.self c.new.result c.source_error_kind.result (length whole - length rest)
    c.new.ensures
    (error_of rest c.source_error_kind.result c.utf8.rest c.is_empty.result c.is_empty.ensures c.if-is_empty.false
    c.requires.none c.source_error_kind.ensures) place c.go_on.ensures.goes_on c.go_on.ensures.same
