use Rattle.std.proofs.Common.{inl, inr, refl, slice_range, subst}
use Rattle.rl_flaws.specs.Before.{may_negate}
use Rattle.rl_strict.specs.FlawWords.{flaw_id}
use Rattle.rl_strict.specs.declared.flaws.Flaw.{Flaw}
use Rattle.rl_scan.specs.Accepted.{Allows}
use Rattle.rl_scan.proofs.errors.report_literal.Goals as goal

pub returns-in-Some-clause-accepted : goal.returns-in-Some-clause-accepted
returns-in-Some-clause-accepted g c = λ h.
    let allowed = rw c.in-Some.is at c.in_ok-is_allowed-in-Ok.ensures in
    inl (c.in-Ok.reading, c.in-Ok.ensures.reads, inr (inr (inr (inr (allowed h)))))

pub returns-then-is_bare-clause-accepted : goal.returns-then-is_bare-clause-accepted
returns-then-is_bare-clause-accepted g c = λ h.
    let negated = may_negate (slice_range c.args.follower.now 0 c.args.token.lo) in
    inl (c.in-Ok.reading, c.in-Ok.ensures.reads, inl (c.if-is_bare.ensures refl negated))

pub returns-in_ok-report_later_flaws-in-Err-clause-accepted :
    goal.returns-in_ok-report_later_flaws-in-Err-clause-accepted
returns-in_ok-report_later_flaws-in-Err-clause-accepted g c = λ h.
    inr (inl (
      c.in-Err.flaw,
      c.in-Err.ensures.flaw,
      subst (λ (z : Flaw). Allows c.args.job (flaw_id z.kind))
          c.after-later.ensures.flaw (c.in_ok-is_allowed-in-Err.ensures (c.both.ensures h).0),
    ))
