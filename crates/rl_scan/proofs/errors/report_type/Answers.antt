use Rattle.std.proofs.Common.{inl, inr, subst}
use Rattle.std.proofs.lemmas.Result.{IfOk-weaker}
use Rattle.rl_flaws.specs.Before.{may_negate}
use Rattle.rl_scan.specs.Accepted.{IsIdOfTypeError}
use Rattle.rl_scan.proofs.errors.report_type.Goals as goal

pub returns-clause-accepted : goal.returns-clause-accepted
returns-clause-accepted g c =
    let found = c.in-Some-type_words in
    let id = subst (λ z. IsIdOfTypeError found.id.now c.args.token.text.now (may_negate z) c.args.reading.now)
    c.in-Some.ensures found.ensures.some in
    IfOk-weaker c.report_fault.result _ _ (λ accepted allows h. inr (inr (inr (inl (found.id.now, id, allows h)))))
    c.report_fault.ensures
