use Rattle.std.proofs.lemmas.Result.{IfOk-weaker}
use Rattle.rl_scan.proofs.errors.report_token.Goals as goal

pub returns-clause-accepted : goal.returns-clause-accepted
returns-clause-accepted g c =
    IfOk-weaker c.report_literal.result _ _ (λ accepted is h literal. is h) c.report_literal.ensures.accepted
