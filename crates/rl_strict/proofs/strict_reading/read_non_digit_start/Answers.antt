use Rattle.rl_strict.proofs.Names.{true, Text}
use Rattle.rl_strict.proofs.FilePlaces.{explained}
use Rattle.rl_strict.proofs.FormReads.{flaw_signed}
use Rattle.rl_strict.proofs.strict_reading.read_non_digit_start.Goals as goal

pub returns-in-Ok-clause-reads : goal.returns-in-Ok-clause-reads
returns-in-Ok-clause-reads c = c.in-Ok.ensures.reads Text

pub returns-in-Ok-clause-token : goal.returns-in-Ok-clause-token
returns-in-Ok-clause-token c = c.in-Ok.ensures.token Text

pub returns-in-Err-clause-flaw : goal.returns-in-Err-clause-flaw
returns-in-Err-clause-flaw c =
    let at = c.flaw_with_offsets.ensures in
    explained Text true _ _ _ _ c.flaw_with_offsets.result (c.in-Err.ensures.flaw Text) at.kind at.from at.lo at.hi at.ordered

pub returns-in-Err-other_at-clause-flaw : goal.returns-in-Err-other_at-clause-flaw
returns-in-Err-other_at-clause-flaw c =
    let at = c.flaw_with_offsets-in-Err-other_at.ensures in
    explained Text true _ _ _ _ c.flaw_with_offsets-in-Err-other_at.result
    (flaw_signed Text true _ _ _ _ (λ e. c.in-None.ensures.rest) c.in-Err-other_at.ensures.flaw) at.kind at.from at.lo
    at.hi at.ordered
