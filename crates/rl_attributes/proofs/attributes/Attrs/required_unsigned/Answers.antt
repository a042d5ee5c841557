use Rattle.std.proofs.Common.{inl}
use Rattle.rl_attributes.proofs.TextLemmas.{in_some, in_none}
use Rattle.rl_attributes.proofs.attributes.Attrs.required_unsigned.Goals as goal

pub returns-in-Ok-Some-clause-set : goal.returns-in-Ok-Some-clause-set
returns-in-Ok-Some-clause-set g c =
    in_some c.in-Ok-Some.field-0 c.in-Ok-Some.value _ _ c.in-Ok-Some.field-0-is c.in-Ok-Some.ensures.text

pub returns-in-Ok-Some-clause-exactly : goal.returns-in-Ok-Some-clause-exactly
returns-in-Ok-Some-clause-exactly g c w at =
    let e = c.in-Ok-Some.ensures.exactly w at in let is = c.in-Ok-Some.field-0-is in cc

pub returns-in-Ok-None-clause-exactly : goal.returns-in-Ok-None-clause-exactly
returns-in-Ok-None-clause-exactly g c w at =
    absurd (let e = c.in-Ok-None.ensures.exactly w at in let is = c.in-Ok-None.field-0-is in cc)

pub returns-in-Ok-None-clause-rejected : goal.returns-in-Ok-None-clause-rejected
returns-in-Ok-None-clause-rejected g c =
    inl (in_none c.in-Ok-None.field-0 _ _ c.in-Ok-None.field-0-is c.in-Ok-None.ensures.text, c.missing_error.ensures)

pub returns-in-Err-clause-exactly : goal.returns-in-Err-clause-exactly
returns-in-Err-clause-exactly g c w at = absurd (let e = c.in-Err.ensures.exactly w at in cc)
