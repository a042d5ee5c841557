use Rattle.std.proofs.Common.{inl, subst}
use Rattle.std.specs.Prelude.{Ok}
use Rattle.rl_attributes.specs.TextSettings.{IsSomeNumberOrRejected}
use Rattle.rl_attributes.proofs.TextLemmas.{in_some, in_none}
use Rattle.rl_attributes.proofs.attributes.Attrs.required_number.Goals as goal

pub returns-in-Ok-Some-clause-set : goal.returns-in-Ok-Some-clause-set
returns-in-Ok-Some-clause-set g c =
    in_some c.in-Ok-Some.field-0 c.in-Ok-Some.number _ _ c.in-Ok-Some.field-0-is c.in-Ok-Some.ensures.text

pub returns-in-Ok-Some-clause-exactly : goal.returns-in-Ok-Some-clause-exactly
returns-in-Ok-Some-clause-exactly g c ds at =
    subst (λ y. IsSomeNumberOrRejected {A = g.row.A.Denot} g.N.FromStr.from_str_gives ds (Ok y)) c.in-Ok-Some.field-0-is
    (c.in-Ok-Some.ensures.exactly ds at)

pub returns-in-Ok-None-clause-exactly : goal.returns-in-Ok-None-clause-exactly
returns-in-Ok-None-clause-exactly g c ds at =
    absurd (subst (λ y. IsSomeNumberOrRejected {A = g.row.A.Denot} g.N.FromStr.from_str_gives ds (Ok y)) c.in-Ok-None.field-0-is
    (c.in-Ok-None.ensures.exactly ds at))

pub returns-in-Ok-None-clause-rejected : goal.returns-in-Ok-None-clause-rejected
returns-in-Ok-None-clause-rejected g c =
    inl (in_none c.in-Ok-None.field-0 _ _ c.in-Ok-None.field-0-is c.in-Ok-None.ensures.text, c.missing_error.ensures)
