use Rattle.std.proofs.Common.{subst, sym}
use Rattle.rl_strict.specs.declared.strict_reading.Reading.TheVariants.{Integer}
use Rattle.rl_scan.specs.Accepted.{HasTypeBy}
use Rattle.rl_scan.proofs.errors.is_bare.Goals as goal

pub returns-in-Text : goal.returns-in-Text
returns-in-Text c = λ t negated. subst (HasTypeBy c.args.text.now negated) (sym c.in-Text.is)
    (c.has_no_suffix.ensures t 0 negated)

pub returns-in-Unit : goal.returns-in-Unit
returns-in-Unit c = λ t negated. subst (HasTypeBy c.args.text.now negated) (sym c.in-Unit.is)
    (c.has_no_suffix-in-Unit.ensures t 0 negated)

pub returns-in-Integer-Some-default : goal.returns-in-Integer-Some-default
returns-in-Integer-Some-default c = λ t negated.
    let here = c.in-Integer-Some-default in
    subst (HasTypeBy c.args.text.now negated) (sym here.is)
    (subst (λ o. HasTypeBy c.args.text.now negated (Integer o here.at)) (sym (rw here.is at here.field-0-is))
    (c.has_no_suffix-in-Integer-Some-default.ensures t here.field-0-0 negated))
