use Rattle.rl_style.proofs.LeadingZeros.{none_left, not_empty, some_left}
use Rattle.rl_style.proofs.numbers.significant.Goals as goal

pub returns-in-Some-clause-digits : goal.returns-in-Some-clause-digits
returns-in-Some-clause-digits c = some_left c.args.digits.now c.skip_padding-rest.result.now _ _
    c.skip_padding-rest.ensures.rest
    c.in-Some.ensures.chars

pub returns-in-None-clause-digits : goal.returns-in-None-clause-digits
returns-in-None-clause-digits c = none_left c.args.digits.now c.skip_padding-rest.result.now
    c.skip_padding-rest.ensures.rest
    c.in-None.ensures.chars

pub returns-in-None-clause-shorter : goal.returns-in-None-clause-shorter
returns-in-None-clause-shorter c = not_empty c.args.digits.now c.requires
