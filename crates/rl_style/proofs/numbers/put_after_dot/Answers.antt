use Rattle.rl_syntax.proofs.Common.{take, true}
use Rattle.std.specs.Str.{chars}
use Rattle.rl_style.specs.Cases.{number_character}
use Rattle.rl_style.specs.Groups.{least_by, regrouped}
use Rattle.rl_style.proofs.SameFloats.{run_cut}
use Rattle.rl_style.proofs.WrittenNumbers.{none_put, some_put}
use Rattle.rl_style.proofs.numbers.put_after_dot.Goals as goal

pub put_digit_run-at-requires-clause-no_plus : goal.put_digit_run-at-requires-clause-no_plus
put_digit_run-at-requires-clause-no_plus c = (run_cut (chars c.args.fraction.now) (chars c.before-in-Some.result.now)
    (chars c.skip_class-exponent.result.now) c.before-in-Some.ensures.chars c.skip_class-exponent.ensures.rest).1

pub returns-in-Some-clause-bytes : goal.returns-in-Some-clause-bytes
returns-in-Some-clause-bytes c =
    let m = c.args.manner in
    some_put m.style.float_zero (number_character m.style m.drops m.hex)
    (regrouped true m.size (least_by m.style.digit_groups)) (take c.args.at c.args.out.now) _ _
    (chars c.args.fraction.now) (chars c.before-in-Some.result.now) (chars c.skip_class-exponent.result.now) _ _
    c.put_digit_run-at.ensures.bytes c.put_numeral.ensures.bytes
    (run_cut (chars c.args.fraction.now) (chars c.before-in-Some.result.now) (chars c.skip_class-exponent.result.now)
    c.before-in-Some.ensures.chars c.skip_class-exponent.ensures.rest).0 c.skip_class-exponent.ensures.rest
    c.in-Some.ensures.chars

pub returns-in-None-clause-bytes : goal.returns-in-None-clause-bytes
returns-in-None-clause-bytes c =
    let m = c.args.manner in
    none_put m.style.float_zero (number_character m.style m.drops m.hex)
    (regrouped true m.size (least_by m.style.digit_groups)) (take c.args.at c.args.out.now) _
    (chars c.args.fraction.now) c.put_zero.ensures.bytes c.in-None.ensures.chars
