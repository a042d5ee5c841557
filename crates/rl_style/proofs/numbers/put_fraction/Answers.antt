use Rattle.rl_syntax.proofs.Common.{◌∙◌, ◌++◌, take, true, refl, ap, sym, arith, rules, encode_utf8_all}
use Rattle.std.specs.Str.{chars}
use Rattle.rl_style.specs.Cases.{number_character}
use Rattle.rl_style.specs.Groups.{least_by, regrouped}
use Rattle.rl_style.proofs.WrittenNumbers.{dotted, fraction_put, undotted}
use Rattle.rl_style.proofs.numbers.put_fraction.Goals as goal

pub returns-in-None-clause-bytes : goal.returns-in-None-clause-bytes
returns-in-None-clause-bytes c =
    let m = c.args.manner in
    c.put_numeral.ensures.bytes ∙ ap (λ z. take c.args.at c.args.out.now ++ encode_utf8_all z)
    (sym (undotted m.style.float_zero (number_character m.style m.drops m.hex)
    (regrouped true m.size (least_by m.style.digit_groups)) (chars c.args.rest.now) _ refl c.in-None.ensures.none))

pub put_byte-at-requires : goal.put_byte-at-requires
put_byte-at-requires c =
    let long = (dotted c.args.rest.now c.in-Some.fraction.now _ c.utf8.rest (search rules) refl
    c.in-Some.ensures.some).0 in
    omega (arith, long, c.requires)

pub put_after_dot-requires : goal.put_after_dot-requires
put_after_dot-requires c =
    let long = (dotted c.args.rest.now c.in-Some.fraction.now _ c.utf8.rest (search rules) refl
    c.in-Some.ensures.some).0 in
    omega (arith, long, c.requires, c.put_byte-at.ensures.end, c.put_byte-at.ensures.len)

pub returns-in-Some-clause-end : goal.returns-in-Some-clause-end
returns-in-Some-clause-end c =
    let long = (dotted c.args.rest.now c.in-Some.fraction.now _ c.utf8.rest (search rules) refl
    c.in-Some.ensures.some).0 in
    omega (arith, long, c.put_byte-at.ensures.end, c.put_after_dot.ensures.end)

pub returns-in-Some-clause-bytes : goal.returns-in-Some-clause-bytes
returns-in-Some-clause-bytes c =
    let m = c.args.manner in
    fraction_put m.style.float_zero (number_character m.style m.drops m.hex)
    (regrouped true m.size (least_by m.style.digit_groups)) (take c.args.at c.args.out.now) _ _ (chars c.args.rest.now)
    (chars c.in-Some.fraction.now) c.put_byte-at.ensures.bytes c.put_after_dot.ensures.bytes
    (dotted c.args.rest.now c.in-Some.fraction.now _ c.utf8.rest (search rules) refl c.in-Some.ensures.some).1
