use Rattle.rl_syntax.proofs.Common.{◌∙◌, ap, inl, inr, sym}
use Rattle.std.specs.Str.{chars}
use Rattle.rl_style.proofs.SameFloats.{run_cut}
use Rattle.rl_style.proofs.WrittenNumbers.{float_put, float_unchanged, float_written}
use Rattle.rl_style.proofs.numbers.write_float.Goals as goal

pub put_digit_run-at-requires-clause-no_plus : goal.put_digit_run-at-requires-clause-no_plus
put_digit_run-at-requires-clause-no_plus c = (run_cut (chars c.kept_run-numeral.result.now) (chars c.before-3.result.now)
    (chars c.skip_class-rest.result.now) c.before-3.ensures.chars c.skip_class-rest.ensures.rest).1

pub returns-clause-written : goal.returns-clause-written
returns-clause-written c =
    let m = c.number_style-manner.ensures in
    let run = (run_cut (chars c.kept_run-numeral.result.now) (chars c.before-3.result.now)
    (chars c.skip_class-rest.result.now) c.before-3.ensures.chars c.skip_class-rest.ensures.rest).0 in
    let exact = sym c.is_mistyped_float.ensures ∙ c.if-is_mistyped_float.false in
    inl (float_written c.args.style c.args.text.now c.before-2.result.now c.kept_run-numeral.result.now c.args.suffix.now _
    c.requires.float.0 c.kept_run-numeral.utf8 c.utf8.suffix c.before-2.ensures.chars c.kept_run-numeral.ensures.kept
    (float_put c.args.style c.number_style-manner.result (chars c.kept_run-numeral.result.now)
    (chars c.before-3.result.now)
    (chars c.skip_class-rest.result.now) _ _ _ c.args.suffix.now m.style m.drops m.hex m.size c.put_digit_run-at.ensures.bytes
    c.put_fraction-at.ensures.bytes c.put_suffix.ensures.bytes run c.skip_class-rest.ensures.rest)
    c.requires.float.1 exact).1

pub returns-clause-utf8 : goal.returns-clause-utf8
returns-clause-utf8 c =
    let m = c.number_style-manner.ensures in
    let run = (run_cut (chars c.kept_run-numeral.result.now) (chars c.before-3.result.now)
    (chars c.skip_class-rest.result.now) c.before-3.ensures.chars c.skip_class-rest.ensures.rest).0 in
    let exact = sym c.is_mistyped_float.ensures ∙ c.if-is_mistyped_float.false in
    (float_written c.args.style c.args.text.now c.before-2.result.now c.kept_run-numeral.result.now c.args.suffix.now _
    c.requires.float.0 c.kept_run-numeral.utf8 c.utf8.suffix c.before-2.ensures.chars c.kept_run-numeral.ensures.kept
    (float_put c.args.style c.number_style-manner.result (chars c.kept_run-numeral.result.now)
    (chars c.before-3.result.now)
    (chars c.skip_class-rest.result.now) _ _ _ c.args.suffix.now m.style m.drops m.hex m.size c.put_digit_run-at.ensures.bytes
    c.put_fraction-at.ensures.bytes c.put_suffix.ensures.bytes run c.skip_class-rest.ensures.rest)
    c.requires.float.1 exact).0

pub returns-then-is_mistyped_float-clause-written : goal.returns-then-is_mistyped_float-clause-written
returns-then-is_mistyped_float-clause-written c = inr (float_unchanged (chars c.args.text.now) _
    (chars c.args.suffix.now) c.requires.float.0 c.requires.float.1
    (sym c.is_mistyped_float.ensures ∙ c.if-is_mistyped_float.true) (ap chars c.put_text.ensures.bytes))
