use Rattle.rl_syntax.proofs.Common.{◌∙◌, List, ℕ, ap, inl, inr, rules, sym}
use Rattle.std.specs.Str.{chars}
use Rattle.rl_style.proofs.UnitTexts.{tail_of}
use Rattle.rl_style.proofs.WrittenNumbers.{digits_found, integer_put, integer_unchanged, integer_written, row_plus, whole_digit}
use Rattle.rl_style.proofs.numbers.write_integer.Goals as goal

pub before-requires : goal.before-requires
before-requires c = tail_of c.split_radix-base.result.1.now c.args.suffix.now c.requires.integer.1.run
    (search rules) c.utf8.suffix
    (ap (λ (p : ℕ × List ℕ). p.1) c.split_radix-base.ensures.value
    ∙ digits_found (chars c.args.text.now) c.requires.integer.0 (chars c.args.suffix.now) c.requires.integer.1)

pub kept_digits-run-requires : goal.kept_digits-run-requires
kept_digits-run-requires c = whole_digit c.args.style c.args.text.now c.split_radix-base.result.1.now c.args.suffix.now
    c.before-2.result.now c.kept_run-whole.result.now c.split_radix-base.result.0 c.requires.integer.0
    c.split_radix-base.ensures.value c.before-2.ensures.chars c.kept_run-whole.ensures.kept c.requires.integer.1

pub put_digit_run-at-requires-clause-no_plus : goal.put_digit_run-at-requires-clause-no_plus
put_digit_run-at-requires-clause-no_plus c = row_plus c.args.style c.args.text.now c.split_radix-base.result.1.now
    c.args.suffix.now
    c.before-2.result.now c.kept_run-whole.result.now c.kept_digits-run.result.now c.split_radix-base.result.0
    c.requires.integer.0 c.split_radix-base.ensures.value c.before-2.ensures.chars c.kept_run-whole.ensures.kept
    c.kept_digits-run.ensures.kept c.requires.integer.1

pub returns-clause-written : goal.returns-clause-written
returns-clause-written c =
    let m = c.number_style.ensures in
    let exact = sym c.is_mistyped.ensures ∙ c.if-is_mistyped.false in
    inl (integer_written c.args.style c.args.text.now c.split_radix-base.result.1.now c.args.suffix.now
    c.before-2.result.now c.kept_run-whole.result.now c.kept_digits-run.result.now c.before-3.result.now _
    c.split_radix-base.result.0 c.requires.integer.0 c.before-3.utf8 c.utf8.suffix c.kept_digits-run.utf8
    c.split_radix-base.ensures.value c.before-2.ensures.chars c.kept_run-whole.ensures.kept
    c.kept_digits-run.ensures.kept c.before-3.ensures.chars
    (integer_put c.args.style c.number_style.result c.split_radix-base.result.0 (chars c.kept_digits-run.result.now)
    c.before-3.result.now _ _ _ c.args.suffix.now m.style m.drops m.hex m.size c.put_text-at.ensures.bytes
    c.put_digit_run-at.ensures.bytes c.put_suffix.ensures.bytes) c.requires.integer.1 exact).1

pub returns-clause-utf8 : goal.returns-clause-utf8
returns-clause-utf8 c =
    let m = c.number_style.ensures in
    let exact = sym c.is_mistyped.ensures ∙ c.if-is_mistyped.false in
    (integer_written c.args.style c.args.text.now c.split_radix-base.result.1.now c.args.suffix.now
    c.before-2.result.now c.kept_run-whole.result.now c.kept_digits-run.result.now c.before-3.result.now _
    c.split_radix-base.result.0 c.requires.integer.0 c.before-3.utf8 c.utf8.suffix c.kept_digits-run.utf8
    c.split_radix-base.ensures.value c.before-2.ensures.chars c.kept_run-whole.ensures.kept
    c.kept_digits-run.ensures.kept c.before-3.ensures.chars
    (integer_put c.args.style c.number_style.result c.split_radix-base.result.0 (chars c.kept_digits-run.result.now)
    c.before-3.result.now _ _ _ c.args.suffix.now m.style m.drops m.hex m.size c.put_text-at.ensures.bytes
    c.put_digit_run-at.ensures.bytes c.put_suffix.ensures.bytes) c.requires.integer.1 exact).0

pub returns-then-is_mistyped-clause-written : goal.returns-then-is_mistyped-clause-written
returns-then-is_mistyped-clause-written c = inr (integer_unchanged (chars c.args.text.now) _ (chars c.args.suffix.now)
    c.requires.integer.0 c.requires.integer.1 (sym c.is_mistyped.ensures ∙ c.if-is_mistyped.true)
    (ap chars c.put_text.ensures.bytes))
