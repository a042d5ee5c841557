use Rattle.rl_syntax.proofs.Common.{rules, ap, list_all, sym, ◌∙◌, IsUtf8}
use Rattle.rl_program.specs.Bare.{is_bare}
use Rattle.rl_program.proofs.BareLemmas.{bare_reads, bare_string, between_quotes, no_last_quote, not_bare}
use Rattle.rl_program.proofs.line.unescaped_value.Goals as goal

pub returns-in_err-value-clause-none : goal.returns-in_err-value-clause-none
returns-in_err-value-clause-none c =
    let rest : IsUtf8 c.in_ok-strip_byte.field-0.now = search rules in
    rw c.from_residual-in_err-value.ensures (no_last_quote c.args.text.now c.in_ok-strip_byte.field-0.now
    c.in_ok-strip_byte.ensures.rest rest c.in_err-value.ensures.cases)

pub returns-then-need_no_escapes-clause-some : goal.returns-then-need_no_escapes-clause-some
returns-then-need_no_escapes-clause-some c =
    let value : IsUtf8 c.in_ok-value.value.now = search rules in
    let cut = c.in_ok-value.ensures.cases in
    bare_string _ _ (between_quotes _ _ _ _ c.in_ok-strip_byte.ensures.rest cut.1.1 cut.2 value)
    (sym (c.need_no_escapes.ensures ∙ ap (list_all is_bare) c.as_bytes.ensures.value) ∙ c.if-need_no_escapes.true)

pub returns-then-need_no_escapes-clause-line : goal.returns-then-need_no_escapes-clause-line
returns-then-need_no_escapes-clause-line c = bare_reads _ _ (returns-then-need_no_escapes-clause-some c)

pub returns-else-need_no_escapes-clause-none : goal.returns-else-need_no_escapes-clause-none
returns-else-need_no_escapes-clause-none c =
    let value : IsUtf8 c.in_ok-value.value.now = search rules in
    let cut = c.in_ok-value.ensures.cases in
    not_bare _ _ (between_quotes _ _ _ _ c.in_ok-strip_byte.ensures.rest cut.1.1 cut.2 value) value
    (sym (c.need_no_escapes.ensures ∙ ap (list_all is_bare) c.as_bytes.ensures.value) ∙ c.if-need_no_escapes.false)
