use Rattle.rl_syntax.proofs.Common.{chars, sym}
use Rattle.rl_lexer.specs.Sources.{source_view}
use Rattle.rl_cursors.proofs.LeadingLemmas.{if_none, no_lead, none_begins, other_begins, truth_false}
use Rattle.rl_cursors.proofs.leading.leading_literal.Goals as goal

pub returns-in_err-form-clause-none : goal.returns-in_err-form-clause-none
returns-in_err-form-clause-none c = if_none c.from_residual.result (none_begins c.args.text.now c.in_err-form.ensures.none)

pub returns-then-not-may_lead-clause-none : goal.returns-then-not-may_lead-clause-none
returns-then-not-may_lead-clause-none c = no_lead c.args.text.now (sym c.if-not-may_lead.ensures)

pub returns-then-not-is_literal-clause-none : goal.returns-then-not-is_literal-clause-none
returns-then-not-is_literal-clause-none c = other_begins c.args.text.now (chars c.before-literal.result.now)
    (chars c.in_ok-form.following.now) (source_view c.in_ok-form.form) c.in_ok-form.ensures.found
    c.before-literal.ensures.chars (λ is. truth_false (c.if-not-is_literal.ensures.1 is))
