use Rattle.rl_syntax.proofs.Common.{◌∙◌, ◌++◌, take, ap, sym}
use Rattle.rl_style.proofs.UnitTexts.{alone_bytes, bared_bytes, kept_bytes, number_bytes, other_bytes}
use Rattle.rl_style.proofs.cooked.put_escape.Goals as goal

pub returns-then-loses_backslash-clause-bytes : goal.returns-then-loses_backslash-clause-bytes
returns-then-loses_backslash-clause-bytes c = c.put_text-then-loses_backslash.ensures.bytes
    ∙ ap (λ z. take c.args.at c.args.out.now ++ z)
    (sym (bared_bytes c.args.style c.args.kind c.args.byte c.args.unit.now c.args.escape.now _ c.in-Some.first
    c.utf8.escape
    c.requires.text c.in-Some.ensures.chars (sym c.is_quote.ensures ∙ c.if-is_quote.true)
    (sym c.loses_backslash.ensures ∙ c.if-loses_backslash.true)))

pub returns-then-is_quote-clause-bytes : goal.returns-then-is_quote-clause-bytes
returns-then-is_quote-clause-bytes c = c.put_text-then-is_quote.ensures.bytes
    ∙ ap (λ z. take c.args.at c.args.out.now ++ z)
    (sym (kept_bytes c.args.style c.args.kind c.args.byte c.args.unit.now c.args.escape.now _ c.in-Some.first
    c.utf8.unit
    c.requires.text c.in-Some.ensures.chars (sym c.is_quote.ensures ∙ c.if-is_quote.true)
    (sym c.loses_backslash.ensures ∙ c.if-loses_backslash.false)))

pub returns-then-begins_number-clause-bytes : goal.returns-then-begins_number-clause-bytes
returns-then-begins_number-clause-bytes c = c.put_number.ensures.bytes ∙ ap (λ z. take c.args.at c.args.out.now ++ z)
    (sym (number_bytes c.args.style c.args.kind c.args.byte c.args.unit.now c.args.escape.now _ c.in-Some.first
    c.requires.text c.in-Some.ensures.chars (sym c.is_quote.ensures ∙ c.if-is_quote.false)
    (sym c.begins_number.ensures ∙ c.if-begins_number.true)))

pub returns-clause-bytes : goal.returns-clause-bytes
returns-clause-bytes c = c.put_text-2.ensures.bytes ∙ ap (λ z. take c.args.at c.args.out.now ++ z)
    (sym (other_bytes c.args.style c.args.kind c.args.byte c.args.unit.now c.args.escape.now _ c.in-Some.first
    c.utf8.unit
    c.requires.text c.in-Some.ensures.chars (sym c.is_quote.ensures ∙ c.if-is_quote.false)
    (sym c.begins_number.ensures ∙ c.if-begins_number.false)))

pub returns-in_default-clause-bytes : goal.returns-in_default-clause-bytes
returns-in_default-clause-bytes c = c.put_text.ensures.bytes ∙ ap (λ z. take c.args.at c.args.out.now ++ z)
    (sym (alone_bytes c.args.style c.args.kind c.args.byte c.args.unit.now c.args.escape.now c.utf8.unit c.requires.text
    c.in_default.ensures.chars))
