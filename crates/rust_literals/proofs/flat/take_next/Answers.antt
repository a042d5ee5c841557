use Rattle.std.proofs.Common.{ap, rules, ◌≡◌, ◌∷◌, ◌∙◌, subst, inl, inr}
use Rattle.rl_syntax.specs.declared.span.Span.{Span}
use Rattle.rl_lexer.specs.Cursors.{form_view}
use Rattle.rl_lexer.specs.Lexemes.{MarkForm}
use Rattle.rust_literals.specs.declared.lit.Lit.TheVariants.{Bool as BoolLit}
use Rattle.rust_literals.specs.Literals.{IsReadFrom}
use Rattle.rust_literals.proofs.FlatLemmas.{literal_next, truth_next, joined_at, read_negative, none_number, none_word, no_some, the_some, when_some}
use Rattle.rl_cursors.proofs.NextLiteralLemmas.{no_number, other_form}
use Rattle.rust_literals.proofs.flat.take_next.Goals as goal

pub returns-in_default-form-2 : goal.returns-in_default-form-2
returns-in_default-form-2 g c =
    let minus : c.in-Mark-eq45.field-0 ≡ 45 = search rules in record {
      next = tt;
      shorter = tt;
      none = no_number c.args.tokens.now c.next.new.self c.in-Some.token c.in-Some.ensures.next
          (ap form_view c.in-Mark-eq45.is ∙ ap MarkForm minus)
          (none_number c.next.new.self c.next-in-Mark-eq45.new.self c.in-Some-next.number c.in-Some-next.ensures.next
          (inl (other_form c.in-Some-next.number.form c.in_default-form-2.not-Literal)));
    }

pub returns-in_ok-literal_of-in-Literal-clause-next : goal.returns-in_ok-literal_of-in-Literal-clause-next
returns-in_ok-literal_of-in-Literal-clause-next g c =
    let l = c.in-Some.token in
    let lit = c.in_ok-literal_of-in-Literal.field-0 in
    let read : IsReadFrom (record { text = l.text.now; span = record { file = c.args.file; lo = l.lo; hi = l.hi } }) lit
    =
    subst (λ (s : Span). IsReadFrom (record { text = l.text.now; span = s }) lit) c.new-span.ensures
    c.in_ok-literal_of-in-Literal.ensures in
    literal_next c.args.file c.args.tokens.now c.next.new.self l lit c.in-Some.ensures.next
    (ap form_view c.in-Literal.is) read

pub returns-in-Some-bool_of-clause-next : goal.returns-in-Some-bool_of-clause-next
returns-in-Some-bool_of-clause-next g c =
    let b = c.in-Some-bool_of.value in
    truth_next c.args.file c.args.tokens.now c.next.new.self c.in-Some.token (BoolLit c.new.result) b
    c.in-Some.ensures.next
    (ap form_view c.in-Identifier.is) c.in-Some-bool_of.ensures.bytes
    (ap BoolLit (c.new.ensures ∙ ap (λ s. record { value = b; span = s }) c.new-span.ensures))

pub returns-in_default-2-clause-none : goal.returns-in_default-2-clause-none
returns-in_default-2-clause-none g c =
    let minus : c.in-Mark-eq45.field-0 ≡ 45 = search rules in
    no_number c.args.tokens.now c.next.new.self c.in-Some.token c.in-Some.ensures.next
    (ap form_view c.in-Mark-eq45.is ∙ ap MarkForm minus)
    (none_number c.next.new.self c.next-in-Mark-eq45.new.self c.in-Some-next.number c.in-Some-next.ensures.next
    (inr (no_some c.in_ok-literal-in-Mark-eq45.field-0 c.in_default-2.is
    c.in_ok-literal-in-Mark-eq45.ensures.none)))

pub returns-in-Some-2-clause-next : goal.returns-in-Some-2-clause-next
returns-in-Some-2-clause-next g c =
    let l = c.in-Some-next.number in
    let lit = c.in-Some-2.literal in
    let minus : c.in-Mark-eq45.field-0 ≡ 45 = search rules in
    read_negative c.args.file c.args.tokens.now c.next.new.self c.next-in-Mark-eq45.new.self c.in-Some.token l lit
    c.in-Some-join.joined
    c.in-Some.ensures.next c.in-Some-next.ensures.next
    (ap form_view c.in-Mark-eq45.is ∙ ap MarkForm minus)
    (ap form_view c.in-Literal-form.is)
    (joined_at c.args.file c.in-Some.token l c.new-span.result c.new-in-Mark-eq45.result c.in-Some-join.joined
    c.new-span.ensures c.new-in-Mark-eq45.ensures c.in-Some-join.ensures.range)
    (when_some c.in_ok-literal-in-Mark-eq45.field-0 lit c.in-Some-2.is c.in_ok-literal-in-Mark-eq45.ensures.together)
    (the_some (IsReadFrom (record { text = 45 ∷ l.text.now; span = c.in-Some-join.joined }))
    c.in_ok-literal-in-Mark-eq45.field-0 lit c.in-Some-2.is c.in_ok-literal-in-Mark-eq45.ensures.read)

pub returns-in_default-next-clause-none : goal.returns-in_default-next-clause-none
returns-in_default-next-clause-none g c =
    let minus : c.in-Mark-eq45.field-0 ≡ 45 = search rules in
    no_number c.args.tokens.now c.next.new.self c.in-Some.token c.in-Some.ensures.next
    (ap form_view c.in-Mark-eq45.is ∙ ap MarkForm minus)
    (inl c.in_default-next.ensures.none)

pub returns-in-None-clause-none : goal.returns-in-None-clause-none
returns-in-None-clause-none g c = none_word c.args.tokens.now c.next.new.self c.in-Some.token c.in-Some.ensures.next
    (ap form_view c.in-Identifier.is) c.in-None.ensures.none
