use Rattle.rl_syntax.proofs.Common.{◌≡◌, ◌∙◌, inl, inr, ap, rules}
use Rattle.rl_lexer.specs.Cursors.{form_view}
use Rattle.rl_lexer.specs.Lexemes.{MarkForm}
use Rattle.rl_cursors.proofs.NextLiteralLemmas.{if_none, no_number, other_form}
use Rattle.rl_cursors.proofs.next_literals.take_literal.Goals as goal

pub returns-in_default-form : goal.returns-in_default-form
returns-in_default-form c =
    let minus : c.in-Mark-eq45.field-0 ≡ 45 = search rules in
    let number = c.in_ok-number-in-Mark-eq45.number in record {
      next = tt;
      shorter = tt;
      none = no_number c.args.tokens.now c.next.new.self c.in_ok-token.token c.in_ok-token.ensures.next
          (ap form_view c.in-Mark-eq45.is ∙ ap MarkForm minus)
          (inr (
            number,
            c.next-in-Mark-eq45.new.self,
            c.in_ok-number-in-Mark-eq45.ensures.next,
            inl
                (other_form number.form c.in_default-form.not-Literal),
          ));
    }

pub returns-in_err-found-in-Mark-eq45-clause-none : goal.returns-in_err-found-in-Mark-eq45-clause-none
returns-in_err-found-in-Mark-eq45-clause-none c =
    let minus : c.in-Mark-eq45.field-0 ≡ 45 = search rules in
    if_none c.from_residual-in_err-found-in-Mark-eq45.result
    (no_number c.args.tokens.now c.next.new.self c.in_ok-token.token c.in_ok-token.ensures.next
    (ap form_view c.in-Mark-eq45.is ∙ ap MarkForm minus)
    (inr (
      c.in_ok-number-in-Mark-eq45.number,
      c.next-in-Mark-eq45.new.self,
      c.in_ok-number-in-Mark-eq45.ensures.next,
      inr c.in_err-found-in-Mark-eq45.ensures.none,
    )))
