use Rattle.rl_syntax.proofs.Common.{◌≡◌, ◌∙◌, sym, ap, inl, inr, None, rules, option_map, chars}
use Rattle.rl_syntax.proofs.TailLemmas.{tail_step}
use Rattle.rl_lexer.proofs.LexemeSteps.{quote_none, quote_found, quote_taken, quote_open, which}
use Rattle.rl_lexer.proofs.lexeme.quotes.after_quote.Goals as goal

pub returns-then-mark-eq34-clause-rest : goal.returns-then-mark-eq34-clause-rest
returns-then-mark-eq34-clause-rest c =
    let m = c.from_two_bytes.ensures in
    sym (sym c.loop-mark.invariant.same ∙ quote_found _ _ _ _ (ap (λ z. z.first) m) (ap (λ z. z.second) m)
    c.in-Some.ensures.some c.if-mark-eq34.true)

pub returns-in_err-more-clause-rest : goal.returns-in_err-more-clause-rest
returns-in_err-more-clause-rest c =
    let m = c.from_two_bytes.ensures in
    elim (which _ 34 92 _ m c.in-Some.ensures.some.is_mark) [
      | inl quote ↦ absurd (c.if-mark-eq34.false quote)
      | inr backslash ↦
          let none : c.from_residual.result ≡ None = search rules in
          ap (option_map (λ rest. chars rest.now)) none ∙ sym (sym c.loop-mark.invariant.same
          ∙ quote_open _ _ _ _ (ap (λ z. z.first) m) (ap (λ z. z.second) m) c.in-Some.ensures.some backslash
          c.in_err-more.ensures.chars)
    ]

pub loop-mark-preserved : goal.loop-mark-preserved
loop-mark-preserved c =
    let m = c.from_two_bytes.ensures in
    let next = c.in-Some.ensures in
    let more = c.in_ok-more.ensures in
    record {
      following = tail_step _ _ _ (tail_step _ _ _ c.loop-mark.invariant.following next.following) more.following;
      same = elim (which _ 34 92 _ m next.some.is_mark) [
        | inl quote ↦ absurd (c.if-mark-eq34.false quote)
        | inr backslash ↦ sym (quote_taken _ _ _ _ _ _ (ap (λ z. z.first) m) (ap (λ z. z.second) m) next.some backslash
            more.chars) ∙ c.loop-mark.invariant.same
      ];
    }

pub returns-clause-rest : goal.returns-clause-rest
returns-clause-rest c =
    let m = c.from_two_bytes.ensures in
    sym (sym c.loop-mark.invariant.same ∙ quote_none _ _ (ap (λ z. z.first) m) (ap (λ z. z.second) m)
    c.in_default.ensures.none)
