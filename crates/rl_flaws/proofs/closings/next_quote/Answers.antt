use Rattle.rl_flaws.proofs.Names.{◌≡◌, ◌==◌, ap, IfNone, List, None, ℕ, rules, subst, sym, chars, tail_step, read_of, nil_of, self_in, step_in, ReachesQuote}
use Rattle.rl_syntax.proofs.TailLemmas.{tail_self}
use Rattle.rl_flaws.proofs.ClosingLemmas.{none_at_end, passes_on, quote_here}
use Rattle.rl_flaws.proofs.closings.next_quote.Goals as goal

pub loop-c-init : goal.loop-c-init
loop-c-init c = record {
  utf8 = search rules;
  following = tail_self _ c.utf8.text;
  is_rest = self_in c.args.ends _;
  same = λ closing. (λ r. r, λ r. r);
}

pub loop-c-preserved : goal.loop-c-preserved
loop-c-preserved c = record {
  utf8 = search rules;
  following = tail_step _ _ _ (tail_step _ _ _ c.loop-c.invariant.following c.in-Some.ensures.following)
      c.in_ok-rest.ensures.following;
  is_rest = step_in c.args.ends _ _ _ (step_in c.args.ends _ _ _ c.loop-c.invariant.is_rest c.in-Some.ensures.rest)
      c.in_ok-rest.ensures.rest;
  same = λ closing. passes_on _ _ _ _ closing _ (c.loop-c.invariant.same closing) c.in-Some.ensures.chars
      (c.in_ok-rest.ensures.some closing);
}

pub returns-then-c-eq39-clause-some : goal.returns-then-c-eq39-clause-some
returns-then-c-eq39-clause-some c = (c.loop-c.invariant.same _).1
    (quote_here _ _ _ c.in-Some.ensures.chars (ap (λ z. z == 39) c.if-c-eq39.true))

pub returns-in_err-rest-clause-none : goal.returns-in_err-rest-clause-none
returns-in_err-rest-clause-none c =
    let gone : c.from_residual.result ≡ None = search rules in
    subst (λ z. IfNone z ((closing : List ℕ) → ReachesQuote (read_of c.args.ends (chars c.args.text.now)) closing → ⊥))
    (sym gone) (λ closing r. c.in_err-rest.ensures.none closing
    (subst (λ z. ReachesQuote z closing) c.in-Some.ensures.chars ((c.loop-c.invariant.same closing).0 r)))

pub returns-clause-none : goal.returns-clause-none
returns-clause-none c = λ closing r. none_at_end _ closing (nil_of c.args.ends _ c.in_default.ensures.chars)
    ((c.loop-c.invariant.same closing).0 r)
