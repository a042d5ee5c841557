use Rattle.rl_flaws.proofs.Names.{◌≡◌, ◌∷◌, ◌∙◌, IfNone, List, None, ℕ, rules, subst, sym, chars, read_of, nil_of, ReachesQuote}
use Rattle.rl_flaws.proofs.ClosingLemmas.{escape_ends, escape_part, search_ends, search_passes}
use Rattle.rl_flaws.proofs.closings.after_part.Goals as goal

pub returns-in_err-more-clause-none : goal.returns-in_err-more-clause-none
returns-in_err-more-clause-none c =
    let gone : c.from_residual.result ≡ None = search rules in
    subst (λ z. IfNone z ((closing : List ℕ) → ReachesQuote (c.args.c ∷ read_of c.args.ends (chars c.args.following.now)) closing
    → ⊥)) (sym gone) (λ closing r. escape_ends _ closing (nil_of c.args.ends _ c.in_err-more.ensures.chars)
    (subst (λ z. ReachesQuote (z ∷ read_of c.args.ends (chars c.args.following.now)) closing) c.if-c-eq92.true r))

pub returns-then-c-eq92-clause-some : goal.returns-then-c-eq92-clause-some
returns-then-c-eq92-clause-some c =
    λ closing. escape_part c.args.c _ _ _ closing c.if-c-eq92.true c.in_ok-more.ensures.chars

pub returns-then-ends_search-clause-none : goal.returns-then-ends_search-clause-none
returns-then-ends_search-clause-none c =
    λ closing r. search_ends c.args.ends c.args.c _ closing c.requires (sym c.ends_search.ensures ∙ c.if-ends_search.true) r

pub returns-else-ends_search-clause-some : goal.returns-else-ends_search-clause-some
returns-else-ends_search-clause-some c =
    λ closing. search_passes c.args.ends c.args.c _ closing c.requires c.if-c-eq92.false
    (sym c.ends_search.ensures ∙ c.if-ends_search.false)
