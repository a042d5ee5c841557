use Rattle.rl_strict.proofs.Names.{◌≡◌, ◌==◌, ◌∷◌, ◌∙◌, ap, Bor, drop, IfSome, IsCharBoundary-start, List, None, ℕ, ne_eqb, option_map, rules, subst, sym, chars, first_passes, IsRestOf, read_of}
use Rattle.rl_strict.proofs.UnitForms.{backslash_of, feed_of, no_escaped, past_escaped}
use Rattle.rl_strict.proofs.walk_units.skip_escaped.Goals as goal

pub ascii_at-requires : goal.ascii_at-requires
ascii_at-requires c = IsCharBoundary-start c.args.text.now c.utf8.text

pub returns-in_err-first-clause-value : goal.returns-in_err-first-clause-value
returns-in_err-first-clause-value c =
    let gone : c.from_residual.result ≡ None = search rules in
    ap (option_map (λ (r : Bor (List ℕ)). read_of c.args.ends (chars r.now))) gone
    ∙ past_escaped c.args.ends c.args.kind _ c.requires.escaped c.in_err-first.ensures.none

pub returns-then-first-eq92-clause-value : goal.returns-then-first-eq92-clause-value
returns-then-first-eq92-clause-value c = backslash_of c.args.ends c.args.kind _ _ _ (c.in_ok-first.ensures.some ∙ ap (λ
    z. z ∷ chars (drop c.in_ok-first.at c.args.text.now)) c.if-first-eq92.true) c.skip_escape.ensures.value

pub returns-then-first-eq92-clause-rest : goal.returns-then-first-eq92-clause-rest
returns-then-first-eq92-clause-rest c =
    let text = c.in_ok-first.ensures.some
    ∙ ap (λ z. z ∷ chars (drop c.in_ok-first.at c.args.text.now)) c.if-first-eq92.true in
    subst (λ z. IfSome c.skip_escape.result (λ r. IsRestOf c.args.ends z (chars r.now))) (sym text)
    c.skip_escape.ensures.rest

pub returns-in-Some-clause-value : goal.returns-in-Some-clause-value
returns-in-Some-clause-value c = feed_of c.args.ends c.args.kind _ _ c.requires.string c.in-Some.ensures.read

pub returns-in-None-clause-value : goal.returns-in-None-clause-value
returns-in-None-clause-value c = no_escaped c.args.ends c.args.kind _ c.requires.escaped (ap (first_passes (λ z. z ==
    92)) c.in_ok-first.ensures.some ∙ ne_eqb _ 92 c.if-first-eq92.false) c.in-None.ensures.none
