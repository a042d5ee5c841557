use Rattle.rl_strict.proofs.Names.{◌≡◌, ◌∷◌, ◌∙◌, ap, Bor, drop, List, None, ℕ, ne_eqb, option_map, rules, subst, sym, chars, IsRestOf, read_of}
use Rattle.rl_strict.proofs.UnitForms.{after_escape_in, break_in, break_of, past_of, other_in, other_none, other_some, return_of}
use Rattle.rl_strict.proofs.walk_units.skip_escape.Goals as goal

pub returns-in_err-first-clause-value : goal.returns-in_err-first-clause-value
returns-in_err-first-clause-value c =
    let gone : c.from_residual.result ≡ None = search rules in
    ap (option_map (λ (r : Bor (List ℕ)). read_of c.args.ends (chars r.now))) gone
    ∙ past_of c.args.ends c.args.kind _ c.in_err-first.ensures.none

pub returns-then-first-eq10-clause-value : goal.returns-then-first-eq10-clause-value
returns-then-first-eq10-clause-value c = break_of c.args.ends c.args.kind _ _ _ c.requires.string
    (c.in_ok-first.ensures.some ∙ ap (λ z. z ∷ chars (drop c.in_ok-first.after c.args.text.now)) c.if-first-eq10.true
    ∙ ap (λ z. 10 ∷ chars z) (sym c.range_from.ensures.value)) c.skip_blanks.ensures.read

pub returns-then-first-eq10-clause-rest : goal.returns-then-first-eq10-clause-rest
returns-then-first-eq10-clause-rest c = break_in c.args.ends _ _ _
    (c.in_ok-first.ensures.some ∙ ap (λ z. z ∷ chars (drop c.in_ok-first.after c.args.text.now)) c.if-first-eq10.true
    ∙ ap (λ z. 10 ∷ chars z) (sym c.range_from.ensures.value)) c.skip_blanks.ensures.rest

pub returns-in_err-rest-clause-value : goal.returns-in_err-rest-clause-value
returns-in_err-rest-clause-value c =
    let gone : c.from_residual-in_err-rest.result ≡ None = search rules in
    ap (option_map (λ (r : Bor (List ℕ)). read_of c.args.ends (chars r.now))) gone
    ∙ other_none c.args.ends c.args.kind _ _ _ c.in_ok-first.ensures.some (ne_eqb _ 10 c.if-first-eq10.false)
    (ne_eqb _ 13 c.if-first-eq13.false) c.in_err-rest.ensures.value

pub returns-clause-value : goal.returns-clause-value
returns-clause-value c = other_some c.args.ends c.args.kind _ _ _ _ _ c.in_ok-first.ensures.some
    (ne_eqb _ 10 c.if-first-eq10.false) (ne_eqb _ 13 c.if-first-eq13.false) c.in_ok-rest.ensures.value

pub returns-clause-rest : goal.returns-clause-rest
returns-clause-rest c = other_in c.args.ends c.args.kind _ _ _ _ _ c.requires.string c.in_ok-first.ensures.some
    (ne_eqb _ 10 c.if-first-eq10.false) (ne_eqb _ 13 c.if-first-eq13.false) c.in_ok-rest.ensures.value

pub returns-in_err-blanks-clause-value : goal.returns-in_err-blanks-clause-value
returns-in_err-blanks-clause-value c =
    let gone : c.from_residual-in_err-blanks.result ≡ None = search rules in
    let text = c.in_ok-first.ensures.some
    ∙ ap (λ z. z ∷ chars (drop c.in_ok-first.after c.args.text.now)) c.if-first-eq13.true in
    ap (option_map (λ (r : Bor (List ℕ)). read_of c.args.ends (chars r.now))) gone
    ∙ return_of c.args.ends c.args.kind _ _ text
    (c.in_err-blanks.ensures.none _ _ (ap chars c.range_from-then-first-eq13.ensures.value ∙ text))

pub returns-then-first-eq13-clause-rest : goal.returns-then-first-eq13-clause-rest
returns-then-first-eq13-clause-rest c = after_escape_in c.args.ends _ _ _ (subst (λ z. IsRestOf c.args.ends (chars z)
    (chars c.in_ok-blanks.blanks.now)) c.range_from-then-first-eq13.ensures.value c.in_ok-blanks.ensures.rest)
    c.skip_blanks-then-first-eq13.ensures.rest
