use Rattle.rl_strict.proofs.Names.{◌==◌, ◌∙◌, ap, sym, inl, inr, ne_eqb, chars, piece_value}
use Rattle.rl_strict.proofs.ReadQuoted.{bad_at, empty_rest, good_at, rest_is}
use Rattle.rl_strict.proofs.read_quoted.parse_strict_char_or_escape.Goals as goal

pub returns-in-None-clause-rest : goal.returns-in-None-clause-rest
returns-in-None-clause-rest c = empty_rest c.args.kind _ c.in-None.ensures.chars

pub returns-in-Some-eq92-default-clause-rest : goal.returns-in-Some-eq92-default-clause-rest
returns-in-Some-eq92-default-clause-rest c =
    rest_is (λ p. piece_value c.args.kind p.0) (λ p. chars p.1.now) _ _ c.parse_char_or_escape.ensures.value
    ∙ good_at c.args.kind _ _ _ c.requires c.in-Some-eq92-default.ensures.chars
    (inl (ap (λ z. z == 92) c.in-Some-eq92-default.field-0-0-test))

pub returns-then-is_allowed_in_single_quotes-clause-rest : goal.returns-then-is_allowed_in_single_quotes-clause-rest
returns-then-is_allowed_in_single_quotes-clause-rest c =
    rest_is (λ p. piece_value c.args.kind p.0) (λ p. chars p.1.now) _ _ c.parse_char_or_escape-then-is_allowed_in_single_quotes.ensures.value
    ∙ good_at c.args.kind _ _ _ c.requires c.in-Some.ensures.chars
    (inr (sym c.is_allowed_in_single_quotes.ensures ∙ c.if-is_allowed_in_single_quotes.true))

pub returns-else-is_allowed_in_single_quotes-clause-rest : goal.returns-else-is_allowed_in_single_quotes-clause-rest
returns-else-is_allowed_in_single_quotes-clause-rest c = bad_at c.args.kind _ _ _ c.requires c.in-Some.ensures.chars
    (ne_eqb _ 92 c.in-Some.first-test.1) (sym c.is_allowed_in_single_quotes.ensures ∙ c.if-is_allowed_in_single_quotes.false)
