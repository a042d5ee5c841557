use Rattle.rl_syntax.proofs.Common.{inl, sym, ◌∙◌, inr}
use Rattle.rl_lenient.proofs.Names.{Int}
use Rattle.rl_fronts.proofs.NumberFoundLemmas.{int_number, is_float, float_kind}
use Rattle.rl_fronts.proofs.digits.found_number.Goals as goal

pub parse_known_literal-requires : goal.parse_known_literal-requires
parse_known_literal-requires c = (Int, int_number _ _ c.requires c.in-Int.is)

pub returns-in-Int-clause-found : goal.returns-in-Int-clause-found
returns-in-Int-clause-found c =
    let f = c.parse_known_literal.ensures in
    inl (f.found, inl (f.kind Int (int_number _ _ c.requires c.in-Int.is)))

pub returns-in-Int-clause-kind : goal.returns-in-Int-clause-kind
returns-in-Int-clause-kind c = c.parse_known_literal.ensures.kind Int (int_number _ _ c.requires c.in-Int.is) ∙ sym c.in-Int.is

pub unreachable-requires : goal.unreachable-requires
unreachable-requires c = let (n, x, r) = is_float _ _ c.requires c.in_default.not-Int in c.in-None.ensures.none n x r

pub returns-in-Some : goal.returns-in-Some
returns-in-Some c = record { found = inr c.in-Some.ensures.found; kind = c.in-Some.ensures.found.kind ∙ sym (float_kind _ _ c.requires c.in_default.not-Int) }
