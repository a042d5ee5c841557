use Rattle.rl_cursors.specs.NextLiterals.{whole_text}
use Rattle.rl_lenient.proofs.ValueLemmas.{none_found, no_value}
use Rattle.rl_cursors.proofs.NextValueLemmas.{finds, finds_none, some_suffixed}
use Rattle.rl_cursors.proofs.next_literals.NextLiteral.signed.Goals as goal

pub returns-in-None-clause-none : goal.returns-in-None-clause-none
returns-in-None-clause-none c =
    λ x. none_found _ x (finds_none (whole_text c.args.self.now) c.args.self.now.found c.in-None.is c.requires)

pub returns-in-Some-clause-some : goal.returns-in-Some-clause-some
returns-in-Some-clause-some c =
    let t = whole_text c.args.self.now in
    some_suffixed t c.in-Some.found _ c.number_found.result (finds t c.args.self.now.found c.in-Some.found c.in-Some.is c.requires)
    c.is_minus.ensures c.number_found.ensures.kind c.number_found.ensures.some

pub returns-in-Some-clause-none : goal.returns-in-Some-clause-none
returns-in-Some-clause-none c =
    let t = whole_text c.args.self.now in
    no_value t c.in-Some.found _ c.number_found.result (finds t c.args.self.now.found c.in-Some.found c.in-Some.is c.requires)
    c.is_minus.ensures c.number_found.ensures.none
