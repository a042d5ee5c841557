use Rattle.rust_literals.proofs.Theorems.{a_lit_front_is_one, a_parser_of_lit_is_exact}
use Rattle.rust_literals.proofs.laws.a_literal_at_the_front_is_one.Goals as goal

pub returns-clause-front : goal.returns-clause-front
returns-clause-front g c = a_lit_front_is_one

pub returns-clause-exact : goal.returns-clause-exact
returns-clause-exact g c = a_parser_of_lit_is_exact
