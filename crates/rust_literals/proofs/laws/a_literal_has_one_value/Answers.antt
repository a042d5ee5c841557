use Rattle.rust_literals.proofs.Theorems.{a_lit_has_its_parts, a_lit_has_one_value}
use Rattle.rust_literals.proofs.laws.a_literal_has_one_value.Goals as goal

pub returns-clause-one : goal.returns-clause-one
returns-clause-one g c = a_lit_has_one_value

pub returns-clause-parts : goal.returns-clause-parts
returns-clause-parts g c = a_lit_has_its_parts
