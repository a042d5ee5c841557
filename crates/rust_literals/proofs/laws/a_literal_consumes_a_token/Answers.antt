use Rattle.rust_literals.proofs.Theorems.{a_literal_leaves_fewer_trees}
use Rattle.rust_literals.proofs.laws.a_literal_consumes_a_token.Goals as goal

pub returns : goal.returns
returns g c = a_literal_leaves_fewer_trees
