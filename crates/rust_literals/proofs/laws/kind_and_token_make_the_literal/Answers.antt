use Rattle.rust_literals.proofs.Theorems.{kind_and_token_make_the_literal}
use Rattle.rust_literals.proofs.laws.kind_and_token_make_the_literal.Goals as goal

pub returns : goal.returns
returns g c = kind_and_token_make_the_literal
