use Rattle.rust_literals.proofs.LitLemmas.{found_behind}
use Rattle.rust_literals.proofs.flat.negative_of.Goals as goal

pub returns-in-Ok-of_found-clause-together : goal.returns-in-Ok-of_found-clause-together
returns-in-Ok-of_found-clause-together g c = found_behind c.args.text.now c.in-Some.found c.in-Some.ensures.found
