use Rattle.std.proofs.Common.{rules}
use Rattle.rust_literals.proofs.number.copies.NumberPartialEq.eq.Goals as goal

pub returns : goal.returns
returns g c = search rules steps 400000
