use Rattle.std.proofs.Common.{rules}
use Rattle.rust_literals.proofs.number.Number.base10_digits.Goals as goal

pub returns-in-Some : goal.returns-in-Some
returns-in-Some g c = search rules steps 400000
