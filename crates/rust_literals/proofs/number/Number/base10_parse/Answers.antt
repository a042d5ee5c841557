use Rattle.std.proofs.Common.{rules}
use Rattle.rust_literals.proofs.number.Number.base10_parse.Goals as goal

pub returns-in-Ok-clause-ok : goal.returns-in-Ok-clause-ok
returns-in-Ok-clause-ok g c = search rules steps 400000

pub returns-in-Err-clause-rejected : goal.returns-in-Err-clause-rejected
returns-in-Err-clause-rejected g c = search rules steps 400000
