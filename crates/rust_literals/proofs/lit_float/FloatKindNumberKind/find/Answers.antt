use Rattle.std.proofs.Common.{rules}
use Rattle.rust_literals.proofs.lit_float.FloatKindNumberKind.find.Goals as goal

pub returns-in-None-clause-err : goal.returns-in-None-clause-err
returns-in-None-clause-err g c = search rules steps 400000
