use Rattle.std.proofs.lemmas.Str.{chars-nil}
use Rattle.rust_literals.proofs.lit.Lit.view.Goals as goal

pub returns-in-Bool-clause-suffix : goal.returns-in-Bool-clause-suffix
returns-in-Bool-clause-suffix g c = rw c.in-Bool.is chars-nil

pub returns-in-Verbatim-clause-suffix : goal.returns-in-Verbatim-clause-suffix
returns-in-Verbatim-clause-suffix g c = rw c.in-Verbatim.is chars-nil
