use Rattle.std.specs.Str.{chars}
use Rattle.rust_literals.proofs.LitLemmas.{on_ok}
use Rattle.rust_literals.proofs.HeldLemmas.{no_number_plain, no_number_rejected, memory_rejected}
use Rattle.rust_literals.proofs.number.Number.from_token.Goals as goal

pub returns-in-Err-clause-borrowed : goal.returns-in-Err-clause-borrowed
returns-in-Err-clause-borrowed g c =
    no_number_plain g.K.NumberKind.KIND c.args.token.text c.in-Err.kind (rw c.text.ensures at c.in-Err.ensures.err)

pub returns-in-Err-clause-err : goal.returns-in-Err-clause-err
returns-in-Err-clause-err g c = (
  c.span.ensures,
  no_number_rejected g.K.NumberKind.KIND (chars c.args.token.text) c.in-Err.kind
      (rw c.text.ensures at c.in-Err.ensures.err),
)

pub of_found-requires-clause-found : goal.of_found-requires-clause-found
of_found-requires-clause-found g c = rw c.text.ensures at c.in-Ok.ensures.found

pub returns-in-Ok-clause-reads : goal.returns-in-Ok-clause-reads
returns-in-Ok-clause-reads g c = on_ok c.of_found.result _ c.of_found.ensures.number

pub returns-in-Ok-clause-err : goal.returns-in-Ok-clause-err
returns-in-Ok-clause-err g c =
    memory_rejected g.K.NumberKind.KIND (chars c.args.token.text) c.args.token.span c.of_found.result
    c.of_found.ensures.memory c.of_found.ensures.number
