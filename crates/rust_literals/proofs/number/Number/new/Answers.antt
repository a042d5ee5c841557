use Rattle.rl_syntax.proofs.Common.{ap, chars, refl, ◌∙◌}
use Rattle.rl_tokens.specs.Errors.{memory_at}
use Rattle.rust_literals.proofs.HeldLemmas.{found_number, wants_memory, no_number_rejected}
use Rattle.rust_literals.proofs.number.Number.new.Goals as goal

pub returns-in-Err-from_text-clause-err : goal.returns-in-Err-from_text-clause-err
returns-in-Err-from_text-clause-err g c =
    let kind = g.K.NumberKind.KIND in
    let number = found_number kind c.args.repr.now c.in-Ok.found c.utf8.repr c.in-Ok.ensures.found c.in-Ok.ensures.kind
    in
    wants_memory kind (chars c.args.repr.now) c.in-Err-from_text.error c.args.span c.in-Err-from_text.ensures.memory
    number

pub returns-in-Err-clause-err : goal.returns-in-Err-clause-err
returns-in-Err-clause-err g c = (
  refl,
  no_number_rejected g.K.NumberKind.KIND (chars c.args.repr.now) c.in-Err.kind
      c.in-Err.ensures.err,
)

pub of_found-requires-clause-found : goal.of_found-requires-clause-found
of_found-requires-clause-found g c = rw c.in-Ok-from_text.ensures.ok c.in-Ok.ensures.found

pub returns-in-Ok-of_found-clause-ok : goal.returns-in-Ok-of_found-clause-ok
returns-in-Ok-of_found-clause-ok g c = c.in-Ok-of_found.ensures.ok ∙ c.in-Ok-from_text.ensures.ok

pub returns-in-Ok-of_found-clause-reads : goal.returns-in-Ok-of_found-clause-reads
returns-in-Ok-of_found-clause-reads g c = found_number g.K.NumberKind.KIND c.args.repr.now c.in-Ok.found c.utf8.repr
    c.in-Ok.ensures.found c.in-Ok.ensures.kind

pub returns-clause-err : goal.returns-clause-err
returns-clause-err g c =
    let kind = g.K.NumberKind.KIND in
    let number = found_number kind c.args.repr.now c.in-Ok.found c.utf8.repr c.in-Ok.ensures.found c.in-Ok.ensures.kind
    in
    wants_memory kind (chars c.args.repr.now) c.in-Err-of_found.field-0.error c.args.span
    (c.in-Err-of_found.ensures.memory ∙ ap (λ t. memory_at t.span) c.in-Ok-from_text.ensures.ok) number
