use Rattle.rl_syntax.proofs.Common.{chars, inl}
use Rattle.rl_lenient.specs.Founds.{body_in}
use Rattle.rl_fronts.proofs.NumberFoundLemmas.{plain_digits}
use Rattle.rl_program.proofs.FoundLineLemmas.{number_shown}
use Rattle.rl_program.proofs.found_line.push_number.Goals as goal

pub push_shown-requires-clause-shown : goal.push_shown-requires-clause-shown
push_shown-requires-clause-shown g c =
    let found = c.args.found.now in
    let reads = c.requires.found.reads in
    let digits = plain_digits c.args.text.now found c.utf8.text c.if-found.true
    (inl (c.requires.found, c.requires.kind)) in
    rw c.body_in.ensures.body (number_shown found.kind (chars c.args.text.now)
    (chars (body_in c.args.text.now found.body)) (reads.0, _, reads.1) digits)

pub push_shown-requires-in-Ok-clause-shown : goal.push_shown-requires-in-Ok-clause-shown
push_shown-requires-in-Ok-clause-shown g c =
    let reads = c.requires.found.reads in
    rw c.as_str.ensures.value (number_shown c.args.found.now.kind (chars c.args.text.now) _ (reads.0, _, reads.1)
    c.in-Ok.ensures.value)
