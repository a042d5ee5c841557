use Rattle.std.proofs.Common.{refl, ◌∙◌, ◌<◌, ◌^◌, arith}
use Rattle.std.specs.Vec.Iter.{into_iter_len}
use Rattle.rust_literals.proofs.IteratingLemmas.{are_first, waiting_first, waiting_lower}
use Rattle.rust_literals.proofs.literals.Literals.take_waiting.Goals as goal

pub returns-clause-returns : goal.returns-clause-returns
returns-clause-returns g c none text file taken h =
    let old = c.args.self.now in
    let more = c.in_ok-read_after.field-0 in
    let read = c.in_ok-read_after.ensures.read taken (are_first text file taken old none h) in
    waiting_first text file taken more.items old _ c.into_iter-waiting.result c.next-first.new.self c.next-first.result
    h read c.into_iter-waiting.ensures.rest (c.into_iter-waiting.ensures.len ∙ more.ok.0) c.next-first.ensures.cases
    refl refl refl refl c.next-first.ensures.items

pub returns-clause-shorter : goal.returns-clause-shorter
returns-clause-shorter g c none =
    let more = c.in_ok-read_after.field-0 in
    let few : into_iter_len c.next-first.new.self < 2 ^ 64 = omega
    (arith, c.next-first.ensures.len, c.into_iter-waiting.ensures.len, more.ok.1, more.small) in
    waiting_lower c.args.self.now c.next-first.new.self c.next-first.result none few
