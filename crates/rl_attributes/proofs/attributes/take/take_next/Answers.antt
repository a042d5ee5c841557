use Rattle.std.proofs.Common.{◌≢◌, []}
use Rattle.std.proofs.lemmas.Result.{err_from_is_err_and}
use Rattle.rl_tokens.specs.Buffers.{trees_in, scope_of}
use Rattle.rl_attributes.specs.Entries.{attribute_of}
use Rattle.rl_attributes.specs.Names.{has_name}
use Rattle.rl_attributes.proofs.EntryLemmas.{comma_refused}
use Rattle.rl_attributes.proofs.attributes.take.take_next.Goals as goal

pub returns-in_err-entry-clause-rejected : goal.returns-in_err-entry-clause-rejected
returns-in_err-entry-clause-rejected g c =
    let p = err_from_is_err_and c.from_residual.result c.from_residual.ensures.1 in
    rw (p.1, p.2) c.in_err-entry.ensures.rejected

pub returns-in-Err-clause-rejected : goal.returns-in-Err-clause-rejected
returns-in-Err-clause-rejected g c =
    let some : trees_in c.take_entry.new.input ≢ [] = λ e. absurd (let full = c.is_empty.ensures.1 e in cc) in
    comma_refused (has_name c.args.names.now) (trees_in c.args.input.now) (trees_in c.take_entry.new.input)
    (scope_of c.args.input.now) (scope_of c.take_entry.new.input) (attribute_of c.in_ok-entry.entry) c.in-Err.error
    c.in_ok-entry.ensures.taken c.in_ok-entry.ensures.anew some c.in-Err.ensures.other c.in_ok-entry.ensures.scope
    c.in-Err.ensures.rejected

pub returns-in-Err-clause-onward : goal.returns-in-Err-clause-onward
returns-in-Err-clause-onward g c before h = c.in-Err.ensures.onward before (c.in_ok-entry.ensures.onward before h)
