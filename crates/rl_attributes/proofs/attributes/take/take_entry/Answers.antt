use Rattle.std.proofs.Common.{string_bytes, ap, ◌∙◌}
use Rattle.std.proofs.lemmas.Result.{err_from_is_err_and}
use Rattle.rl_tokens.specs.Buffers.{trees_in, scope_of}
use Rattle.rl_attributes.specs.Names.{has_name}
use Rattle.rl_attributes.proofs.EntryLemmas.{entry_taken, value_read, equals_refused, value_refused}
use Rattle.rl_attributes.proofs.attributes.take.take_entry.Goals as goal

pub returns-in_err-value-clause-rejected : goal.returns-in_err-value-clause-rejected
returns-in_err-value-clause-rejected g c =
    let p = err_from_is_err_and c.from_residual-in_err-value.result c.from_residual-in_err-value.ensures.1 in
    rw (p.1, p.2)
    (value_refused (has_name c.args.names.now) (trees_in c.args.input.now) (trees_in c.take_name.new.input)
    (trees_in c.take_punct.new.self) (trees_in c.parse.new.self) (scope_of c.args.input.now)
    (scope_of c.take_punct.new.self) c.in_ok-ident.ident.now c.in_err-value.field-0.0 c.in_ok-ident.ensures.taken
    c.in_ok-take_punct.ensures.taken (c.in_ok-take_punct.ensures.scope ∙ c.in_ok-ident.ensures.scope)
    c.in_err-value.ensures.runs)

pub returns-in_err-ident-clause-rejected : goal.returns-in_err-ident-clause-rejected
returns-in_err-ident-clause-rejected g c =
    let p = err_from_is_err_and c.from_residual.result c.from_residual.ensures.1 in
    rw (p.1, p.2) c.in_err-ident.ensures.rejected

pub returns-in_err-take_punct-clause-rejected : goal.returns-in_err-take_punct-clause-rejected
returns-in_err-take_punct-clause-rejected g c =
    let p = err_from_is_err_and c.from_residual-in_err-take_punct.result c.from_residual-in_err-take_punct.ensures.1 in
    rw (p.1, p.2)
    (equals_refused (has_name c.args.names.now) (trees_in c.args.input.now) (trees_in c.take_name.new.input)
    (scope_of c.args.input.now) (scope_of c.take_name.new.input) c.in_ok-ident.ident.now
    c.in_err-take_punct.field-0.0 c.in_ok-ident.ensures.taken c.in_err-take_punct.ensures.other
    c.in_ok-ident.ensures.scope c.in_err-take_punct.ensures.rejected)

pub returns-in_err-take_punct-clause-onward : goal.returns-in_err-take_punct-clause-onward
returns-in_err-take_punct-clause-onward g c before h = c.in_err-take_punct.ensures.onward before
    (c.in_ok-ident.ensures.onward before h)

pub returns-in_err-value-clause-onward : goal.returns-in_err-value-clause-onward
returns-in_err-value-clause-onward g c before h = c.in_err-value.ensures.onward before
    (c.in_ok-take_punct.ensures.onward before (c.in_ok-ident.ensures.onward before h))

pub returns-clause-onward : goal.returns-clause-onward
returns-clause-onward g c before h = c.in_ok-value.ensures.onward before
    (c.in_ok-take_punct.ensures.onward before (c.in_ok-ident.ensures.onward before h))

pub returns-clause-taken : goal.returns-clause-taken
returns-clause-taken g c =
    entry_taken (has_name c.args.names.now) (trees_in c.args.input.now) (trees_in c.take_name.new.input)
    (trees_in c.take_punct.new.self) (trees_in c.parse.new.self) c.in_ok-ident.ident.now
    (string_bytes c.in_ok-name.name) c.span.result c.in_ok-value.value
    (c.in_ok-name.ensures.ok ∙ c.text.ensures.text) c.span.ensures c.in_ok-ident.ensures.taken
    c.in_ok-take_punct.ensures.taken c.in_ok-value.ensures.runs

pub returns-clause-anew : goal.returns-clause-anew
returns-clause-anew g c = ap (has_name c.args.names.now) (c.in_ok-name.ensures.ok ∙ c.text.ensures.text)
    ∙ c.in_ok-ident.ensures.taken.anew

pub returns-clause-read : goal.returns-clause-read
returns-clause-read g c = value_read (trees_in c.take_punct.new.self) c.in_ok-value.value (trees_in c.parse.new.self)
    c.in_ok-value.ensures.runs
