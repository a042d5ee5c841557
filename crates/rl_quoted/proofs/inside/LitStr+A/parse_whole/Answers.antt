use Rattle.rl_syntax.proofs.Common.{Err, Ok, [], ap, false, map, refl, true, ◌∙◌, ◌≡◌}
use Rattle.std.proofs.lemmas.Result.{err_from_is_err_and}
use Rattle.rl_tokens.specs.Trees.{stream_view, tree_view}
use Rattle.rl_tokens.specs.Buffers.{trees_in, scope_of}
use Rattle.rl_quoted.proofs.InsideLemmas.{ran_inside, refuses_trees, refuses_parser, refuses_left}
use Rattle.rl_quoted.proofs.inside.LitStr+A.parse_whole.Goals as goal

pub returns-in_err-stream-clause-rejected : goal.returns-in_err-stream-clause-rejected
returns-in_err-stream-clause-rejected g c =
    let p = err_from_is_err_and c.from_residual.result c.from_residual.ensures.1 in
    rw (p.1, p.2) (refuses_trees c.args.placing (g.P.Parser.runs c.args.parser) c.args.self.now
    c.in_err-stream.field-0.0 c.in_err-stream.ensures.rejected)

pub returns-in_err-parsed-clause-rejected : goal.returns-in_err-parsed-clause-rejected
returns-in_err-parsed-clause-rejected g c =
    let p = err_from_is_err_and c.from_residual-in_err-parsed.result c.from_residual-in_err-parsed.ensures.1 in
    let e = c.in_err-parsed.field-0.0 in
    rw (p.1, p.2)
    (refuses_parser c.args.placing (g.P.Parser.runs c.args.parser) c.args.self.now e (trees_in c.parse.new.input)
    (ran_inside c.args.placing (g.P.Parser.runs c.args.parser) c.args.self.now (trees_in c.new-inside.result)
    (stream_view c.in_ok-stream.stream) (trees_in c.parse.new.input) (trees_in c.parse.new.input)
    (scope_of c.new-inside.result) (Err e)
    c.in_ok-stream.ensures.ok (c.new-inside.ensures.trees ∙ ap (map tree_view) c.trees.ensures)
    (c.new-inside.ensures.scope ∙ c.span.ensures) refl c.in_err-parsed.ensures.runs))

pub returns-then-not-is_empty-clause-rejected : goal.returns-then-not-is_empty-clause-rejected
returns-then-not-is_empty-clause-rejected g c =
    refuses_left c.args.placing (g.P.Parser.runs c.args.parser) c.args.self.now c.in_ok-parsed.parsed
    (trees_in c.parse.new.input) c.leftover_span.result
    (ran_inside c.args.placing (g.P.Parser.runs c.args.parser) c.args.self.now (trees_in c.new-inside.result)
    (stream_view c.in_ok-stream.stream) (trees_in c.parse.new.input) (trees_in c.parse.new.input)
    (scope_of c.new-inside.result) (Ok c.in_ok-parsed.parsed)
    c.in_ok-stream.ensures.ok (c.new-inside.ensures.trees ∙ ap (map tree_view) c.trees.ensures)
    (c.new-inside.ensures.scope ∙ c.span.ensures) refl c.in_ok-parsed.ensures.runs)
    (λ e. let no : false ≡ true = c.if-not-is_empty.ensures.1 e in cc) c.leftover_span.ensures

pub returns-clause-ran : goal.returns-clause-ran
returns-clause-ran g c =
    ran_inside c.args.placing (g.P.Parser.runs c.args.parser) c.args.self.now (trees_in c.new-inside.result)
    (stream_view c.in_ok-stream.stream) (trees_in c.parse.new.input) [] (scope_of c.new-inside.result)
    (Ok c.in_ok-parsed.parsed)
    c.in_ok-stream.ensures.ok (c.new-inside.ensures.trees ∙ ap (map tree_view) c.trees.ensures)
    (c.new-inside.ensures.scope ∙ c.span.ensures) (c.if-not-is_empty.ensures.0 refl) c.in_ok-parsed.ensures.runs
