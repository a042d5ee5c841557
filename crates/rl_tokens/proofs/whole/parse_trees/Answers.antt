use Rattle.rl_syntax.proofs.Common.{◌≡◌, ◌∙◌, ap, [], true, false, refl}
use Rattle.std.specs.Prelude.{map, Ok}
use Rattle.rl_tokens.specs.Trees.{stream_view, tree_view}
use Rattle.rl_tokens.specs.Buffers.{trees_in, scope_of}
use Rattle.rl_tokens.proofs.TreeRests.{run_moved, rejects_left}
use Rattle.rl_tokens.proofs.whole.parse_trees.Goals as goal

pub returns-then-not-is_empty-clause-rejected : goal.returns-then-not-is_empty-clause-rejected
returns-then-not-is_empty-clause-rejected g c =
    let t : trees_in c.new-input.result ≡ stream_view c.args.stream.now = c.new-input.ensures.trees
    ∙ ap (map tree_view) c.trees.ensures in
    rejects_left g.T.Parse.runs (trees_in c.new-input.result) (stream_view c.args.stream.now)
    (trees_in c.parse.new.input)
    (scope_of c.new-input.result) c.args.scope (scope_of c.parse.new.input) c.span.result c.in_ok-value.value
    c.new.result
    t c.new-input.ensures.scope c.in_ok-value.ensures.scope c.in_ok-value.ensures.runs
    (λ e. let no : false ≡ true = c.if-not-is_empty.ensures.1 e in cc) c.span.ensures c.new.ensures

pub returns-clause-parsed : goal.returns-clause-parsed
returns-clause-parsed g c =
    let t : trees_in c.new-input.result ≡ stream_view c.args.stream.now = c.new-input.ensures.trees
    ∙ ap (map tree_view) c.trees.ensures in
    run_moved g.T.Parse.runs (trees_in c.new-input.result) (stream_view c.args.stream.now) (scope_of c.new-input.result)
    c.args.scope
    (Ok c.in_ok-value.value) (trees_in c.parse.new.input) [] t c.new-input.ensures.scope
    (c.if-not-is_empty.ensures.0 refl) c.in_ok-value.ensures.runs
