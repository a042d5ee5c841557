use Rattle.rl_syntax.proofs.Common.{List, ap, chars, inl, length, map, subst, sym, ◌++◌, ◌∙◌, ◌≡◌}
use Rattle.std.proofs.lemmas.Result.{err_from_is_err_and}
use Rattle.rl_tokens.specs.Trees.{tree_view, stream_view}
use Rattle.rl_tokens.specs.Buffers.{trees_in, scope_of}
use Rattle.rust_literals.specs.declared.lit.Lit.{Lit}
use Rattle.rust_literals.specs.Parsing.{ReadsLiterals}
use Rattle.rust_literals.specs.Flat.{AreFirst}
use Rattle.rust_literals.proofs.ReadLemmas.{text_read, text_rejected}
use Rattle.rust_literals.proofs.BegunLemmas.{goes_on}
use Rattle.rust_literals.proofs.read.read_from.Given as given
use Rattle.rust_literals.proofs.read.read_from.Goals as goal

pub returns-in_err-stream-clause-rejected : goal.returns-in_err-stream-clause-rejected
returns-in_err-stream-clause-rejected g c =
    let p = err_from_is_err_and c.from_residual.result c.from_residual.ensures.1 in
    λ gone first. rw (p.1, p.2) (inl c.in_err-stream.ensures.rejected)

led : (g : given.Over) (c : goal.After-drop-stream g) (gone : List (Lit g.row.A.Denot))
    → AreFirst (chars c.args.text.now) c.args.file c.args.count (gone ++ c.args.list.items)
    → ReadsLiterals (stream_view c.in_ok-stream.stream) (gone ++ c.args.list.items) (trees_in c.pass.new.input)
led g c gone first =
    let list = gone ++ c.args.list.items in
    let all : trees_in c.new-input.result ≡ stream_view c.in_ok-stream.stream = c.new-input.ensures.trees
    ∙ ap (map tree_view) c.trees.ensures in
    let (following, leads) = goes_on (chars c.args.text.now) c.args.file list (stream_view c.in_ok-stream.stream)
    first.begun c.in_ok-stream.ensures.ok in
    let here : ReadsLiterals (trees_in c.new-input.result) list following = subst
    (λ ts. ReadsLiterals ts list following) (sym all) leads in
    subst (λ rest. ReadsLiterals (stream_view c.in_ok-stream.stream) list rest)
    (sym (c.pass.ensures.passed list following first.count_is here)) leads

pub returns-clause-read : goal.returns-clause-read
returns-clause-read g c = λ gone first.
    text_read (chars c.args.text.now) c.args.file (stream_view c.in_ok-stream.stream) gone c.read_on.result
    c.in_ok-stream.ensures.ok (c.read_on.ensures.read _ gone (led g c gone first))

pub returns-clause-rejected : goal.returns-clause-rejected
returns-clause-rejected g c = λ gone first.
    text_rejected (chars c.args.text.now) c.args.file (length c.args.text.now) (stream_view c.in_ok-stream.stream)
    (scope_of c.pass.new.input) c.read_on.result c.in_ok-stream.ensures.ok
    (c.pass.ensures.scope ∙ c.new-input.ensures.scope ∙ c.new-end.ensures)
    (c.read_on.ensures.rejected _ gone (led g c gone first))
