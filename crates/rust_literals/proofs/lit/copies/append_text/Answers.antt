use Rattle.rl_syntax.proofs.Common.{ap, map, ◌∙◌}
use Rattle.std.proofs.lemmas.Result.{err_from_is_err_and}
use Rattle.rl_tokens.specs.declared.token.TokenTree.TheVariants as tree
use Rattle.rl_tokens.specs.Trees.{LiteralTree, tree_view}
use Rattle.rl_tokens.proofs.TreeLemmas.{stream_view-append, tree_view-literal}
use Rattle.rust_literals.proofs.lit.copies.append_text.Goals as goal

pub returns-in_err-token-clause-memory : goal.returns-in_err-token-clause-memory
returns-in_err-token-clause-memory g c =
    let p = err_from_is_err_and c.from_residual.result c.from_residual.ensures.1 in
    rw (p.1, p.2) c.in_err-token.ensures.memory

pub returns-in-Ok-clause-ok : goal.returns-in-Ok-clause-ok
returns-in-Ok-clause-ok g c =
    stream_view-append c.args.tokens.now c.append.new.self (tree.Literal c.in_ok-token.token) _
    (tree_view-literal _ c.in_ok-token.token ∙ ap LiteralTree c.in_ok-token.ensures.ok) c.in-Ok.ensures.ok

pub returns-clause-unchanged : goal.returns-clause-unchanged
returns-clause-unchanged g c = ap (map tree_view) c.in-Err.ensures.unchanged
