use Rattle.rl_syntax.proofs.Common.{◌≡◌, map, take}
use Rattle.rl_tokens.specs.Trees.{tree_view, respanned}
use Rattle.rl_tokens.proofs.token.+respan.Given as goal

abbrev pub invariant-TokenStream::respan-loop-at : goal.invariant-TokenStream::respan-loop-at
invariant-TokenStream::respan-loop-at g l =
    goal.unvisited-TokenStream::respan-loop-at g l
    × (map tree_view (take l.at l.self.trees.items) ≡ map (respanned l.span)
    (map tree_view (take l.at l.initial.self.trees.items)))
