use Rattle.rl_syntax.proofs.Common.{◌≡◌, map, take}
use Rattle.rl_tokens.specs.Trees.{tree_view, relocated}
use Rattle.rl_tokens.proofs.token.+map_by_byte_spans.Given as goal

abbrev pub invariant-TokenStream::map_by_byte_spans-loop-at : goal.invariant-TokenStream::map_by_byte_spans-loop-at
invariant-TokenStream::map_by_byte_spans-loop-at g l =
    goal.unvisited-TokenStream::map_by_byte_spans-loop-at g l
    × (map tree_view (take l.at l.self.trees.items) ≡ map (relocated l.table)
    (map tree_view (take l.at l.initial.self.trees.items)))
