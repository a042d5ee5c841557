use Rattle.std.proofs.Common.{length}
use Rattle.std.specs.Prelude.{IfSome}
use Rattle.rl_files.specs.Globs.{borrowed_texts}
use Rattle.rl_files.specs.Trees.{string_texts}
use Rattle.rl_files.proofs.ListedLemmas.{IsLeftToList}
use Rattle.rl_files.proofs.path_list.push_listed_paths.Given as goal

abbrev pub invariant-loop-rest : goal.invariant-loop-rest
invariant-loop-rest g l = IfSome (g.T.Tree.holds l.tree) (λ w. IsLeftToList w (borrowed_texts l.files)
    (string_texts l.initial.paths.items) (borrowed_texts l.rest) (string_texts l.paths.items))

abbrev pub decreases-loop-rest : goal.decreases-loop-rest
decreases-loop-rest g l = length l.rest
