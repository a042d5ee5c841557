use Rattle.std.proofs.Common.{◌≡◌, length}
use Rattle.rl_files.specs.Trees.{names_bytes}
use Rattle.rl_files.specs.Walks.{are_of_package}
use Rattle.rl_files.proofs.walk.are_of_package.Given as goal

abbrev pub invariant-loop-rest : goal.invariant-loop-rest
invariant-loop-rest g l = are_of_package (names_bytes l.rest) ≡ are_of_package (names_bytes l.names)

abbrev pub decreases-loop-rest : goal.decreases-loop-rest
decreases-loop-rest g l = length l.rest
