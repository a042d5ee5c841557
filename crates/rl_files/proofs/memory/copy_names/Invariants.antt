use Rattle.std.proofs.Common.{◌≡◌, ◌++◌, length}
use Rattle.rl_files.specs.Trees.{names_bytes}
use Rattle.rl_files.specs.Globs.{borrowed_texts}
use Rattle.rl_files.proofs.memory.copy_names.Given as goal

abbrev pub invariant-loop-rest : goal.invariant-loop-rest
invariant-loop-rest g l = names_bytes l.copy.items ++ borrowed_texts l.rest ≡ borrowed_texts l.names

abbrev pub decreases-loop-rest : goal.decreases-loop-rest
decreases-loop-rest g l = length l.rest
