use Rattle.std.proofs.Common.{◌≡◌, length}
use Rattle.rl_files.specs.MemoryTrees.{directory_at}
use Rattle.rl_files.proofs.memory.find_directory.Given as goal

abbrev pub invariant-loop-rest : goal.invariant-loop-rest
invariant-loop-rest l = directory_at l.rest l.path ≡ directory_at l.directories l.path

abbrev pub decreases-loop-rest : goal.decreases-loop-rest
decreases-loop-rest l = length l.rest
