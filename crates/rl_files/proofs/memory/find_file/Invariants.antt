use Rattle.std.proofs.Common.{◌≡◌, length}
use Rattle.rl_files.specs.MemoryTrees.{file_at}
use Rattle.rl_files.proofs.memory.find_file.Given as goal

abbrev pub invariant-loop-rest : goal.invariant-loop-rest
invariant-loop-rest l = file_at l.rest l.path ≡ file_at l.files l.path

abbrev pub decreases-loop-rest : goal.decreases-loop-rest
decreases-loop-rest l = length l.rest
