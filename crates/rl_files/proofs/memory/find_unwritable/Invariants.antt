use Rattle.std.proofs.Common.{◌≡◌, length}
use Rattle.rl_files.specs.Replacements.{why_unwritable}
use Rattle.rl_files.proofs.memory.find_unwritable.Given as goal

abbrev pub invariant-loop-rest : goal.invariant-loop-rest
invariant-loop-rest l = why_unwritable l.rest l.path ≡ why_unwritable l.unwritable l.path

abbrev pub decreases-loop-rest : goal.decreases-loop-rest
decreases-loop-rest l = length l.rest
