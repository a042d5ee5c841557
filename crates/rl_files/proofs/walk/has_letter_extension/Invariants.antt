use Rattle.std.proofs.Common.{◌≡◌, length}
use Rattle.rl_files.specs.Walks.{has_letter_extension, has_dot_before_letters}
use Rattle.rl_files.proofs.walk.has_letter_extension.Given as goal

abbrev pub invariant-loop-rest : goal.invariant-loop-rest
invariant-loop-rest l = has_dot_before_letters l.rest ≡ has_letter_extension l.name

abbrev pub decreases-loop-rest : goal.decreases-loop-rest
decreases-loop-rest l = length l.rest
