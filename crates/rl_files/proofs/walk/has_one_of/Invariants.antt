use Rattle.std.proofs.Common.{◌≡◌, length}
use Rattle.rl_files.specs.Globs.{borrowed_texts}
use Rattle.rl_files.specs.Walks.{has_one_of}
use Rattle.rl_files.proofs.walk.has_one_of.Given as goal

abbrev pub invariant-loop-rest : goal.invariant-loop-rest
invariant-loop-rest l = has_one_of (borrowed_texts l.rest) l.name ≡ has_one_of (borrowed_texts l.extensions) l.name

abbrev pub decreases-loop-rest : goal.decreases-loop-rest
decreases-loop-rest l = length l.rest
