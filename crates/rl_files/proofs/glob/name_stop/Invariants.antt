use Rattle.std.proofs.Common.{length}
use Rattle.rl_files.specs.Globs.{is_byte_match, is_star}
use Rattle.rl_files.proofs.GlobLemmas.{Goes}
use Rattle.rl_files.proofs.glob.name_stop.Given as goal

abbrev pub invariant-loop-p : goal.invariant-loop-p
invariant-loop-p l = Goes is_star is_byte_match l.pattern l.name l.left l.bytes

abbrev pub decreases-loop-p : goal.decreases-loop-p
decreases-loop-p l = length l.left
