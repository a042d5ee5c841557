use Rattle.std.proofs.Common.{length}
use Rattle.rl_files.specs.Globs.{is_double_star, name_matches, parts_left, pattern_left}
use Rattle.rl_files.proofs.GlobLemmas.{Goes}
use Rattle.rl_files.proofs.glob.path_stop.Given as goal

abbrev pub invariant-loop-left : goal.invariant-loop-left
invariant-loop-left l = Goes is_double_star name_matches (pattern_left l.pattern) (parts_left l.path)
    (pattern_left l.left) (parts_left l.names)

abbrev pub decreases-loop-left : goal.decreases-loop-left
decreases-loop-left l = length (pattern_left l.left)
