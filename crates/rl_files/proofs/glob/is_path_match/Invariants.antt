use Rattle.std.proofs.Common.{◌≡◌}
use Rattle.rl_files.specs.Globs.{is_double_star, name_matches, parts_left, pattern_left}
use Rattle.rl_files.specs.GlobStops.{says, stop_size}
use Rattle.rl_files.proofs.glob.is_path_match.Given as goal

abbrev pub invariant-loop-stop : goal.invariant-loop-stop
invariant-loop-stop l = says is_double_star name_matches pattern_left parts_left l.first
    ≡ says is_double_star name_matches pattern_left parts_left l.stop

abbrev pub decreases-loop-stop : goal.decreases-loop-stop
decreases-loop-stop l = stop_size pattern_left l.stop
