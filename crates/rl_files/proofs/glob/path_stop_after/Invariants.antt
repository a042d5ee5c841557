use Rattle.std.proofs.Common.{length, ◌≡◌}
use Rattle.rl_files.specs.Globs.{all_match, any_end, is_double_star, name_matches, parts_left, pattern_left}
use Rattle.rl_files.proofs.glob.path_stop_after.Given as goal

abbrev pub invariant-loop-left : goal.invariant-loop-left
invariant-loop-left l = any_end (all_match is_double_star name_matches (pattern_left l.pattern)) (parts_left l.path)
    ≡ any_end (all_match is_double_star name_matches (pattern_left l.pattern)) (parts_left l.left)

abbrev pub decreases-loop-left : goal.decreases-loop-left
decreases-loop-left l = length (parts_left l.left)
