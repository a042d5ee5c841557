use Rattle.std.proofs.Common.{length, ◌≡◌}
use Rattle.rl_files.specs.Globs.{all_match, any_end, is_byte_match, is_star}
use Rattle.rl_files.proofs.glob.name_stop_after.Given as goal

abbrev pub invariant-loop-left : goal.invariant-loop-left
invariant-loop-left l = any_end (all_match is_star is_byte_match l.pattern) l.name
    ≡ any_end (all_match is_star is_byte_match l.pattern) l.left

abbrev pub decreases-loop-left : goal.decreases-loop-left
decreases-loop-left l = length l.left
