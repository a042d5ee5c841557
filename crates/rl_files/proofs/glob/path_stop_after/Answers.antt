use Rattle.rl_files.specs.Globs.{is_double_star, name_matches, parts_left, pattern_left}
use Rattle.rl_files.proofs.GlobLemmas.{after_star}
use Rattle.rl_files.proofs.glob.path_stop_after.Goals as goal

pub returns-then-not-is_failed : goal.returns-then-not-is_failed
returns-then-not-is_failed c = after_star is_double_star name_matches pattern_left parts_left (pattern_left c.args.pattern)
    (parts_left c.args.path) (parts_left c.loop-left.left) c.path_stop-stop.result c.if-not-is_failed.ensures
    c.loop-left.invariant c.path_stop-stop.ensures
