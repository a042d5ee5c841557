use Rattle.std.proofs.Common.{◌≡◌, ◌++◌}
use Rattle.rl_files.specs.Trees.{string_texts}
use Rattle.rl_files.specs.Walks.{given_waypoints}
use Rattle.rl_files.proofs.walk.Walk.of_paths.Given as goal

abbrev pub invariant-loop-path : goal.invariant-loop-path
invariant-loop-path g l = given_waypoints (string_texts l.paths.items) ++ l.walk
    ≡ given_waypoints (string_texts l.initial.paths.items)

abbrev pub decreases-loop-path : goal.decreases-loop-path
decreases-loop-path g l = goal.left-loop-path g l
