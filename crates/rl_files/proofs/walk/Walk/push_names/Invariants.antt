use Rattle.std.proofs.Common.{◌≡◌, ◌++◌}
use Rattle.std.specs.List.{flat_map}
use Rattle.rl_files.specs.Trees.{names_bytes}
use Rattle.rl_files.specs.Walks.{waypoints_of}
use Rattle.rl_files.proofs.walk.Walk.push_names.Given as goal

abbrev pub invariant-loop-name : goal.invariant-loop-name
invariant-loop-name g l = flat_map (waypoints_of l.selection l.in_package l.from l.directory) (names_bytes l.names.items) ++ l.self
    ≡ flat_map (waypoints_of l.selection l.in_package l.from l.directory) (names_bytes l.initial.names.items) ++ l.initial.self

abbrev pub decreases-loop-name : goal.decreases-loop-name
decreases-loop-name g l = goal.left-loop-name g l
