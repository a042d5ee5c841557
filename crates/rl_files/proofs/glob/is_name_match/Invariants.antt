use Rattle.std.proofs.Common.{◌≡◌}
use Rattle.rl_files.specs.Globs.{is_byte_match, is_star, name_matches}
use Rattle.rl_files.specs.GlobStops.{borrowed_bytes, says, stop_size}
use Rattle.rl_files.proofs.glob.is_name_match.Given as goal

abbrev pub invariant-loop-stop : goal.invariant-loop-stop
invariant-loop-stop l = name_matches l.initial.pattern l.initial.name ≡ says is_star is_byte_match borrowed_bytes borrowed_bytes l.stop

abbrev pub decreases-loop-stop : goal.decreases-loop-stop
decreases-loop-stop l = stop_size borrowed_bytes l.stop
