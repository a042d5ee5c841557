use Rattle.std.proofs.Common.{length, ◌≡◌}
use Rattle.rl_files.specs.Globs.{is_excluded, borrowed_texts}
use Rattle.rl_files.proofs.glob.is_excluded.Given as goal

abbrev pub invariant-loop-rest : goal.invariant-loop-rest
invariant-loop-rest l = is_excluded (borrowed_texts l.patterns) l.path ≡ is_excluded (borrowed_texts l.rest) l.path

abbrev pub decreases-loop-rest : goal.decreases-loop-rest
decreases-loop-rest l = length l.rest
