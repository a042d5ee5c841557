use Rattle.rl_syntax.proofs.Common.{◌≡◌, Some, false, length, drop, IsCharBoundary}
use Rattle.std.specs.Prelude.{◌-◌}
use Rattle.rl_lenient.specs.Mirrors.NumberAt.{run_from}
use Rattle.rl_lenient.proofs.digit_runs.read_digit_run_in.Given as goal

abbrev pub invariant-loop-at : goal.invariant-loop-at
invariant-loop-at l = record {
  boundary : IsCharBoundary l.bytes l.at;
  same : run_from l.radix l.has_digit l.tally (drop l.at l.bytes) ≡ run_from l.radix false (Some 0) l.bytes;
}

abbrev pub decreases-loop-at : goal.decreases-loop-at
decreases-loop-at l = length l.bytes - l.at
