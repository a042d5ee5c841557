use Rattle.rl_syntax.proofs.Common.{◌≡◌, None, false, length, drop, IsCharBoundary}
use Rattle.std.specs.Prelude.{◌-◌}
use Rattle.rl_lenient.specs.Mirrors.NumberAt.{run_from}
use Rattle.rl_lenient.proofs.digit_runs.skip_digits.Given as goal

abbrev pub invariant-loop-at : goal.invariant-loop-at
invariant-loop-at l = record {
  boundary : IsCharBoundary l.bytes l.at;
  same : run_from 10 l.has_digit None (drop l.at l.bytes) ≡ run_from 10 false None l.bytes;
}

abbrev pub decreases-loop-at : goal.decreases-loop-at
decreases-loop-at l = length l.bytes - l.at
