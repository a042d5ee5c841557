use Rattle.rl_syntax.proofs.Common.{◌≡◌, ◌<◌, Some, false, length, drop, nat_lt, IsCharBoundary}
use Rattle.std.specs.Prelude.{◌-◌}
use Rattle.rl_lenient.specs.Mirrors.NumberAt.{run_from}
use Rattle.rl_lenient.proofs.digit_runs.first_digits.Given as goal

abbrev pub invariant-loop-end : goal.invariant-loop-end
invariant-loop-end l = record {
  boundary : IsCharBoundary l.bytes l.end;
  same : run_from l.radix (nat_lt 0 l.end) (Some l.spelled) (drop l.end l.bytes)
      ≡ run_from l.radix false (Some 0) l.bytes;
  small : l.spelled < 18446744073709551615;
}

abbrev pub decreases-loop-end : goal.decreases-loop-end
decreases-loop-end l = length l.bytes - l.end
