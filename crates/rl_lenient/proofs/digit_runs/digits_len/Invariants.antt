use Rattle.rl_syntax.proofs.Common.{◌≡◌, None, false, length, drop, nat_lt, IsCharBoundary}
use Rattle.std.specs.Prelude.{◌-◌}
use Rattle.rl_lenient.specs.Mirrors.NumberAt.{run_from}
use Rattle.rl_lenient.proofs.digit_runs.digits_len.Given as goal

abbrev pub invariant-loop-len : goal.invariant-loop-len
invariant-loop-len l = record {
  boundary : IsCharBoundary l.bytes l.len;
  same : run_from 10 (nat_lt 0 l.len) None (drop l.len l.bytes) ≡ run_from 10 false None l.bytes;
}

abbrev pub decreases-loop-len : goal.decreases-loop-len
decreases-loop-len l = length l.bytes - l.len
