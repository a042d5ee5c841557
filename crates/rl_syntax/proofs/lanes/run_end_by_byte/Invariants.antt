use Rattle.rl_syntax.proofs.Common.{◌≡◌, ◌+◌, ◌-◌, ◌≤◌, length, drop, prefix_len}
use Rattle.rl_syntax.specs.Mirrors.RunsAt.{is_run_byte}
use Rattle.rl_syntax.proofs.LaneLemmas.{said}
use Rattle.rl_syntax.proofs.lanes.run_end_by_byte.Given as goal

abbrev pub invariant-loop-at : goal.invariant-loop-at
invariant-loop-at g l = record {
  run : l.from + prefix_len (is_run_byte (said g.row.WORD)) (drop l.from l.bytes)
      ≡ l.at + prefix_len (is_run_byte (said g.row.WORD)) (drop l.at l.bytes);
  in_range : l.at ≤ length l.bytes;
}

abbrev pub decreases-loop-at : goal.decreases-loop-at
decreases-loop-at g l = length l.bytes - l.at
