use Rattle.rl_syntax.proofs.Common.{◌≡◌, ◌+◌, ◌-◌, ◌≤◌, length, drop, prefix_len}
use Rattle.rl_syntax.specs.Mirrors.StopsAt.{goes_on}
use Rattle.rl_syntax.proofs.LaneLemmas.{said}
use Rattle.rl_syntax.proofs.scan.stop_by_byte.Given as goal

abbrev pub invariant-loop-at : goal.invariant-loop-at
invariant-loop-at g l = record {
  run : l.from + prefix_len (goes_on (said g.row.HIGH) l.marks) (drop l.from l.bytes)
      ≡ l.at + prefix_len (goes_on (said g.row.HIGH) l.marks) (drop l.at l.bytes);
  in_range : l.at ≤ length l.bytes;
}

abbrev pub decreases-loop-at : goal.decreases-loop-at
decreases-loop-at g l = length l.bytes - l.at
