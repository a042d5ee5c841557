use Rattle.rl_syntax.proofs.Common.{◌≡◌, ◌+◌, ◌-◌, ◌≤◌, length, drop, prefix_len}
use Rattle.rl_syntax.specs.Scanning.{is_other, line_ends}
use Rattle.rl_syntax.proofs.lanes.line_len.Given as goal

abbrev pub invariant-loop-at : goal.invariant-loop-at
invariant-loop-at l = record {
  run : prefix_len (is_other line_ends) l.bytes ≡ l.at + prefix_len (is_other line_ends) (drop l.at l.bytes);
  in_range : l.at ≤ length l.bytes;
}

abbrev pub decreases-loop-at : goal.decreases-loop-at
decreases-loop-at l = length l.bytes - l.at
