use Rattle.rl_syntax.proofs.Common.{◌-◌, ◌<◌, ◌≤◌, length}
use Rattle.rl_syntax.specs.Mirrors.UnlikelyAt.{literal_free_prefix_len}
use Rattle.rl_syntax.proofs.lanes.literal_free_prefix_len.Given as goal

abbrev pub invariant-loop-at : goal.invariant-loop-at
invariant-loop-at l = record {
  front : l.at ≤ literal_free_prefix_len l.bytes;
  in_range : l.at ≤ length l.bytes;
  past_first : 0 < l.at;
}

abbrev pub decreases-loop-at : goal.decreases-loop-at
decreases-loop-at l = length l.bytes - l.at
