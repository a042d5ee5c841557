use Rattle.rl_syntax.proofs.Common.{◌≡◌, ◌-◌, ◌≤◌, length, drop}
use Rattle.rl_lexer.specs.Mirrors.SkippedAt.{after_block}
use Rattle.rl_lexer.proofs.whitespace.after_block.Given as goal

abbrev pub invariant-loop-at : goal.invariant-loop-at
invariant-loop-at l = record {
  within : l.at ≤ length l.bytes;
  shallow : l.depth ≤ l.at;
  same : after_block l.depth (drop l.at l.bytes) ≡ after_block 0 l.bytes;
}

abbrev pub decreases-loop-at : goal.decreases-loop-at
decreases-loop-at l = length l.bytes - l.at
