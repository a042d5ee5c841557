use Rattle.rl_syntax.proofs.Common.{◌≡◌, false, length, chars}
use Rattle.rl_syntax.specs.Texts.{IsTail}
use Rattle.rl_cursors.specs.Recoveries.{from_line_end}
use Rattle.rl_cursors.proofs.lines.from_line_end.Given as goal

abbrev pub invariant-loop-c : goal.invariant-loop-c
invariant-loop-c l = record {
  following : IsTail l.text l.rest;
  same : from_line_end l.joins l.is_escaped (chars l.rest) ≡ from_line_end l.joins false (chars l.text);
}

abbrev pub decreases-loop-c : goal.decreases-loop-c
decreases-loop-c l = length l.rest
