-- The loop's invariant: the text written so far, followed by the remaining digits in groups, is the text to write.
use Rattle.rl_syntax.proofs.Common.{◌≡◌, ◌+◌, ◌≤◌, ◌++◌, length, take}
use Rattle.std.specs.Prelude.{reverse}
use Rattle.rl_writing.specs.Integers.{grouped}
use Rattle.rl_writing.proofs.numerals.put_grouped.Given as goal

abbrev pub invariant-loop-left : goal.invariant-loop-left
invariant-loop-left l = record {
  bytes : take l.end l.out ++ grouped l.group (reverse (take l.left l.digits))
      ≡ take l.at l.initial.out ++ grouped l.group (reverse l.digits);
  end : l.end + length (grouped l.group (reverse (take l.left l.digits)))
      ≡ l.at + length (grouped l.group (reverse l.digits));
  within : l.left ≤ length l.digits;
  len : length l.out ≡ length l.initial.out;
}

abbrev pub decreases-loop-left : goal.decreases-loop-left
decreases-loop-left l = l.left
