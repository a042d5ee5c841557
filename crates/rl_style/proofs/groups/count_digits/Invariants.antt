-- The loop's invariant: the number of digits counted so far, plus the number of digits in the unread text, is the number of
-- digits in the whole sequence.
use Rattle.rl_syntax.proofs.Common.{◌≡◌, ◌≤◌, ◌+◌, length}
use denote.Text.{Utf8}
use denote.Shadow.{shadow}
use Rattle.std.specs.Str.{chars}
use Rattle.rl_syntax.specs.Spelling.{without_underscores}
use Rattle.rl_style.proofs.groups.count_digits.Given as goal

abbrev pub invariant-loop-c : goal.invariant-loop-c
invariant-loop-c l = record {
  utf8 : shadow (Utf8 l.rest);
  digits : l.count + length (without_underscores (chars l.rest)) ≡ length (without_underscores (chars l.run));
  within : l.count + length l.rest ≤ length l.run;
}

abbrev pub decreases-loop-c : goal.decreases-loop-c
decreases-loop-c l = length l.rest
