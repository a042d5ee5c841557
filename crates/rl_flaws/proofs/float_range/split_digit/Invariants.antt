-- The loop's invariant: the text read so far contains no digit.
use Rattle.rl_syntax.proofs.Common.{◌≡◌, ◌≤◌, length}
use Rattle.rl_flaws.specs.FloatRange.{digits_only}
use denote.Text.{Utf8}
use denote.Shadow.{shadow}
use Rattle.std.specs.Str.{chars}
use Rattle.rl_flaws.proofs.float_range.split_digit.Given as goal

abbrev pub invariant-loop-c : goal.invariant-loop-c
invariant-loop-c l = record {
  utf8 : shadow (Utf8 l.rest);
  same : digits_only (chars l.rest) ≡ digits_only (chars l.text);
  shorter : length l.rest ≤ length l.text;
}

abbrev pub decreases-loop-c : goal.decreases-loop-c
decreases-loop-c l = length l.rest
