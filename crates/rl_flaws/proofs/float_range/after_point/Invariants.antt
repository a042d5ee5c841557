-- The loop's invariant: the whole text and its unread part have equal texts after their first dot.
use Rattle.rl_syntax.proofs.Common.{◌≡◌, length}
use Rattle.rl_flaws.specs.FloatRange.{after_point}
use denote.Text.{Utf8}
use denote.Shadow.{shadow}
use Rattle.std.specs.Str.{chars}
use Rattle.rl_flaws.proofs.float_range.after_point.Given as goal

abbrev pub invariant-loop-c : goal.invariant-loop-c
invariant-loop-c l = record {
  utf8 : shadow (Utf8 l.rest);
  same : after_point (chars l.rest) ≡ after_point (chars l.text);
}

abbrev pub decreases-loop-c : goal.decreases-loop-c
decreases-loop-c l = length l.rest
