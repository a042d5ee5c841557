-- The loop's invariant: if leading zeros and underscores are dropped from the whole text and from its unread part, the two
-- results are equal.
use Rattle.rl_syntax.proofs.Common.{◌≡◌, ◌≤◌, length}
use denote.Text.{Utf8}
use denote.Shadow.{shadow}
use Rattle.std.specs.Str.{chars}
use Rattle.rl_syntax.specs.Classes.{after_run}
use Rattle.rl_style.specs.Cases.{is_padding}
use Rattle.rl_style.proofs.numbers.skip_padding.Given as goal

abbrev pub invariant-loop-after : goal.invariant-loop-after
invariant-loop-after l = record {
  utf8 : shadow (Utf8 l.rest);
  same : after_run is_padding (chars l.rest) ≡ after_run is_padding (chars l.text);
  shorter : length l.rest ≤ length l.text;
}

abbrev pub decreases-loop-after : goal.decreases-loop-after
decreases-loop-after l = length l.rest
