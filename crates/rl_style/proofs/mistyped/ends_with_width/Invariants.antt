-- The loop's invariant: the text ends with an underscore and the width of a number type if and only if its unread part does.
use Rattle.rl_syntax.proofs.Common.{◌≡◌, length}
use denote.Text.{Utf8}
use denote.Shadow.{shadow}
use Rattle.std.specs.Str.{chars}
use Rattle.rl_style.specs.Mistyped.{ends_with_width}
use Rattle.rl_style.proofs.mistyped.ends_with_width.Given as goal

abbrev pub invariant-loop-c : goal.invariant-loop-c
invariant-loop-c l = record {
  utf8 : shadow (Utf8 l.rest);
  same : ends_with_width (chars l.text) ≡ ends_with_width (chars l.rest);
}

abbrev pub decreases-loop-c : goal.decreases-loop-c
decreases-loop-c l = length l.rest
