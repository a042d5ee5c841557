-- The loop's invariant: the text contains an invisible or bidirectional character if and only if its unread part does.
use Rattle.rl_syntax.proofs.Common.{◌≡◌, length}
use Rattle.std.specs.List.{list_any}
use denote.Text.{Utf8}
use denote.Shadow.{shadow}
use Rattle.std.specs.Str.{chars}
use Rattle.rl_style.specs.Rewriting.{needs_number}
use Rattle.rl_style.proofs.hidden.holds_hidden.Given as goal

abbrev pub invariant-loop-c : goal.invariant-loop-c
invariant-loop-c l = record {
  utf8 : shadow (Utf8 l.rest);
  same : list_any needs_number (chars l.text) ≡ list_any needs_number (chars l.rest);
}

abbrev pub decreases-loop-c : goal.decreases-loop-c
decreases-loop-c l = length l.rest
