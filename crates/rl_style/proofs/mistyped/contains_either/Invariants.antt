-- The loop's invariant: the text contains one of the two characters if and only if its unread part does.
use Rattle.rl_syntax.proofs.Common.{◌≡◌, ◌||◌, ◌==◌, length}
use Rattle.std.specs.List.{list_any}
use denote.Text.{Utf8}
use denote.Shadow.{shadow}
use Rattle.std.specs.Str.{chars}
use Rattle.rl_style.proofs.mistyped.contains_either.Given as goal

abbrev pub invariant-loop-c : goal.invariant-loop-c
invariant-loop-c l = record {
  utf8 : shadow (Utf8 l.rest);
  same : list_any (λ c. c == l.first || c == l.second) (chars l.text)
      ≡ list_any (λ c. c == l.first || c == l.second) (chars l.rest);
}

abbrev pub decreases-loop-c : goal.decreases-loop-c
decreases-loop-c l = length l.rest
