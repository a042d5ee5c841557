-- The loop's invariant: the text contains a minus if and only if its unread part does.
use Rattle.rl_syntax.proofs.Common.{◌≡◌, ◌==◌, length, list_any}
use denote.Text.{Utf8}
use denote.Shadow.{shadow}
use Rattle.std.specs.Str.{chars}
use Rattle.rl_flaws.proofs.float_range.has_minus.Given as goal

abbrev pub invariant-loop-c : goal.invariant-loop-c
invariant-loop-c l = record {
  utf8 : shadow (Utf8 l.rest);
  same : list_any (λ c. c == 45) (chars l.rest) ≡ list_any (λ c. c == 45) (chars l.text);
}

abbrev pub decreases-loop-c : goal.decreases-loop-c
decreases-loop-c l = length l.rest
