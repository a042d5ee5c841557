-- The loop's invariant: the characters read so far are a text without underscores at its end, and then only underscores.
use Rattle.rl_syntax.proofs.Common.{◌≡◌, ◌++◌, ℕ, true, List, length}
use denote.Text.{Utf8}
use denote.Shadow.{shadow}
use Rattle.std.specs.Str.{chars}
use Rattle.rl_style.proofs.Trimmed.{IsTrim, only}
use Rattle.rl_style.proofs.numbers.trimmed.Given as goal

abbrev pub invariant-loop-c : goal.invariant-loop-c
invariant-loop-c l = record {
  utf8 : shadow (Utf8 l.rest);
  tail : shadow (Utf8 l.tail);
  passed : (front under : List ℕ) × (chars l.text ≡ front ++ chars l.tail) × (chars l.tail ≡ under ++ chars l.rest)
      × (only under ≡ true) × IsTrim front;
}

abbrev pub decreases-loop-c : goal.decreases-loop-c
decreases-loop-c l = length l.rest
