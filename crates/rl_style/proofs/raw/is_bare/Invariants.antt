-- The loop's invariant: the text contains no character that needs a backslash if and only if its unread part contains none.
use Rattle.rl_syntax.proofs.Common.{◌≡◌, not, list_all, length}
use denote.Text.{Utf8}
use denote.Shadow.{shadow}
use Rattle.std.specs.Str.{chars}
use Rattle.rl_style.specs.Rewriting.{needs_backslash}
use Rattle.rl_style.proofs.raw.is_bare.Given as goal

abbrev pub invariant-loop-c : goal.invariant-loop-c
invariant-loop-c l = record {
  utf8 : shadow (Utf8 l.rest);
  same : list_all (λ c. not (needs_backslash c)) (chars l.text)
      ≡ list_all (λ c. not (needs_backslash c)) (chars l.rest);
}

abbrev pub decreases-loop-c : goal.decreases-loop-c
decreases-loop-c l = length l.rest
