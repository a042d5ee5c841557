-- The loop's invariant: the slice contains the characters read so far, without underscores and in the given case. The slice
-- has space for the unread characters.
use Rattle.rl_syntax.proofs.Common.{◌≡◌, ◌≤◌, ◌+◌, ◌++◌, ℕ, List, take, length, map, encode_utf8_all}
use denote.Text.{Utf8}
use denote.Shadow.{shadow}
use Rattle.std.specs.Str.{chars}
use Rattle.rl_syntax.specs.Spelling.{without_underscores}
use Rattle.rl_style.specs.Cases.{cased}
use Rattle.rl_style.proofs.codes.put_bare.Given as goal

abbrev pub invariant-loop-c : goal.invariant-loop-c
invariant-loop-c l = record {
  utf8 : shadow (Utf8 l.rest);
  passed : (xs : List ℕ) × (chars l.text ≡ xs ++ chars l.rest)
      × (take l.end l.out ≡ take l.fn.at l.initial.out
      ++ encode_utf8_all (map (cased l.case) (without_underscores xs)));
  room : l.end + length l.rest ≤ l.fn.at + length l.text;
  len : length l.out ≡ length l.initial.out;
}

abbrev pub decreases-loop-c : goal.decreases-loop-c
decreases-loop-c l = length l.rest
