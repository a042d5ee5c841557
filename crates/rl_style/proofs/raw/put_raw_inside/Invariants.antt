-- The loop's invariant: the slice contains the new forms of the characters read so far. The slice has space for the unread
-- characters.
use Rattle.rl_syntax.proofs.Common.{◌≡◌, ◌≤◌, ◌+◌, ◌*◌, ◌++◌, ℕ, List, take, length, encode_utf8_all}
use denote.Text.{Utf8}
use denote.Shadow.{shadow}
use Rattle.std.specs.Str.{chars}
use Rattle.rl_style.proofs.WrittenUnraw.{raw_before}
use Rattle.rl_style.proofs.raw.put_raw_inside.Given as goal

abbrev pub invariant-loop-c : goal.invariant-loop-c
invariant-loop-c l = record {
  utf8 : shadow (Utf8 l.rest);
  passed : (xs : List ℕ) × (chars l.inside ≡ xs ++ chars l.rest)
      × (take l.end l.out ≡ take l.fn.at l.initial.out ++ encode_utf8_all (raw_before l.style xs (chars l.rest)));
  room : l.end + 4 * length l.rest ≤ l.fn.at + 4 * length l.inside;
  len : length l.out ≡ length l.initial.out;
}

abbrev pub decreases-loop-c : goal.decreases-loop-c
decreases-loop-c l = length l.rest
