-- The loop's invariant: after the bytes already written, the slice has space for the text that is still to be written. Of this
-- text, `left` characters are digits.
use Rattle.rl_syntax.proofs.Common.{◌≡◌, ◌≤◌, ◌+◌, ◌*◌, ◌++◌, take, length, encode_utf8_all}
use denote.Text.{Utf8}
use denote.Shadow.{shadow}
use Rattle.std.specs.Str.{chars}
use Rattle.rl_syntax.specs.Spelling.{without_underscores}
use Rattle.rl_style.specs.Cases.{number_character}
use Rattle.rl_style.specs.Groups.{ends}
use Rattle.rl_style.specs.Mirrors.{run_placed}
use Rattle.rl_style.proofs.groups.put_grouped.Given as goal

abbrev pub invariant-loop-c : goal.invariant-loop-c
invariant-loop-c l = record {
  utf8 : shadow (Utf8 l.rest);
  whole : take l.fn.at l.initial.out
      ++ encode_utf8_all (run_placed (number_character l.manner.style l.manner.drops l.manner.hex)
      (ends l.from_first l.size l.count) (chars l.run))
      ≡ take l.end l.out
      ++ encode_utf8_all (run_placed (number_character l.manner.style l.manner.drops l.manner.hex)
      (ends l.from_first l.size l.count) (chars l.rest));
  left : l.left ≡ length (without_underscores (chars l.rest));
  few : l.left ≤ l.count;
  room : l.end + 2 * length l.rest ≤ l.fn.at + 2 * length l.run;
  len : length l.out ≡ length l.initial.out;
}

abbrev pub decreases-loop-c : goal.decreases-loop-c
decreases-loop-c l = length l.rest
