-- The loop's invariant: after the bytes already written, the slice has space for the text that is still to be written.
use Rattle.rl_syntax.proofs.Common.{◌≡◌, ◌≤◌, ◌+◌, ◌++◌, take, length, flat_map, encode_utf8_all}
use denote.Text.{Utf8}
use denote.Shadow.{shadow}
use Rattle.std.specs.Str.{chars}
use Rattle.rl_style.specs.Cases.{number_character}
use Rattle.rl_style.proofs.characters.put_numeral.Given as goal

abbrev pub invariant-loop-c : goal.invariant-loop-c
invariant-loop-c l = record {
  utf8 : shadow (Utf8 l.rest);
  whole : take l.fn.at l.initial.out
      ++ encode_utf8_all (flat_map (number_character l.manner.style l.manner.drops l.manner.hex) (chars l.numeral))
      ≡ take l.end l.out
      ++ encode_utf8_all (flat_map (number_character l.manner.style l.manner.drops l.manner.hex) (chars l.rest));
  room : l.end + length l.rest ≤ l.fn.at + length l.numeral;
  len : length l.out ≡ length l.initial.out;
}

abbrev pub decreases-loop-c : goal.decreases-loop-c
decreases-loop-c l = length l.rest
