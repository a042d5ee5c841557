-- The loop's invariant: the buffer begins with the digits of the part of the text that was processed, and has room for the
-- digits of the other part.
use Rattle.rl_syntax.proofs.Common.{◌≡◌, ◌+◌, ◌≤◌, ◌++◌, ℕ, List, take, length, encode_utf8_all}
use Rattle.rl_lenient.proofs.Names.{float_digits}
use denote.Text.{Utf8}
use denote.Shadow.{shadow}
use Rattle.std.specs.Str.{chars}
use Rattle.rl_lenient.proofs.digits.float_digits_into.Given as goal

abbrev pub invariant-loop-c : goal.invariant-loop-c
invariant-loop-c l = record {
  utf8 : shadow (Utf8 l.rest);
  passed : (xs : List ℕ) × (chars l.numeral ≡ xs ++ chars l.rest)
      × (take l.at l.out ≡ encode_utf8_all (float_digits xs));
  room : l.at + length l.rest ≤ length l.numeral;
  len : length l.out ≡ length l.initial.out;
}

abbrev pub decreases-loop-c : goal.decreases-loop-c
decreases-loop-c l = length l.rest
