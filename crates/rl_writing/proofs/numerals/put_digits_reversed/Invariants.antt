-- The loop's invariant: the digits of the remaining number, followed by the digits written so far in reverse order, are the
-- digits of the whole number. Each iteration at least halves the remaining number.
use Rattle.rl_syntax.proofs.Common.{◌≡◌, ◌*◌, ◌^◌, ◌<◌, ◌⊎◌, length, take}
use Rattle.std.specs.Prelude.{reverse}
use Rattle.rl_writing.specs.Integers.{numeral}
use Rattle.rl_writing.proofs.NumeralLemmas.{digits_before}
use Rattle.rl_writing.proofs.numerals.put_digits_reversed.Given as goal

abbrev pub invariant-loop-left : goal.invariant-loop-left
invariant-loop-left l = record {
  digits : digits_before l.radix l.upper l.left (reverse (take l.count l.room)) ≡ numeral l.radix l.upper l.value;
  fits : l.left * 2 ^ l.count < 2 ^ length l.initial.room;
  some : (0 < l.left) ⊎ (l.count ≡ 0);
  len : length l.room ≡ length l.initial.room;
}

abbrev pub decreases-loop-left : goal.decreases-loop-left
decreases-loop-left l = l.left
