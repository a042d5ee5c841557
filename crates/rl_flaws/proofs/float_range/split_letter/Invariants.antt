-- The loop's invariant: the text read so far contains no letter of an exponent.
use Rattle.rl_syntax.proofs.Common.{◌≡◌, ◌++◌, ℕ, List, length}
use Rattle.rl_flaws.specs.FloatRange.{power_part, decimal_part}
use denote.Text.{Utf8}
use denote.Shadow.{shadow}
use Rattle.std.specs.Str.{chars}
use Rattle.rl_flaws.proofs.float_range.split_letter.Given as goal

abbrev pub invariant-loop-c : goal.invariant-loop-c
invariant-loop-c l = record {
  utf8 : shadow (Utf8 l.rest);
  passed : (front : List ℕ) × (chars l.numeral ≡ front ++ chars l.rest)
      × (decimal_part (chars l.numeral) ≡ front ++ decimal_part (chars l.rest))
      × (power_part (chars l.numeral) ≡ power_part (chars l.rest));
}

abbrev pub decreases-loop-c : goal.decreases-loop-c
decreases-loop-c l = length l.rest
