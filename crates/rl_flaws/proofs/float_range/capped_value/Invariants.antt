-- The loop's invariant: the number computed so far is the value of the digits read so far.
use Rattle.rl_syntax.proofs.Common.{◌≡◌, ◌⊎◌, ◌≤◌, ◌<◌, ◌*◌, ◌^◌, ◌++◌, ℕ, List, length}
use Rattle.rl_lenient.proofs.Names.{place_value}
use Rattle.rl_flaws.specs.FloatRange.{digits_only}
use denote.Text.{Utf8}
use denote.Shadow.{shadow}
use Rattle.std.specs.Str.{chars}
use Rattle.rl_flaws.proofs.float_range.capped_value.Given as goal

abbrev pub invariant-loop-digit : goal.invariant-loop-digit
invariant-loop-digit l = record {
  utf8 : shadow (Utf8 l.rest);
  passed : (front : List ℕ) × (digits_only (chars l.text) ≡ front ++ digits_only (chars l.rest))
      × ((l.value ≡ place_value 10 front) ⊎ ((2 ^ 100 ≤ l.value) × (2 ^ 100 ≤ place_value 10 front)));
  fits : l.value < 16 * 2 ^ 100;
}

abbrev pub decreases-loop-digit : goal.decreases-loop-digit
decreases-loop-digit l = length l.rest
