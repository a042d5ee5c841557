use Rattle.rl_syntax.proofs.Common.{◌≡◌, ◌≤◌, ◌<◌, ◌^◌, ◌-◌, length, drop, IsCharBoundary}
use Rattle.std.specs.Str.{chars}
use Rattle.rl_lenient.specs.Mirrors.UnitAt.{code_digits_at}
use Rattle.rl_lenient.proofs.units.more_digits.Given as goal

abbrev pub invariant-loop-next : goal.invariant-loop-next
invariant-loop-next l = record {
  last : IsCharBoundary l.text l.last;
  place : IsCharBoundary l.text l.at;
  same : code_digits_at l.value l.count (chars (drop l.last l.text)) (chars (drop l.at l.text))
      ≡ code_digits_at l.first 1 (chars (drop l.from l.text)) (chars (drop l.after l.text));
  few : l.count ≤ 6;
  some : 1 ≤ l.count;
  small : l.value < 16 ^ l.count;
  after : l.after ≤ l.at;
}

abbrev pub decreases-loop-next : goal.decreases-loop-next
decreases-loop-next l = length l.text - l.at
