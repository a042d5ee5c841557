-- The loop's invariant: the slice contains the new forms of the characters and escapes read so far. The slice has space for
-- those that are still unread.
use Rattle.rl_syntax.proofs.Common.{◌≡◌, ◌≤◌, ◌+◌, List, take, length}
use denote.Text.{Utf8}
use denote.Shadow.{shadow}
use Rattle.std.specs.Str.{chars}
use Rattle.rl_syntax.specs.Strict.{StrictUnit}
use Rattle.rl_style.specs.Mirrors.{AreUnits}
use Rattle.rl_style.specs.Rewriting.{grown}
use Rattle.rl_style.proofs.UnitRows.{UnitsPassed}
use Rattle.rl_style.proofs.cooked.put_units.Given as goal

abbrev pub invariant-loop-piece : goal.invariant-loop-piece
invariant-loop-piece l = record {
  utf8 : shadow (Utf8 l.rest);
  passed : (us : List StrictUnit) → AreUnits l.kind us (chars l.inside)
      → UnitsPassed l.style l.kind us (chars l.rest) (take l.end l.out) (take l.fn.at l.initial.out);
  room : l.end + grown l.style (length l.rest) ≤ l.fn.at + grown l.style (length l.inside);
  len : length l.out ≡ length l.initial.out;
}

abbrev pub decreases-loop-piece : goal.decreases-loop-piece
decreases-loop-piece l = length l.rest
