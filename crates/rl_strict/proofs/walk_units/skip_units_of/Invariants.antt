use Rattle.rl_strict.proofs.Names.{◌≡◌, false, length, Utf8, shadow, chars, BeginsStrictUnits, first_passes, IsRestOf, read_of}
use Rattle.rl_strict.proofs.StrictRowLemmas.{is_bare}
use Rattle.rl_strict.proofs.walk_units.skip_units_of.Given as goal

abbrev pub invariant-loop-after : goal.invariant-loop-after
invariant-loop-after l = record {
  utf8 : shadow (Utf8 l.rest);
  stops : first_passes (is_bare l.kind) (chars l.rest) ≡ false;
  run : BeginsStrictUnits l.kind (read_of l.ends (chars l.text)) (read_of l.ends (chars l.rest));
  is_rest : IsRestOf l.ends (chars l.text) (chars l.rest);
}

abbrev pub decreases-loop-after : goal.decreases-loop-after
decreases-loop-after l = length l.rest
