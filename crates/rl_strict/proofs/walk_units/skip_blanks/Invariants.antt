use Rattle.rl_strict.proofs.Names.{◌≡◌, ◌≤◌, false, length, after_run, first_passes, is_dropped_blank, Utf8, shadow, chars, IsRestOf, read_of}
use Rattle.rl_strict.proofs.walk_units.skip_blanks.Given as goal

abbrev pub invariant-loop-after : goal.invariant-loop-after
invariant-loop-after l = record {
  utf8 : shadow (Utf8 l.rest);
  same : after_run is_dropped_blank (read_of l.ends (chars l.rest)) ≡ after_run is_dropped_blank (read_of l.ends (chars l.text));
  stops : first_passes is_dropped_blank (chars l.rest) ≡ false;
  is_rest : IsRestOf l.ends (chars l.text) (chars l.rest);
  shorter : length l.rest ≤ length l.text;
}

abbrev pub decreases-loop-after : goal.decreases-loop-after
decreases-loop-after l = length l.rest
