use Rattle.rl_strict.proofs.Names.{◌≡◌, length, Utf8, shadow, chars, IsRestOf, read_of, raw_stop}
use Rattle.rl_strict.proofs.walk.parse_raw_content.Given as goal

abbrev pub invariant-loop-c : goal.invariant-loop-c
invariant-loop-c l = record {
  utf8 : shadow (Utf8 l.closing);
  same : raw_stop l.kind (chars l.hashes) (read_of l.ends (chars l.closing)) ≡ raw_stop l.kind (chars l.hashes) (read_of l.ends (chars l.text));
  is_rest : IsRestOf l.ends (chars l.text) (chars l.closing);
}

abbrev pub decreases-loop-c : goal.decreases-loop-c
decreases-loop-c l = length l.closing
