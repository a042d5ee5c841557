use Rattle.rl_strict.proofs.Names.{◌≡◌, ◌≤◌, ◌++◌, replicate, IsTail, length, Utf8, shadow, chars}
use Rattle.rl_strict.proofs.walk.split_raw_opening.Given as goal

abbrev pub invariant-loop-first : goal.invariant-loop-first
invariant-loop-first l = record {
  utf8 : shadow (Utf8 l.rest);
  following : IsTail l.inside l.rest;
  few : l.count ≤ 255;
  hashes : chars l.inside ≡ replicate l.count 35 ++ chars l.rest;
}

abbrev pub decreases-loop-first : goal.decreases-loop-first
decreases-loop-first l = length l.rest
