-- The loop's invariant: the whole text needs as many hashes as the passed text or the remaining text, whichever needs more.
-- A raw string may contain all passed characters.
use Rattle.rl_syntax.proofs.Common.{◌≡◌, ◌+◌, ◌≤◌, length, list_all, chars, Utf8, shadow}
use Rattle.rl_writing.specs.Mirrors.RawSteps.{raw_may_contain}
use Rattle.rl_writing.proofs.HashLemmas.{needed_from, needed_in}
use Rattle.rl_writing.proofs.raw_strings.min_raw_hashes.Given as goal

abbrev pub invariant-loop-c : goal.invariant-loop-c
invariant-loop-c l = record {
  utf8 : shadow (Utf8 l.rest);
  needed : needed_in (chars l.text) ≡ needed_from l.needed l.opened (chars l.rest);
  stand : list_all (raw_may_contain l.kind) (chars l.text) ≡ list_all (raw_may_contain l.kind) (chars l.rest);
  opened : l.opened ≤ l.needed;
  short : l.opened + length l.rest ≤ length l.text;
}

abbrev pub decreases-loop-c : goal.decreases-loop-c
decreases-loop-c l = length l.rest
