-- The loop's invariant: the slice contains the written forms of the characters so far, and has room for those of the other
-- characters.
use Rattle.rl_syntax.proofs.Common.{◌≡◌, ◌+◌, ◌*◌, ◌≤◌, ◌++◌, ℕ, List, take, length, Utf8, shadow, chars, IsUtf8}
use Rattle.rl_syntax.specs.declared.kind.Kind.TheVariants.{Str}
use Rattle.rl_syntax.proofs.WritingLemmas.{begun}
use Rattle.rl_syntax.proofs.written_into.write_str_into.Given as goal

abbrev pub invariant-loop-c : goal.invariant-loop-c
invariant-loop-c l = record {
  utf8 : shadow (Utf8 l.rest);
  passed : (xs : List ℕ) × (chars l.value ≡ xs ++ chars l.rest) × (take l.at l.out ≡ begun Str xs);
  text : IsUtf8 (take l.at l.out);
  room : l.at + 4 * length l.rest ≤ 4 * length l.value + 2;
  len : length l.out ≡ length l.initial.out;
}

abbrev pub decreases-loop-c : goal.decreases-loop-c
decreases-loop-c l = length l.rest
