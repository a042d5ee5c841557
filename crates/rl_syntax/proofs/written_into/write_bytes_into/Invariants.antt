-- The loop's invariant: the slice contains the written forms of the characters so far, and has room for those of the other
-- characters.
use Rattle.rl_syntax.proofs.Common.{◌≡◌, ◌+◌, ◌*◌, ◌≤◌, take, length, IsUtf8}
use Rattle.rl_syntax.proofs.WritingLemmas.{begun}
use Rattle.rl_syntax.proofs.written_into.write_bytes_into.Given as goal

abbrev pub invariant-loop-byte : goal.invariant-loop-byte
invariant-loop-byte l = record {
  passed : take l.at l.out ≡ begun l.kind (take l.byte-index l.value);
  text : IsUtf8 (take l.at l.out);
  room : l.at ≤ 4 * l.byte-index + 2;
  len : length l.out ≡ length l.initial.out;
}
