use Rattle.rl_syntax.proofs.Common.{◌≡◌, ◌++◌, ◌+◌, ◌≤◌, length, string_bytes}
use Rattle.std.specs.Prelude.{string_capacity, string_len}
use Rattle.rl_syntax.proofs.WritingLemmas.{begun}
use Rattle.rl_tokens.proofs.writer.push_characters.Given as goal

abbrev pub invariant-loop-c : goal.invariant-loop-c
invariant-loop-c g l = record {
  bytes : string_bytes l.out ≡ string_bytes l.fn.out ++ begun l.kind l.yielded;
  len : string_len l.out ≡ string_len l.fn.out + length (begun l.kind l.yielded);
  capacity : string_capacity l.fn.out ≤ string_capacity l.out;
}
