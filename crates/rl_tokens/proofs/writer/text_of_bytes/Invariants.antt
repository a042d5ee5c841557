use Rattle.rl_syntax.proofs.Common.{◌≡◌, string_bytes, take}
use Rattle.rl_syntax.proofs.WritingLemmas.{begun}
use Rattle.rl_tokens.proofs.writer.text_of_bytes.Given as goal

abbrev pub invariant-loop-byte : goal.invariant-loop-byte
invariant-loop-byte g l = string_bytes l.text ≡ begun l.kind (take l.byte-index l.value)
