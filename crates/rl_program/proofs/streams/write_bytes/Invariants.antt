use Rattle.std.proofs.Common.{length}
use Rattle.rl_program.proofs.StreamLemmas.{IsWritten}
use Rattle.rl_program.proofs.streams.write_bytes.Given as goal

abbrev pub invariant-loop-rest : goal.invariant-loop-rest
invariant-loop-rest g l = IsWritten (g.W.Write.contents l.initial.out) (g.W.Write.contents l.out) l.bytes l.rest

abbrev pub decreases-loop-rest : goal.decreases-loop-rest
decreases-loop-rest g l = length l.rest
