use Rattle.std.proofs.Common.{arith}
use Rattle.rl_program.proofs.StreamLemmas.{consumed_all}
use Rattle.rl_program.proofs.streams.read_whole.Goals as goal

pub returns-in-Ok-eq0-clause-bytes : goal.returns-in-Ok-eq0-clause-bytes
returns-in-Ok-eq0-clause-bytes g c = consumed_all _ _ _ c.loop.bytes.items _ c.in-Ok-eq0.field-0 c.loop.invariant
    c.in-Ok-eq0.field-0-test c.in-Ok-eq0.ensures.bytes (omega arith)
