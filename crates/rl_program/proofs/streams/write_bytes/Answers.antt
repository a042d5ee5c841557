use Rattle.std.proofs.Common.{rules}
use Rattle.rl_program.proofs.StreamLemmas.{written_more, written_beginning, none_kept, slice_rest}
use Rattle.rl_program.proofs.streams.write_bytes.Goals as goal

pub loop-rest-preserved : goal.loop-rest-preserved
loop-rest-preserved g c = written_more _ _ _ _ _ _ _ c.loop-rest.invariant c.in-Ok.ensures.bytes
    (slice_rest c.in-Ok.count c.loop-rest.rest.now)

pub returns-in-Ok-eq0-clause-beginning : goal.returns-in-Ok-eq0-clause-beginning
returns-in-Ok-eq0-clause-beginning g c = written_beginning _ _ _ _ _ c.loop-rest.invariant
    (none_kept _ _ _ c.in-Ok-eq0.field-0 (search rules) c.in-Ok-eq0.ensures.bytes)

pub returns-in-Err-clause-beginning : goal.returns-in-Err-clause-beginning
returns-in-Err-clause-beginning g c = written_beginning _ _ _ _ _ c.loop-rest.invariant c.in-Err.ensures.bytes
