use Rattle.rl_strict.proofs.FilePlaces.{explained}
use Rattle.rl_strict.proofs.strict_reading.read.Goals as goal

pub flaw_with_offsets-requires : goal.flaw_with_offsets-requires
flaw_with_offsets-requires c = record { piece = c.in-Err.ensures.flaw.piece_in; rest = c.in-Err.ensures.flaw.rest_in }

pub returns-in-Err-clause-flaw : goal.returns-in-Err-clause-flaw
returns-in-Err-clause-flaw c =
    let at = c.flaw_with_offsets.ensures in
    explained c.args.ends c.args.signed _ _ _ _ c.flaw_with_offsets.result c.in-Err.ensures.flaw at.kind at.from at.lo at.hi
    at.ordered
