use Rattle.rl_strict.proofs.Names.{Text, false}
use Rattle.rl_strict.proofs.FilePlaces.{explained}
use Rattle.rl_strict.proofs.strict_reading.read_unsigned_number.Goals as goal

pub flaw_with_offsets-requires : goal.flaw_with_offsets-requires
flaw_with_offsets-requires c = record { piece = (c.in-Err.ensures.flaw Text).piece_in; rest = (c.in-Err.ensures.flaw Text).rest_in }

pub returns-in-Err-clause-flaw : goal.returns-in-Err-clause-flaw
returns-in-Err-clause-flaw c =
    let at = c.flaw_with_offsets.ensures in
    explained Text false _ _ _ _ c.flaw_with_offsets.result (c.in-Err.ensures.flaw Text) at.kind at.from at.lo at.hi at.ordered

pub returns-in-Ok-clause-reads : goal.returns-in-Ok-clause-reads
returns-in-Ok-clause-reads c = c.in-Ok.ensures.reads Text

pub returns-in-Ok-clause-token : goal.returns-in-Ok-clause-token
returns-in-Ok-clause-token c = c.in-Ok.ensures.token Text
