use Rattle.rl_strict.proofs.Names.{Text, false}
use Rattle.rl_strict.proofs.FilePlaces.{explained}
use Rattle.rl_strict.proofs.ReadLemmas.{string_opens}
use Rattle.rl_strict.proofs.strict_reading.read_string.Goals as goal

pub text_at-requires : goal.text_at-requires
text_at-requires c = string_opens _ _ c.requires

pub flaw_with_offsets-requires : goal.flaw_with_offsets-requires
flaw_with_offsets-requires c = record { piece = c.in-Err.ensures.flaw.piece_in; rest = c.in-Err.ensures.flaw.rest_in }

pub returns-in-Err-clause-flaw : goal.returns-in-Err-clause-flaw
returns-in-Err-clause-flaw c =
    let at = c.flaw_with_offsets.ensures in
    explained Text false _ _ _ _ c.flaw_with_offsets.result c.in-Err.ensures.flaw at.kind at.from at.lo at.hi at.ordered
