use Rattle.rl_strict.proofs.FileStrings.{token_of, unit_reads}
use Rattle.rl_strict.proofs.FrontLemmas.{bare_reads, bare_token}
use Rattle.rl_strict.proofs.ReadLemmas.{character_opens, string_opens}
use Rattle.rl_strict.proofs.strict_reading.read_at.Goals as goal

pub text_at-requires : goal.text_at-requires
text_at-requires c = string_opens _ _ c.in-Quote.ensures

pub returns-in-Bare-clause-reads : goal.returns-in-Bare-clause-reads
returns-in-Bare-clause-reads c = unit_reads c.args.ends _ _ _ _ (bare_token _ _ c.in-Bare.ensures)
    (bare_reads _ _ c.utf8.text c.in-Bare.ensures)

pub returns-in-Bare-clause-token : goal.returns-in-Bare-clause-token
returns-in-Bare-clause-token c = token_of c.args.ends _ (bare_token _ _ c.in-Bare.ensures)

pub unit_at-requires : goal.unit_at-requires
unit_at-requires c = character_opens _ _ c.in-Apostrophe.ensures.0

pub returns-in-Ok-number_at-clause-reads : goal.returns-in-Ok-number_at-clause-reads
returns-in-Ok-number_at-clause-reads c = c.in-Ok-number_at.ensures.reads c.args.ends

pub returns-in-Ok-number_at-clause-token : goal.returns-in-Ok-number_at-clause-token
returns-in-Ok-number_at-clause-token c = c.in-Ok-number_at.ensures.token c.args.ends

pub returns-in-Err-number_at-clause-flaw : goal.returns-in-Err-number_at-clause-flaw
returns-in-Err-number_at-clause-flaw c = c.in-Err-number_at.ensures.flaw c.args.ends
