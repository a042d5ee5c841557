use Rattle.rl_strict.proofs.Names.{Ok}
use Rattle.rl_strict.proofs.FileStrings.{number_reads, token_of}
use Rattle.rl_strict.proofs.FormReads.{number_flaw}
use Rattle.rl_strict.proofs.ReadNumbers.{read_ok, read_token}
use Rattle.rl_strict.proofs.strict_reading.number_at.Goals as goal

pub returns-in-Ok-clause-reads : goal.returns-in-Ok-clause-reads
returns-in-Ok-clause-reads c = λ ends. number_reads ends _ c.in-Ok.number _ c.reading_of_number.ensures
    (read_ok _ (Ok c.in-Ok.number) c.requires c.in-Ok.ensures.value) c.in-Ok.ensures.following
    (read_token _ (Ok c.in-Ok.number) c.requires c.in-Ok.ensures.value)

pub returns-in-Ok-clause-token : goal.returns-in-Ok-clause-token
returns-in-Ok-clause-token c = λ ends. token_of ends _ (read_token _ (Ok c.in-Ok.number) c.requires c.in-Ok.ensures.value)

pub returns-in-Err-clause-flaw : goal.returns-in-Err-clause-flaw
returns-in-Err-clause-flaw c = λ ends. number_flaw ends _ _ _ c.requires c.in-Err.ensures.value
