use Rattle.rl_strict.proofs.Names.{subst, sym, read_of, IsFlawOf, IsReadingOf, IsTokenIf, chars}
use Rattle.rl_strict.proofs.FileStrings.{reads_signed}
use Rattle.rl_strict.proofs.FormReads.{flaw_signed, token_signed}
use Rattle.rl_strict.proofs.strict_reading.signed_at.Goals as goal

pub returns-in-Ok-clause-reads : goal.returns-in-Ok-clause-reads
returns-in-Ok-clause-reads c = subst (λ b. IsReadingOf c.args.ends b c.args.text.now c.in-Ok.reading)
    (sym c.in-Some.ensures.some.0) (c.in-Ok.ensures.reads c.args.ends)

pub returns-in-Ok-clause-token : goal.returns-in-Ok-clause-token
returns-in-Ok-clause-token c = subst (λ b. IsTokenIf b (read_of c.args.ends (chars c.args.text.now)))
    (sym c.in-Some.ensures.some.0) (c.in-Ok.ensures.token c.args.ends)

pub returns-in-Err-clause-flaw : goal.returns-in-Err-clause-flaw
returns-in-Err-clause-flaw c = subst (λ b. IsFlawOf c.args.ends b (chars c.args.text.now) c.in-Err.flaw.kind
    (chars c.in-Err.flaw.piece.now) (chars c.in-Err.flaw.rest.now)) (sym c.in-Some.ensures.some.0)
    (c.in-Err.ensures.flaw c.args.ends)

pub returns-in-Ok-read_at-clause-reads : goal.returns-in-Ok-read_at-clause-reads
returns-in-Ok-read_at-clause-reads c = reads_signed c.args.ends c.args.signed _ _ c.in-Ok-read_at.ensures.reads

pub returns-in-Ok-read_at-clause-token : goal.returns-in-Ok-read_at-clause-token
returns-in-Ok-read_at-clause-token c = token_signed c.args.signed _ c.in-Ok-read_at.ensures.token

pub returns-in-Err-read_at-clause-flaw : goal.returns-in-Err-read_at-clause-flaw
returns-in-Err-read_at-clause-flaw c = flaw_signed c.args.ends c.args.signed _ _ _ _ c.in-None.ensures.none
    c.in-Err-read_at.ensures.flaw
