use Rattle.rl_strict.proofs.Names.{◌∙◌, inr, sym, Ok, tail_step}
use Rattle.rl_strict.proofs.FileStrings.{minus_reads, signed_of}
use Rattle.rl_strict.proofs.FormReads.{minus_alone_flaw, minus_number_flaw}
use Rattle.rl_strict.proofs.ReadNumbers.{read_ok, read_token}
use Rattle.rl_strict.proofs.strict_reading.negative_at.Goals as goal

pub reading_of_number-requires : goal.reading_of_number-requires
reading_of_number-requires c = tail_step _ _ _ c.requires.following c.in-Ok.ensures.following

pub returns-in-Ok-clause-reads : goal.returns-in-Ok-clause-reads
returns-in-Ok-clause-reads c = λ ends.
    let digit = sym c.begins_digit.ensures ∙ c.if-begins_digit.true in
    minus_reads ends _ _ c.in-Ok.read _ c.reading_of_number.ensures c.requires.text
    (read_ok _ (Ok c.in-Ok.read) digit c.in-Ok.ensures.value)
    (tail_step _ _ _ c.requires.following c.in-Ok.ensures.following)
    (inr (_, c.requires.text, digit, read_token _ (Ok c.in-Ok.read) digit c.in-Ok.ensures.value))

pub returns-in-Ok-clause-token : goal.returns-in-Ok-clause-token
returns-in-Ok-clause-token c = λ ends.
    let digit = sym c.begins_digit.ensures ∙ c.if-begins_digit.true in
    signed_of ends _ (inr (_, c.requires.text, digit, read_token _ (Ok c.in-Ok.read) digit c.in-Ok.ensures.value))

pub returns-in-Err-clause-flaw : goal.returns-in-Err-clause-flaw
returns-in-Err-clause-flaw c = λ ends. minus_number_flaw ends _ _ _ _ c.requires.text
    (sym c.begins_digit.ensures ∙ c.if-begins_digit.true) c.in-Err.ensures.value

pub returns-else-begins_digit-clause-flaw : goal.returns-else-begins_digit-clause-flaw
returns-else-begins_digit-clause-flaw c = λ ends. minus_alone_flaw ends _ _ _ _ c.requires.text
    (sym c.begins_digit.ensures ∙ c.if-begins_digit.false) c.flaw_at_end_or_before-flaw.ensures
