use Rattle.rl_strict.proofs.Names.{◌∙◌, ap, sym, chars, found_flaw}
use Rattle.rl_strict.proofs.FormReads.{minus_word, other_word}
use Rattle.rl_strict.proofs.strict_reading.word_flaw.Goals as goal

pub returns-then-begins_with_char : goal.returns-then-begins_with_char
returns-then-begins_with_char c = λ ends. minus_word ends _ _ _ _ c.requires.no_number c.requires.no_opener c.requires.no_truth
    (sym c.begins_with_char.ensures ∙ c.if-begins_with_char.true) c.make_flaw.ensures.0 (ap chars c.make_flaw.ensures.2)
    (ap chars c.make_flaw.ensures.1)

pub returns-else-begins_with_char : goal.returns-else-begins_with_char
returns-else-begins_with_char c = λ ends. other_word ends _ _ _ _ c.requires.no_number c.requires.no_opener
    c.requires.no_truth (sym c.begins_with_char.ensures ∙ c.if-begins_with_char.false) (ap (λ k. found_flaw k (chars
    c.with_piece.result.rest.now)) c.with_piece.ensures.0 ∙ ap (λ z. found_flaw c.non_literal_flaw.result.kind (chars z))
    c.with_piece.ensures.1 ∙ c.non_literal_flaw.ensures) (ap chars c.with_piece.ensures.2)
