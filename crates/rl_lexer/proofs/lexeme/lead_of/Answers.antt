use Rattle.rl_syntax.proofs.Common.{sym, ◌∙◌, arith}
use Rattle.rl_lexer.proofs.WordsAndMarks.{high_marks, high_words, low_marks}
use Rattle.rl_lexer.proofs.lexeme.lead_of.Goals as goal

pub returns-then-has_bit-clause-mark : goal.returns-then-has_bit-clause-mark
returns-then-has_bit-clause-mark c = λ _. sym (low_marks c.args.byte (omega (arith, c.if-byte-lt64.true)))
    ∙ sym c.if-has_bit.ensures

pub returns-then-has_bit-2-clause-word : goal.returns-then-has_bit-2-clause-word
returns-then-has_bit-2-clause-word c = λ _. high_words c.args.byte (omega (arith, c.if-byte-lt64.false)) c.requires
    (sym c.if-has_bit-2.ensures)

pub returns-then-has_bit-3-clause-mark : goal.returns-then-has_bit-3-clause-mark
returns-then-has_bit-3-clause-mark c = λ _. sym (high_marks c.args.byte (omega (arith, c.if-byte-lt64.false))
    c.requires) ∙ sym c.if-has_bit-3.ensures
