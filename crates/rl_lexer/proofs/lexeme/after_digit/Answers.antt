use Rattle.rl_syntax.proofs.Common.{chars}
use Rattle.rl_lexer.proofs.NumberEnds.{number_short, number_long}
use Rattle.rl_lexer.proofs.lexeme.after_digit.Goals as goal

pub returns-then-ends_number-clause-rest : goal.returns-then-ends_number-clause-rest
returns-then-ends_number-clause-rest c =
    λ digit. number_short digit (chars c.args.text.now) (chars c.after_digits-rest.result.now)
    c.after_digits-rest.ensures.rest (c.ends_number.ensures c.if-ends_number.true)

pub returns-clause-rest : goal.returns-clause-rest
returns-clause-rest c =
    λ digit. number_long digit (chars c.args.text.now) (chars c.after_digits-rest.result.now)
    (chars c.after_decimal.result.now) c.after_digits-rest.ensures.rest c.after_decimal.ensures.rest
