use Rattle.rl_syntax.proofs.Common.{chars}
use Rattle.rl_lexer.proofs.LexemeAnswers.{lexeme_found, lexeme_none}
use Rattle.rl_lexer.proofs.lexeme.rebuilt_lexeme.Goals as goal

pub returns-clause-found : goal.returns-clause-found
returns-clause-found c =
    rw c.rebuilt.ensures (lexeme_found (chars c.args.text.now) c.lexeme_but_number.result
    c.lexeme_but_number.ensures.rest)

pub returns-clause-none : goal.returns-clause-none
returns-clause-none c =
    rw c.rebuilt.ensures (lexeme_none (chars c.args.text.now) c.lexeme_but_number.result
    c.lexeme_but_number.ensures.rest)
