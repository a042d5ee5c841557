use Rattle.rl_syntax.proofs.TailLemmas.{some_tail}
use Rattle.rl_lexer.proofs.lexeme.literal_or_identifier.Goals as goal

pub returns-in-b-clause-following : goal.returns-in-b-clause-following
returns-in-b-clause-following c = some_tail _ c.args.text.now c.without_first_char.result.now c.quoted_literal.result
    c.without_first_char.ensures.following c.quoted_literal.ensures.following

pub returns-in-b-2-clause-following : goal.returns-in-b-2-clause-following
returns-in-b-2-clause-following c = some_tail _ c.args.text.now c.without_first_char-in-b-2.result.now
    c.character_literal.result c.without_first_char-in-b-2.ensures.following c.character_literal.ensures.following

pub returns-in-b-3-clause-following : goal.returns-in-b-3-clause-following
returns-in-b-3-clause-following c = some_tail _ c.args.text.now c.without_first_char-in-b-3.result.now c.raw_literal.result
    c.without_first_char-in-b-3.ensures.following c.raw_literal.ensures.following
