use Rattle.rl_syntax.proofs.TailLemmas.{tail_step}
use Rattle.rl_lexer.proofs.lexeme.quotes.after_character.Goals as goal

pub returns-clause-following : goal.returns-clause-following
returns-clause-following c = tail_step c.args.text.now c.in_ok-rest.rest.now c.after_suffix.result.now
    c.in_ok-rest.ensures.following c.after_suffix.ensures.following
