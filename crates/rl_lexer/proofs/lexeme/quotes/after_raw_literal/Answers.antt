-- Each text that `after_raw_literal` returns is the end of the given text.
use Rattle.rl_syntax.proofs.TailLemmas.{tail_step}
use Rattle.rl_lexer.proofs.lexeme.quotes.after_raw_literal.Goals as goal

pub returns-clause-following : goal.returns-clause-following
returns-clause-following c =
    let t = c.args.text.now in
    let opener = c.skip_hashes-opener.result.now in
    let body = c.without_first_char.result.now in
    let rest = c.in_ok-rest.rest.now in
    tail_step t rest c.after_suffix.result.now
    (tail_step t body rest (tail_step t opener body c.skip_hashes-opener.ensures.following
    c.without_first_char.ensures.following) c.in_ok-rest.ensures.following)
    c.after_suffix.ensures.following
