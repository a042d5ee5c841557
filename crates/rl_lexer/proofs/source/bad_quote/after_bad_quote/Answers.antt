use Rattle.rl_syntax.proofs.TailLemmas.{tail_step, some_tail}
use Rattle.rl_lexer.proofs.source.bad_quote.after_bad_quote.Goals as goal

pub returns-in-Some-b-default-clause-following : goal.returns-in-Some-b-default-clause-following
returns-in-Some-b-default-clause-following c = some_tail _ c.args.text.now _ c.after_other.result
    (tail_step _ _ _ c.in-Some-b-default.ensures.following c.without_first_char.ensures.following)
    c.after_other.ensures.following
