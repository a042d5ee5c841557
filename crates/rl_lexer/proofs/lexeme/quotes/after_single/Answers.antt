use Rattle.rl_syntax.proofs.TailLemmas.{tail_step, some_tail}
use Rattle.rl_lexer.proofs.lexeme.quotes.after_single.Goals as goal

pub returns-then-c-eq92-clause-following : goal.returns-then-c-eq92-clause-following
returns-then-c-eq92-clause-following c =
    some_tail _ _ _ c.after_apostrophe.result (tail_step _ _ _ c.in_ok-c.ensures.following
    c.in_ok-second.ensures.following) c.after_apostrophe.ensures.following

pub returns-then-second-eq39-clause-following : goal.returns-then-second-eq39-clause-following
returns-then-second-eq39-clause-following c = tail_step _ _ _ c.in_ok-c.ensures.following
    c.in_ok-second.ensures.following
