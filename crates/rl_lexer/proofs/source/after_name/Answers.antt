use Rattle.rl_syntax.proofs.TailLemmas.{tail_step}
use Rattle.rl_lexer.proofs.source.after_name.Goals as goal

pub returns-in-Some-clause-following : goal.returns-in-Some-clause-following
returns-in-Some-clause-following c = tail_step _ c.in-Some.following.now _ c.in-Some.ensures.following
    c.skip_id_continue.ensures.following
