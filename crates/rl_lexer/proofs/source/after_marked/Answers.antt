use Rattle.rl_syntax.proofs.TailLemmas.{some_tail}
use Rattle.rl_lexer.proofs.source.after_marked.Goals as goal

pub returns-in-Some-eq35-default-clause-following : goal.returns-in-Some-eq35-default-clause-following
returns-in-Some-eq35-default-clause-following c = some_tail _ c.args.text.now c.in-Some-eq35-default.following.now
    c.after_name.result c.in-Some-eq35-default.ensures.following c.after_name.ensures.following
