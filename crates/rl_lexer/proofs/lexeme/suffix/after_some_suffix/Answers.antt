use Rattle.rl_syntax.proofs.Common.{rules}
use Rattle.rl_syntax.proofs.TailLemmas.{tail_self, tail_step}
use Rattle.rl_lexer.proofs.lexeme.suffix.after_some_suffix.Goals as goal

pub returns-in-Some-clause-following : goal.returns-in-Some-clause-following
returns-in-Some-clause-following c = tail_step c.args.text.now c.in-Some.following.now c.skip_class.result.now
    c.in-Some.ensures.following c.skip_class.ensures.following

pub returns-in_default-clause-following : goal.returns-in_default-clause-following
returns-in_default-clause-following c = tail_self c.args.text.now c.utf8.text

pub returns-in_default-clause-rest : goal.returns-in_default-clause-rest
returns-in_default-clause-rest c = search rules steps 300000
