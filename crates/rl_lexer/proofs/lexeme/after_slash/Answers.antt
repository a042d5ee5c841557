use Rattle.rl_syntax.proofs.TailLemmas.{tail_self}
use Rattle.rl_lexer.proofs.lexeme.after_slash.Goals as goal

pub returns-in_default-clause-following : goal.returns-in_default-clause-following
returns-in_default-clause-following c = tail_self c.args.text.now c.utf8.text
