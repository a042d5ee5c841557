use Rattle.rl_syntax.proofs.TailLemmas.{tail_self}
use Rattle.rl_lexer.proofs.lexeme.suffix.after_suffix.Goals as goal

pub returns-in-Some-clause-following : goal.returns-in-Some-clause-following
returns-in-Some-clause-following c = tail_self c.args.text.now c.utf8.text
