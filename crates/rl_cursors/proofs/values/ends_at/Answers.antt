use Rattle.rl_cursors.proofs.NextValueLemmas.{whole_utf8}
use Rattle.rl_cursors.proofs.values.ends_at.Goals as goal

pub returns-in-Some-clause-utf8 : goal.returns-in-Some-clause-utf8
returns-in-Some-clause-utf8 c = whole_utf8 c.args.minus_at c.args.text.now c.utf8.text

pub returns-in-None-clause-utf8 : goal.returns-in-None-clause-utf8
returns-in-None-clause-utf8 c = whole_utf8 c.args.minus_at c.args.text.now c.utf8.text
