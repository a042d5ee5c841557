use Rattle.rl_syntax.proofs.Common.{Ok, chars, length}
use Rattle.rl_attributes.proofs.EntryLemmas.{exactly}
use Rattle.rl_attributes.proofs.attributes.whole.read.Goals as goal

pub returns-in-Some-clause-exactly : goal.returns-in-Some-clause-exactly
returns-in-Some-clause-exactly g c = exactly (chars c.args.text.now) c.args.file (length c.args.text.now)
    (Ok c.in-Some.attrs) c.in-Some.ensures.attributes tt

pub returns-in-None-clause-exactly : goal.returns-in-None-clause-exactly
returns-in-None-clause-exactly g c = exactly (chars c.args.text.now) c.args.file (length c.args.text.now)
    c.read_trees.result c.read_trees.ensures.attributes c.read_trees.ensures.rejected
