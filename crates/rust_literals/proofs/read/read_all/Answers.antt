use Rattle.rl_syntax.proofs.Common.{Ok, [], chars, length, rules}
use Rattle.rust_literals.proofs.ReadLemmas.{text_exactly}
use Rattle.rust_literals.proofs.PrintedLemmas.{printed_read}
use Rattle.rust_literals.proofs.AgainLemmas.{again_read}
use Rattle.rust_literals.proofs.FlatLemmas.{one_read}
use Rattle.rust_literals.proofs.read.read_all.Goals as goal

pub returns-in-Ok-clause-exactly : goal.returns-in-Ok-clause-exactly
returns-in-Ok-clause-exactly g c list a = one_read (chars c.args.text.now) c.args.file c.in-Ok.literals.items list
    c.in-Ok.ensures.whole a

pub returns-in-Ok-clause-printed : goal.returns-in-Ok-clause-printed
returns-in-Ok-clause-printed g c = printed_read c.args.text.now c.args.file (Ok c.in-Ok.literals) c.utf8.text
    (returns-in-Ok-clause-exactly g c)

pub returns-in-Ok-clause-again : goal.returns-in-Ok-clause-again
returns-in-Ok-clause-again g c = again_read c.args.text.now c.args.file (Ok c.in-Ok.literals)
    (returns-in-Ok-clause-exactly g c)

pub returns-in-Err-clause-read : goal.returns-in-Err-clause-read
returns-in-Err-clause-read g c = c.read_from.ensures.read []
    (record { begun = c.in-Err.ensures.begun; count_is = search rules })

pub returns-in-Err-clause-rejected : goal.returns-in-Err-clause-rejected
returns-in-Err-clause-rejected g c = c.read_from.ensures.rejected []
    (record { begun = c.in-Err.ensures.begun; count_is = search rules })

pub returns-in-Err-clause-exactly : goal.returns-in-Err-clause-exactly
returns-in-Err-clause-exactly g c =
    text_exactly (chars c.args.text.now) c.args.file (length c.args.text.now) c.read_from.result
    (returns-in-Err-clause-read g c) (returns-in-Err-clause-rejected g c)

pub returns-in-Err-clause-printed : goal.returns-in-Err-clause-printed
returns-in-Err-clause-printed g c = printed_read c.args.text.now c.args.file c.read_from.result c.utf8.text
    (returns-in-Err-clause-exactly g c)

pub returns-in-Err-clause-again : goal.returns-in-Err-clause-again
returns-in-Err-clause-again g c = again_read c.args.text.now c.args.file c.read_from.result
    (returns-in-Err-clause-exactly g c)
