use Rattle.std.proofs.Common.{subst, sym}
use Rattle.std.specs.Str.{chars}
use Rattle.rust_literals.specs.ReadBack.{HoldsOrMemory}
use Rattle.rust_literals.specs.Parsing.{AreRead}
use Rattle.rust_literals.specs.Reprints.{SameButSpans}
use Rattle.rl_theorem.proofs.PrintedItems.{has_entries}
use Rattle.rl_theorem.proofs.read_again.Goals as goal

pub returns-in-Ok-clause-again : goal.returns-in-Ok-clause-again
returns-in-Ok-clause-again g c = λ spaced last same reprint.
    subst (λ ls. HoldsOrMemory (SameButSpans ls) c.read_all-in-Ok.result) same
    (c.read_all-in-Ok.ensures.again c.args.source.now 0 spaced last c.utf8.source
    (subst (λ ls. AreRead (chars c.args.source.now) 0 ls) (sym same) c.in-Ok.ensures.read) reprint)

pub returns-in-Err-clause-memory : goal.returns-in-Err-clause-memory
returns-in-Err-clause-memory g c = λ items last p.
    let has = has_entries (chars c.args.source.now) items last p in
    c.in-Err.ensures.printed has.entries last has.printed
