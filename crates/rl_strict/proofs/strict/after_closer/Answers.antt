use Rattle.rl_strict.proofs.Names.{chars}
use Rattle.rl_lenient.proofs.OptionLemmas.{none_then}
use Rattle.rl_strict.proofs.StrictRawLemmas.{quote_without_hashes}
use Rattle.rl_strict.proofs.strict.after_closer.Goals as goal

pub returns-then-c-eq34-clause-none : goal.returns-then-c-eq34-clause-none
returns-then-c-eq34-clause-none c = none_then c.after_prefix.result
    (quote_without_hashes (chars c.args.hashes.now) c.args.c (chars c.args.after.now)) c.after_prefix.ensures.none
