use Rattle.rl_syntax.proofs.Common.{chars}
use Rattle.rl_restyle.proofs.KindLemmas.{of_kinds}
use Rattle.rl_restyle.proofs.texts.is_of_kinds.Goals as goal

pub returns-in-Some : goal.returns-in-Some
returns-in-Some c = rw c.in-Some.is (of_kinds c.contains.result c.in-Some.kinds (chars c.args.text.now) c.kind_of.result
    c.kind_of.ensures c.contains.ensures.value)
