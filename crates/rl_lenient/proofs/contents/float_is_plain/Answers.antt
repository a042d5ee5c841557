use Rattle.rl_lenient.proofs.contents.float_is_plain.Goals as goal
use Rattle.rl_lenient.proofs.PlainNumberLemmas.{no_plain_float}

pub returns-in-None : goal.returns-in-None
returns-in-None c = no_plain_float _ c.in-None.ensures.none
