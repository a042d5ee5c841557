use Rattle.rl_lenient.proofs.FoundLemmas.{found_reads}
use Rattle.rl_fronts.proofs.front.Front.kind.Goals as goal

pub returns-clause-some : goal.returns-clause-some
returns-clause-some g c = found_reads _ _ c.in_ok-found.ensures.found
