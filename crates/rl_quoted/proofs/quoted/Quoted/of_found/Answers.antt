use Rattle.rl_quoted.proofs.PlaceLemmas.{stands_at}
use Rattle.rl_quoted.proofs.quoted.Quoted.of_found.Goals as goal

pub invariant_of-result : goal.invariant_of-result
invariant_of-result g c = stands_at _ _ _ c.requires.kind c.requires.found
