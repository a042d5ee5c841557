use Rattle.rl_syntax.proofs.Common.{subst, sym}
use Rattle.rl_lenient.specs.Founds.{IsFound}
use Rattle.rl_lenient.proofs.FoundLemmas.{OfTruth, truth_found}
use Rattle.rl_lenient.proofs.found.parse_bool_literal.Goals as goal

pub returns-clause-found : goal.returns-clause-found
returns-clause-found c =
    let t = c.args.text.now in
    subst (λ body. IsFound t (OfTruth body c.in_ok-truth.truth)) (sym c.up_to.ensures)
    (truth_found t c.in_ok-truth.truth c.utf8.text c.in_ok-truth.ensures.some c.in_ok-truth.ensures.bytes)
