use Rattle.rl_syntax.proofs.Common.{◌∷◌, subst, sym}
use Rattle.rl_lenient.specs.Founds.{IsFound}
use Rattle.rl_lenient.proofs.FoundLemmas.{Of}
use Rattle.rl_lenient.proofs.MinusFoundLemmas.{negative_found}
use Rattle.rl_lenient.proofs.found.parse_with_added_minus.Goals as goal

pub returns-clause-found : goal.returns-clause-found
returns-clause-found c =
    let t = c.args.text.now in
    let f = c.in_ok-found.found in
    let h = c.in_ok-found.ensures in
    subst (λ body. IsFound (45 ∷ t) (Of f.kind body f.magnitude)) (sym c.up_to.ensures)
    (negative_found t f c.utf8.text h.unsigned h.found h.number)
