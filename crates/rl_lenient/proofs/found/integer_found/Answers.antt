use Rattle.rl_syntax.proofs.Common.{refl, rules, IsUtf8}
use Rattle.rl_lenient.proofs.FoundLemmas.{integer_found}
use Rattle.rl_lenient.proofs.found.integer_found.Goals as goal

pub returns-clause-found : goal.returns-clause-found
returns-clause-found c =
    let body : IsUtf8 c.before-body.result.now = search rules in
    integer_found _ _ _ _ _ _ _ c.up_to.ensures c.utf8.text body c.requires.within c.requires.following
    c.before-body.ensures.cut refl c.is_plain_integer.ensures
