use Rattle.rl_syntax.proofs.Common.{refl, rules, IsUtf8}
use Rattle.rl_lenient.proofs.FoundLemmas.{float_found}
use Rattle.rl_lenient.proofs.found.float_found.Goals as goal

pub returns : goal.returns
returns c =
    let body : IsUtf8 c.before-body.result.now = search rules in
    float_found _ _ _ _ _ _ _ c.up_to.ensures c.utf8.text body c.requires.reads.1 c.requires.following
    c.before-body.ensures.cut refl c.is_plain_float.ensures
