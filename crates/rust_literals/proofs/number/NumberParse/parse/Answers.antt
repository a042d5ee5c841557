use Rattle.std.proofs.Common.{◌≡◌, ap, ◌∙◌}
use Rattle.rl_tokens.proofs.TreeRests.{rest_none}
use Rattle.rl_syntax.specs.Words.{kind_word}
use Rattle.rust_literals.proofs.HeldLemmas.{is_found_number}
use Rattle.rust_literals.proofs.number.NumberParse.parse.Goals as goal

pub returns-in-Err-clause-runs : goal.returns-in-Err-clause-runs
returns-in-Err-clause-runs g c =
    let word : c.description.result.now ≡ kind_word g.K.NumberKind.KIND = c.description.ensures ∙ ap kind_word c.KIND-2.ensures in
    rw (← word, ← c.KIND.ensures) c.in-Err.ensures.runs

pub of_found-requires-clause-found : goal.of_found-requires-clause-found
of_found-requires-clause-found g c =
    is_found_number g.K.NumberKind.KIND c.in-Ok.taken.0.text c.in-Ok.taken.1 g.met.K.NumberKind.is_number
    (c.in-Ok.ensures.kind ∙ c.KIND.ensures) c.in-Ok.ensures.found

pub returns-clause-rest : goal.returns-clause-rest
returns-clause-rest g c = rest_none _ _ c.fork-before.ensures.trees
