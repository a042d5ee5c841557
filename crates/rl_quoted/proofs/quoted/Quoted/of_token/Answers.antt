use Rattle.std.proofs.lemmas.Option.{MatchOption-at_some}
use Rattle.rl_lenient.specs.Founds.{IsFound}
use Rattle.rl_quoted.proofs.PlaceLemmas.{found_kind}
use Rattle.rl_quoted.proofs.quoted.Quoted.of_token.Goals as goal

pub of_found-requires-clause-kind : goal.of_found-requires-clause-kind
of_found-requires-clause-kind g c =
    let found = MatchOption-at_some _ (IsFound c.text.result.now) _ c.unwrap-found.ensures c.parse_literal.ensures.found in
    found_kind g.K.QuotedKind.KIND c.text.result.now c.unwrap-found.result (rw c.text.ensures c.requires) found
