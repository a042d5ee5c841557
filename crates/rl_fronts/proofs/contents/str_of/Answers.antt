use Rattle.rl_syntax.proofs.Common.{refl}
use Rattle.rl_lenient.proofs.Names.{IfOk-weaker, Str}
use Rattle.rl_lenient.proofs.FoundContents.{string_body}
use Rattle.rl_fronts.proofs.contents.str_of.Goals as goal

pub parse_known_literal-found-requires : goal.parse_known_literal-found-requires
parse_known_literal-found-requires g c = (Str, c.requires)

pub str_of_body-requires : goal.str_of_body-requires
str_of_body-requires g c =
    let f = c.parse_known_literal-found.ensures in
    (_, string_body Str _ _ _ c.body_in.ensures.body (f.kind Str c.requires) refl f.found)

pub returns-clause-reads : goal.returns-clause-reads
returns-clause-reads g c =
    let f = c.parse_known_literal-found.ensures in
    let has = string_body Str _ _ _ c.body_in.ensures.body (f.kind Str c.requires) refl f.found in
    IfOk-weaker c.str_of_body.result _ _ (λ s h. h _ has) c.str_of_body.ensures.value
