use Rattle.rl_syntax.proofs.Common.{inl, inr}
use Rattle.rl_lenient.proofs.Names.{IfOk-weaker, ByteStr, CStr}
use Rattle.rl_lenient.proofs.FoundContents.{bytes_body, one_of_two}
use Rattle.rl_fronts.proofs.contents.bytes_of.Goals as goal

pub parse_known_literal-found-requires : goal.parse_known_literal-found-requires
parse_known_literal-found-requires g c = elim c.requires [ inl r ↦ (ByteStr, r) | inr r ↦ (CStr, r) ]

pub bytes_of_body-requires-clause-kind : goal.bytes_of_body-requires-clause-kind
bytes_of_body-requires-clause-kind g c =
    let f = c.parse_known_literal-found.ensures in
    elim c.requires [ inl r ↦ inl (f.kind ByteStr r) | inr r ↦ inr (f.kind CStr r) ]

pub bytes_of_body-requires-clause-body : goal.bytes_of_body-requires-clause-body
bytes_of_body-requires-clause-body g c =
    let f = c.parse_known_literal-found.ensures in
    (_, bytes_body _ _ _ c.body_in.ensures.body f.kind f.found c.requires)

pub returns-clause-reads : goal.returns-clause-reads
returns-clause-reads g c =
    let f = c.parse_known_literal-found.ensures in
    let has = bytes_body _ _ _ c.body_in.ensures.body f.kind f.found c.requires in
    IfOk-weaker c.bytes_of_body.result _ _ (λ b h. one_of_two _ _ _ f.kind c.requires (h _ has))
    c.bytes_of_body.ensures.value
