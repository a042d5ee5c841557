use Rattle.rl_syntax.proofs.Common.{IsUtf8, inl, refl, rules}
use Rattle.rl_fronts.proofs.ByteContents.{plain_contents_bytes}
use Rattle.rl_quoted.proofs.lit_byte_str.LitByteStr+A.value_ref.Goals as goal

pub returns-then-plain-clause-some : goal.returns-then-plain-clause-some
returns-then-plain-clause-some g c =
    let body : IsUtf8 c.body-plain.result.0.now = search rules in
    rw c.as_bytes.ensures.value (plain_contents_bytes _ _ _ _ (inl refl) c.if-plain.true c.body-plain.ensures.stands
    body)
