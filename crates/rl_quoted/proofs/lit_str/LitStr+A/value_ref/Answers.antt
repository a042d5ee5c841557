use Rattle.rl_syntax.proofs.Common.{IsUtf8, rules}
use Rattle.rl_lenient.proofs.BodyContents.{plain_contents}
use Rattle.rl_quoted.proofs.lit_str.LitStr+A.value_ref.Goals as goal

pub returns-then-plain-clause-some : goal.returns-then-plain-clause-some
returns-then-plain-clause-some g c =
    let body : IsUtf8 c.body-plain.result.0.now = search rules in
    plain_contents _ _ c.if-plain.true body _ c.body-plain.ensures.stands

pub returns-else-plain-clause-some : goal.returns-else-plain-clause-some
returns-else-plain-clause-some g c = search rules steps 400000

pub returns-else-plain-clause-plain : goal.returns-else-plain-clause-plain
returns-else-plain-clause-plain g c = search rules steps 400000
