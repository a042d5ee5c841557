use Rattle.rl_syntax.proofs.Common.{ap, chars, rules, subst, sym, ◌∙◌, ◌≡◌}
use Rattle.rl_lenient.specs.Bodies.{HasBody}
use Rattle.rl_lenient.specs.Founds.{body_in}
use Rattle.rl_quoted.proofs.PlaceLemmas.{has_body}
use Rattle.rl_quoted.proofs.quoted.Quoted.body.Goals as goal

pub returns-clause-stands : goal.returns-clause-stands
returns-clause-stands g c =
    let kind = g.K.QuotedKind.KIND in
    let t = c.self.inside.token.text in
    let body = c.self.inside.body in
    let same : c.range.result.now ≡ body_in t body = c.range.ensures.value ∙ ap (λ z. body_in z body) c.text.ensures in
    let text : t ≡ c.args.self.now.text = search rules in
    let has = has_body kind t body c.requires c.self.invariant in
    subst (λ z. HasBody kind (chars z) c.range.result.now body.plain) text
    (subst (λ z. HasBody kind (chars t) z body.plain) (sym same) has)
