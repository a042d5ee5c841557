use Rattle.rl_syntax.proofs.Common.{ap, chars, rules, subst, sym, ◌∙◌, ◌≡◌}
use Rattle.rl_lenient.specs.Bodies.{HasSingleBody}
use Rattle.rl_lenient.specs.Founds.{body_in}
use Rattle.rl_quoted.proofs.PlaceLemmas.{single_body}
use Rattle.rl_quoted.proofs.quoted.Quoted.between.Goals as goal

pub returns-clause-single : goal.returns-clause-single
returns-clause-single g c = λ s.
    let kind = g.K.QuotedKind.KIND in
    let t = c.self.inside.token.text in
    let body = c.self.inside.body in
    let same : c.range.result.now ≡ body_in t body = c.range.ensures.value ∙ ap (λ z. body_in z body) c.text.ensures in
    let text : t ≡ c.args.self.now.text = search rules in
    subst (λ z. HasSingleBody kind (chars z) c.range.result.now) text
    (subst (HasSingleBody kind (chars t)) (sym same) (single_body kind t body s c.self.invariant))
