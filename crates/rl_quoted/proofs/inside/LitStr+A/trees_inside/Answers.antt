use Rattle.rl_syntax.proofs.Common.{ap, chars, inl, ◌∙◌}
use Rattle.rl_syntax.specs.declared.span.Span.{Span}
use Rattle.rl_quoted.proofs.InsideLemmas.{are_inside, refuses_lexing}
use Rattle.rl_quoted.proofs.inside.LitStr+A.trees_inside.Goals as goal

pub returns-in-Ok-clause-ok : goal.returns-in-Ok-clause-ok
returns-in-Ok-clause-ok g c =
    are_inside c.args.placing c.args.self.now _ c.as_str.result.now c.file.result _ _ c.in_ok-value.ensures.value
    (ap chars c.as_str.ensures.value) (c.file.ensures ∙ ap (λ (s : Span). s.file) c.span.ensures) c.in-Ok.ensures.ok
    c.in_ok-place_trees-in-Ok.ensures.moved

pub returns-clause-rejected : goal.returns-clause-rejected
returns-clause-rejected g c =
    inl (refuses_lexing c.args.placing c.args.self.now _ c.as_str.result.now c.file.result c.reported_at.result
    c.in-Err.error
    c.in_ok-value.ensures.value (ap chars c.as_str.ensures.value)
    (c.file.ensures ∙ ap (λ (s : Span). s.file) c.span.ensures) c.reported_at.ensures c.in-Err.ensures.rejected)
