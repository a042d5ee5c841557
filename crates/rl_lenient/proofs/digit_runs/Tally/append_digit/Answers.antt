use Rattle.rl_syntax.proofs.Common.{common_steps, ◌+◌, ◌*◌, ap, ◌∙◌, arith}
use Rattle.rl_lenient.specs.Mirrors.NumberAt.{append_digit}
use Rattle.rl_lenient.proofs.TallyLemmas.{append_last}
use Rattle.rl_lenient.proofs.digit_runs.Tally.append_digit.Goals as goal

pub returns-in-Some : goal.returns-in-Some
returns-in-Some c =
    let t = c.self.inside in
    let r = c.args.radix in
    let scale = c.in-Some.ensures.1 ∙ ap (λ n. t.scale * n) c.from.ensures in
    ap (λ s. append_digit s t.front (t.last * c.from-in-Some.result + c.from-in-Some-2.result)) scale
    ∙ ap (λ n. append_digit (t.scale * r) t.front (t.last * n + c.from-in-Some-2.result)) c.from-in-Some.ensures
    ∙ ap (λ d. append_digit (t.scale * r) t.front (t.last * r + d)) c.from-in-Some-2.ensures
    ∙ append_last t.scale r t.front t.last c.args.digit (omega arith)
    ∙ ap (λ m. append_digit r m c.args.digit) c.self.view_is

pub overflow_mul-self-inside : goal.overflow_mul-self-inside
overflow_mul-self-inside c = grind (arith, common_steps) steps 200000

pub overflow_add-self-inside : goal.overflow_add-self-inside
overflow_add-self-inside c = grind (arith, common_steps) steps 200000
