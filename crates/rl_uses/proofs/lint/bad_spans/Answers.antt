use Rattle.rl_syntax.proofs.Common.{[], arith, common_steps, take, ◌++◌, ◌+◌, ◌∷◌, ◌≡◌}
use Rattle.rust_literals.specs.LitParts.{lit_span}
use Rattle.rl_uses.proofs.LintLemmas.{bad_spans_same, bad_spans_more}
use Rattle.rl_uses.proofs.ShortageLemmas.{short_at}
use Rattle.rl_uses.proofs.lint.bad_spans.Goals.{then-branch+else-is_err, else-branch}
use Rattle.rl_uses.proofs.lint.bad_spans.Goals as goal

pub loop-literal-preserved : goal.loop-literal-preserved
loop-literal-preserved g c =
    let literals = c.args.literals.now in
    let i = c.loop-literal.literal-index in
    let l = c.literal-item.result in
    let grown : take (i + 1) literals ≡ take i literals ++ (l ∷ []) = grind (arith, common_steps) in
    elim c.if-branch.branch [
      | then-branch+else-is_err w ↦
          let more : c.if-branch.spans.items ≡ c.loop-literal.spans.items
          ++ (lit_span l ∷ []) = grind (arith, common_steps) in
          rw (grown, more) (bad_spans_more (take i literals) l c.loop-literal.spans.items c.loop-literal.invariant
          (rw w.if-branch.true at c.in_ok-is_bad.ensures.tells))
      | else-branch w ↦
          rw (grown, w.spans-is) (bad_spans_same (take i literals) l c.loop-literal.spans.items c.loop-literal.invariant
          (rw w.if-branch.false at c.in_ok-is_bad.ensures.tells))
    ]

pub returns-in_err-is_bad-clause-memory : goal.returns-in_err-is_bad-clause-memory
returns-in_err-is_bad-clause-memory g c =
    short_at c.args.literals.now c.loop-literal.literal-index c.literal-item.result c.from_residual.result
    c.in_err-is_bad.field-0.0 c.loop-literal-test.true c.literal-item.is c.in_err-is_bad.ensures.memory
    c.from_residual.ensures.1
