use Rattle.rl_syntax.proofs.Common.{[], arith, common_steps, string_bytes, take, ◌++◌, ◌+◌, ◌∷◌, ◌≡◌}
use Rattle.rl_uses.proofs.RewriteLemmas.{lines_more}
use Rattle.rl_uses.proofs.ShortageLemmas.{short_at}
use Rattle.rl_uses.proofs.rewrite.lines.Goals as goal

pub loop-literal-preserved : goal.loop-literal-preserved
loop-literal-preserved g c =
    let literals = c.args.literals.now in
    let i = c.loop-literal.literal-index in
    let l = c.literal-item.result in
    let grown : take (i + 1) literals ≡ take i literals ++ (l ∷ []) = grind (arith, common_steps) in
    rw grown (lines_more (take i literals) l (string_bytes c.loop-literal.out) (string_bytes c.push_line.new.out)
    c.loop-literal.invariant c.in_ok-push_line.ensures.line)

pub returns-in_err-push_line-clause-memory : goal.returns-in_err-push_line-clause-memory
returns-in_err-push_line-clause-memory g c =
    short_at c.args.literals.now c.loop-literal.literal-index c.literal-item.result c.from_residual.result
    c.in_err-push_line.field-0.0 c.loop-literal-test.true c.literal-item.is c.in_err-push_line.ensures.memory
    c.from_residual.ensures.1
