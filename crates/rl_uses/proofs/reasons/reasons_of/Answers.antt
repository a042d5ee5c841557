use Rattle.rl_syntax.proofs.Common.{[], arith, common_steps, rules, take, ◌++◌, ◌+◌, ◌∷◌, ◌≡◌}
use Rattle.rl_uses.specs.Reasons.{HasValue, IsReasonOf}
use Rattle.rl_uses.proofs.ReasonLemmas.{reasons_same, reasons_more}
use Rattle.rl_uses.proofs.reasons.reasons_of.Goals.{in-Some+else-is_err, in_default}
use Rattle.rl_uses.proofs.reasons.reasons_of.Goals as goal

pub loop-literal-preserved : goal.loop-literal-preserved
loop-literal-preserved g c =
    let literals = c.args.literals.now in
    let i = c.loop-literal.literal-index in
    let l = c.literal-item.result in
    let grown : take (i + 1) literals ≡ take i literals ++ (l ∷ []) = grind (arith, common_steps) in
    elim c.match-reason_of.branch [
      | in-Some+else-is_err w ↦
          let some : IsReasonOf l w.in-Some.reason = search rules in
          let more : c.match-reason_of.reasons.items ≡ c.loop-literal.reasons.items
          ++ (w.in-Some.reason ∷ []) = grind (arith, common_steps) in
          rw (grown, more) (reasons_more (take i literals) l c.loop-literal.reasons.items w.in-Some.reason
          c.loop-literal.invariant some)
      | in_default w ↦
          let none : HasValue l = search rules in
          rw (grown, w.reasons-is) (reasons_same (take i literals) l c.loop-literal.reasons.items
          c.loop-literal.invariant none)
    ]
