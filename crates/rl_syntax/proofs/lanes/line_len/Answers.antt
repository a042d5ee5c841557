use Rattle.rl_syntax.proofs.Common.{sym, ap, ◌∙◌, arith, count_trailing_zeros}
use Rattle.rl_syntax.specs.Scanning.{is_one_of, is_other, line_ends}
use Rattle.rl_syntax.proofs.LaneLemmas.{not-not, run_through, run_stops}
use Rattle.rl_syntax.proofs.lanes.line_len.Goals as goal

pub returns-then-found-ne0 : goal.returns-then-found-ne0
returns-then-found-ne0 c =
    let found = c.line_ends_among-found in
    let run = run_stops (is_one_of line_ends) (is_other line_ends) (λ k. sym (not-not (is_one_of line_ends k)))
    c.args.bytes.now c.loop-at.at 16 (omega arith) (omega arith) (omega (arith, found.ensures))
    ∙ ap (count_trailing_zeros 64) (sym found.ensures) in
    omega (arith, run, c.loop-at.invariant.run)

pub loop-at-preserved : goal.loop-at-preserved
loop-at-preserved c =
    let run = run_through (is_one_of line_ends) (is_other line_ends) (λ k. sym (not-not (is_one_of line_ends k)))
    c.args.bytes.now c.loop-at.at 16 (omega arith) (omega (arith, c.line_ends_among-found.ensures)) in
    record { run = omega (arith, run, c.loop-at.invariant.run); in_range = omega arith }
