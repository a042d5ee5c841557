use Rattle.rl_syntax.proofs.Common.{sym, ap, ◌∙◌, arith, count_trailing_zeros}
use Rattle.rl_syntax.specs.Mirrors.StopsAt.{goes_on}
use Rattle.rl_syntax.proofs.LaneLemmas.{run_through, run_stops, said, stops_opposite}
use Rattle.rl_syntax.proofs.scan.stop_by.Goals as goal

pub returns-then-found-ne0 : goal.returns-then-found-ne0
returns-then-found-ne0 g c =
    let found = c.stops_among-found in
    let run = run_stops _ (goes_on (said g.row.HIGH) c.args.marks) (stops_opposite (said g.row.HIGH) c.args.marks)
    c.args.bytes.now c.loop-at.at g.row.N (omega arith) (omega arith) (omega (arith, found.ensures))
    ∙ ap (count_trailing_zeros 64) (sym found.ensures) in
    omega (arith, run, c.loop-at.invariant.run)

pub loop-at-preserved : goal.loop-at-preserved
loop-at-preserved g c =
    let run = run_through _ (goes_on (said g.row.HIGH) c.args.marks) (stops_opposite (said g.row.HIGH) c.args.marks)
    c.args.bytes.now c.loop-at.at g.row.N (omega arith) (omega (arith, c.stops_among-found.ensures)) in
    record { run = omega (arith, run, c.loop-at.invariant.run); in_range = omega arith }
