use Rattle.rl_syntax.proofs.Common.{sym, ap, ◌∙◌, arith, count_trailing_zeros}
use Rattle.rl_syntax.specs.Mirrors.RunsAt.{is_run_byte}
use Rattle.rl_syntax.proofs.LaneLemmas.{run_stops, said}
use Rattle.rl_syntax.proofs.RunLanes.{ends_opposite}
use Rattle.rl_syntax.proofs.lanes.run_len.Goals as goal

pub returns-then-found-ne0 : goal.returns-then-found-ne0
returns-then-found-ne0 g c =
    let found = c.ends_among-found in
    let run = run_stops _ (is_run_byte (said g.row.WORD)) (ends_opposite (said g.row.WORD)) c.args.bytes.now 0 16
    (omega arith) (omega arith) (omega (arith, found.ensures)) ∙ ap (count_trailing_zeros 64) (sym found.ensures) in
    omega (arith, run)
