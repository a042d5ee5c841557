use Rattle.rl_syntax.proofs.Common.{on_ok_weaker}
use Rattle.rl_program.proofs.BareLemmas.{bare_pieces}
use Rattle.rl_program.proofs.line.push_unescaped_line.Goals as goal

pub returns : goal.returns
returns g c = on_ok_weaker c.push-3.result (λ last. bare_pieces _ _ _ _ c.args.value.now c.in_ok-push.ensures
    c.in_ok-push-2.ensures last) c.push-3.ensures
