use Rattle.rl_syntax.proofs.Common.{chars, on_ok_weaker}
use Rattle.rl_program.proofs.LineLemmas.{line_joined}
use Rattle.rl_program.proofs.line.push_line.Goals as goal

pub returns : goal.returns
returns g c = on_ok_weaker c.push_end.result (λ end. line_joined _ _ _ _ _ (chars c.args.word.now)
    (chars c.args.shown.now) (chars c.args.suffix.now) c.in_ok-push.ensures c.in_ok-push-2.ensures
    c.in_ok-push-3.ensures end) c.push_end.ensures
