use Rattle.rl_syntax.proofs.Common.{chars, on_ok_weaker, sym, ◌∙◌}
use Rattle.rl_program.proofs.LineLemmas.{empty_end, end_joined}
use Rattle.rl_program.proofs.line.push_end.Goals as goal

pub returns-then-is_empty : goal.returns-then-is_empty
returns-then-is_empty g c = rw (empty_end c.args.suffix.now (sym c.is_empty.ensures ∙ c.if-is_empty.true))
    c.push.ensures

pub returns : goal.returns
returns g c = on_ok_weaker c.push-3.result (λ last. end_joined _ _ _ _ (chars c.args.suffix.now) c.in_ok-push.ensures
    c.in_ok-push_suffix.ensures last) c.push-3.ensures
