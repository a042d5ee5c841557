use Rattle.rl_syntax.proofs.Common.{chars, on_ok_weaker}
use Rattle.rl_syntax.specs.declared.kind.Kind.TheVariants.{Str}
use Rattle.rl_syntax.specs.Written.{written_text}
use Rattle.rl_program.proofs.LineLemmas.{line_joined}
use Rattle.rl_program.proofs.line.push_quoted.Goals as goal

pub returns : goal.returns
returns g c = on_ok_weaker c.push_end.result (λ end. line_joined _ _ _ _ _ (chars c.args.word.now)
    (written_text Str (chars c.args.text.now)) (chars c.args.suffix.now) c.in_ok-push.ensures c.in_ok-push-2.ensures
    c.in_ok-push_str_literal.ensures.text end) c.push_end.ensures
