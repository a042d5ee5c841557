use Rattle.rl_syntax.proofs.Common.{chars, on_ok_weaker}
use Rattle.rl_program.specs.Lines.{verbatim_line}
use Rattle.rl_program.proofs.PrintLemmas.{verbatim_chars, no_chars, appends_is}
use Rattle.rl_program.proofs.line.push_verbatim_line.Goals as goal

pub returns : goal.returns
returns g c =
    on_ok_weaker c.push_quoted.result (λ e. appends_is (verbatim_line (chars c.args.text.now)) _ _
    (rw (no_chars, verbatim_chars) at e)) c.push_quoted.ensures
