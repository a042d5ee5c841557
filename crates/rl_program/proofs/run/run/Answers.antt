use Rattle.rl_syntax.proofs.Common.{IfErr-weaker, IsUtf8-string_bytes, on_ok_weaker, string_bytes}
use Rattle.rl_program.proofs.RunLemmas.{rejection_error, prints_known, begins_known}
use Rattle.rl_program.proofs.run.run.Goals as goal

pub returns-in-Err-clause-error : goal.returns-in-Err-clause-error
returns-in-Err-clause-error g c = rejection_error c.args.command _ _ c.in_ok-bytes.bytes.items c.in-Err.error
    c.in_ok-bytes.ensures.bytes c.in-Err.ensures.rejection

pub returns-clause-printed : goal.returns-clause-printed
returns-clause-printed g c =
    on_ok_weaker c.write_whole.result (λ all. prints_known c.args.command _ _ _ c.in_ok-bytes.bytes.items
    (string_bytes c.in-Ok.lines) c.in_ok-bytes.ensures.bytes c.in-Ok.ensures.utf8 c.in-Ok.ensures.lines
    (IsUtf8-string_bytes c.in-Ok.lines) all) (rw c.as_bytes.ensures.value at c.write_whole.ensures.all)

pub returns-clause-error : goal.returns-clause-error
returns-clause-error g c =
    IfErr-weaker c.write_whole.result _ _ (begins_known c.args.command _ _ _ c.in_ok-bytes.bytes.items
    (string_bytes c.in-Ok.lines) c.in_ok-bytes.ensures.bytes c.in-Ok.ensures.utf8 c.in-Ok.ensures.lines
    (IsUtf8-string_bytes c.in-Ok.lines)) (rw c.as_bytes.ensures.value at c.write_whole.ensures.beginning)
