use Rattle.rl_syntax.proofs.Common.{◌∙◌}
use Rattle.std.proofs.lemmas.Result.{IfOk-weaker}
use Rattle.rl_scan.proofs.AcceptLemmas.{file_read}
use Rattle.rl_scan.proofs.FixLemmas.{fixes_read}
use Rattle.rl_scan.proofs.run.Call.report_file.Goals as goal

pub returns-in-Ok-from_utf8-clause-fixes : goal.returns-in-Ok-from_utf8-clause-fixes
returns-in-Ok-from_utf8-clause-fixes g c =
    fixes_read (g.T.Tree.holds c.args.tree.now) c.args.path.now c.in-Ok.bytes.items c.in-Ok-from_utf8.source.now
    (g.F.Replace.handed c.args.files.now) (g.F.Replace.handed c.report_source.new.files)
    (c.in-Ok-from_utf8.ensures.cases.0 ∙ c.as_slice.ensures.value) c.in-Ok.ensures c.report_source.ensures.fixes

pub returns-in-Ok-from_utf8-clause-accepted : goal.returns-in-Ok-from_utf8-clause-accepted
returns-in-Ok-from_utf8-clause-accepted g c =
    IfOk-weaker c.report_source.result _ _ (λ accepted is h bad. file_read c.args.job (g.T.Tree.holds c.args.tree.now)
    c.args.path.now c.in-Ok.bytes.items c.in-Ok-from_utf8.source.now c.in-Ok.ensures
    (c.in-Ok-from_utf8.ensures.cases.0 ∙ c.as_slice.ensures.value) (is h bad)) c.report_source.ensures.accepted
