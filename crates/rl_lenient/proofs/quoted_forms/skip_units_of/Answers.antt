use Rattle.rl_syntax.proofs.Common.{subst, sym, rules}
use Rattle.std.specs.Str.{chars}
use Rattle.rl_lenient.specs.UnitRuns.{BeginsRun}
use Rattle.rl_lenient.proofs.RowLemmas.{row_step, row_run}
use Rattle.rl_lenient.proofs.quoted_forms.skip_units_of.Goals as goal

pub loop-after-preserved : goal.loop-after-preserved
loop-after-preserved c =
    let cut = c.split_plain.ensures in
    let (v, run) = c.loop-after.invariant.run in
    let unit = row_step _ _ v _ _ run (sym c.in-Some.ensures.value) in
    record { utf8 = search rules; run = (_, row_run _ _ _ _ _ cut.plain (subst (BeginsRun c.args.kind (chars c.args.text.now) _) cut.cut unit)) }
