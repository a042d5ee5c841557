use Rattle.std.proofs.lemmas.Result.{IfOk-at_ok}
use Rattle.rl_scan.proofs.FixLemmas.{fixes_shown}
use Rattle.rl_scan.proofs.run.Call.rewrite.Goals as goal

pub returns-in-Ok-rewritten : goal.returns-in-Ok-rewritten
returns-in-Ok-rewritten g c = record {
  fixes = fixes_shown c.args.path.now c.args.source.now _ _ _ _ _ _
      (IfOk-at_ok _ c.in-Ok-rewritten.is c.rewrite_source-rewritten.ensures.restyled) c.as_str.ensures.value
      c.print_changes.ensures.handed;
}
