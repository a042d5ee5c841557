use Rattle.std.proofs.Common.{IsTrue, ◌≡◌}
use Rattle.rl_scan.specs.Fixes.{Fixes}
use Rattle.rl_scan.specs.declared.modes.Mode.TheVariants.{Bad}
use Rattle.rl_scan.proofs.AcceptLemmas.{Leads}
use Rattle.rl_scan.proofs.run.Call.report_files.Given as goal

abbrev pub invariant-loop : goal.invariant-loop
invariant-loop g l = record {
  fixes : Fixes (g.T.Tree.holds l.tree) (g.F.Replace.handed l.initial.files) (g.F.Replace.handed l.files);
  accepted : IsTrue l.are_accepted → l.job.mode ≡ Bad
      → Leads l.job (g.T.Tree.holds l.tree) l.selection l.initial.walk l.walk;
}
