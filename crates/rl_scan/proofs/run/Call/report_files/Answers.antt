use Rattle.rl_files.specs.Walks.{visited}
use Rattle.rl_scan.proofs.AcceptLemmas.{leads_end, leads_more, leads_start}
use Rattle.rl_scan.proofs.FixLemmas.{fixes_both, fixes_none}
use Rattle.rl_scan.proofs.run.Call.report_files.Goals as goal

pub loop-init : goal.loop-init
loop-init g c = record {
  fixes = fixes_none (g.T.Tree.holds c.args.tree.now) (g.F.Replace.handed c.args.files.now);
  accepted = λ h bad. leads_start c.args.self.now.job (g.T.Tree.holds c.args.tree.now) c.args.selection c.args.walk.now;
}

pub loop-preserved : goal.loop-preserved
loop-preserved g c =
    let holds = g.T.Tree.holds c.args.tree.now in
    record {
      fixes = fixes_both holds _ _ _ c.loop.invariant.fixes c.in_ok-is_accepted-in-Ok-Some.ensures.fixes;
      accepted = λ h bad. leads_more c.args.self.now.job holds c.args.selection c.args.walk.now c.loop.walk c.next.new.self
          (visited c.in-Ok-Some.visit) (c.loop.invariant.accepted (c.both-are_accepted.ensures h).1 bad)
          (rw c.in-Ok-Some.field-0-is at c.in-Ok-Some.ensures)
          (c.in_ok-is_accepted-in-Ok-Some.ensures.accepted (c.both-are_accepted.ensures h).0 bad);
    }

pub returns-in-Ok-None-clause-accepted : goal.returns-in-Ok-None-clause-accepted
returns-in-Ok-None-clause-accepted g c = λ h bad.
    leads_end c.args.self.now.job (g.T.Tree.holds c.args.tree.now) c.args.selection c.args.walk.now c.loop.walk
    (c.loop.invariant.accepted h bad) (rw c.in-Ok-None.field-0-is at c.in-Ok-None.ensures)
