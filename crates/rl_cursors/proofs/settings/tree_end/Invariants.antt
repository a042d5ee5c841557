use Rattle.rl_syntax.proofs.Common.{◌+◌, ◌≤◌, length}
use Rattle.rl_lexer.specs.Cursors.{form_view}
use Rattle.rl_cursors.specs.SettingSteps.{depth_after}
use Rattle.rl_cursors.proofs.SettingLemmas.{Leads}
use Rattle.rl_cursors.proofs.settings.tree_end.Given as goal

abbrev pub invariant-loop-depth : goal.invariant-loop-depth
invariant-loop-depth l = record {
  leads : Leads l.depth l.end l.ahead (depth_after (form_view l.fn.form) 0) l.hi l.following;
  shallow : l.depth + length l.ahead.rest ≤ 1 + length l.following.rest;
}

abbrev pub decreases-loop-depth : goal.decreases-loop-depth
decreases-loop-depth l = length l.ahead.rest
