use Rattle.std.proofs.Common.{length, ◌≡◌}
use Rattle.rl_scan.proofs.AcceptLemmas.{HasRead}
use Rattle.rl_scan.proofs.errors.report_errors.Given as goal

abbrev pub invariant-loop-token : goal.invariant-loop-token
invariant-loop-token g l = record {
  same : l.tokens.text ≡ l.initial.tokens.text;
  follows : l.follower ≡ l.tokens.text;
  read : HasRead l.job l.tokens l.are_accepted;
}

abbrev pub decreases-loop-token : goal.decreases-loop-token
decreases-loop-token g l = length l.tokens.rest
