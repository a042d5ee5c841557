use Rattle.std.proofs.Common.{◌≡◌}
use Rattle.rl_scan.proofs.follower.Follower.is_in_call_at.Given as goal

abbrev pub invariant-loop : goal.invariant-loop
invariant-loop l = l.self ≡ l.initial.self
