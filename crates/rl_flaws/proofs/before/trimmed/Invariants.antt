use Rattle.std.proofs.Common.{◌≡◌, ◌≤◌, reverse, length}
use Rattle.rl_flaws.specs.Before.{kept}
use Rattle.rl_flaws.proofs.before.trimmed.Given as goal

abbrev pub invariant-loop-left : goal.invariant-loop-left
invariant-loop-left l =
    (kept l.part (reverse l.bytes) ≡ kept l.part (reverse l.left)) × (length l.left ≤ length l.bytes)

abbrev pub decreases-loop-left : goal.decreases-loop-left
decreases-loop-left l = length l.left
