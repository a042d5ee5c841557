use Rattle.std.proofs.Common.{◌≡◌, reverse, length}
use Rattle.rl_flaws.specs.Before.{holds_comment}
use Rattle.rl_flaws.proofs.before.holds_comment.Given as goal

abbrev pub invariant-loop-left : goal.invariant-loop-left
invariant-loop-left l = holds_comment (reverse l.bytes) ≡ holds_comment (reverse l.left)

abbrev pub decreases-loop-left : goal.decreases-loop-left
decreases-loop-left l = length l.left
