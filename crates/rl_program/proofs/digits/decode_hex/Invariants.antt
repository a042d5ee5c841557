use Rattle.std.proofs.Common.{◌≡◌, length}
use Rattle.rl_program.specs.Digits.{with_front, bytes_of}
use Rattle.rl_program.proofs.digits.decode_hex.Given as goal

abbrev pub invariant-loop-high : goal.invariant-loop-high
invariant-loop-high g l = bytes_of l.digits ≡ with_front l.bytes.items (bytes_of l.rest)

abbrev pub decreases-loop-high : goal.decreases-loop-high
decreases-loop-high g l = length l.rest
