use Rattle.rl_syntax.proofs.Common.{◌∙◌, arith}
use Rattle.rl_syntax.proofs.UnlikelyLanes.{likely_ascii, likely_low, likely_past}
use Rattle.rl_syntax.proofs.lanes.is_likely.Goals as goal

pub returns-then-byte-lt64 : goal.returns-then-byte-lt64
returns-then-byte-lt64 c = c.has_bit.ensures ∙ likely_low c.args.byte (omega (arith, c.if-byte-lt64.true))

pub returns-then-byte-lt128 : goal.returns-then-byte-lt128
returns-then-byte-lt128 c = c.has_bit-then-byte-lt128.ensures
    ∙ likely_ascii c.args.byte (omega (arith, c.if-byte-lt64.false)) (omega (arith, c.if-byte-lt128.true))

pub returns-else-byte-lt128 : goal.returns-else-byte-lt128
returns-else-byte-lt128 c = likely_past c.args.byte (omega (arith, c.if-byte-lt128.false))
