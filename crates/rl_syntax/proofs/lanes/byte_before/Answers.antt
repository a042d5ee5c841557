use Rattle.rl_syntax.proofs.Common.{arith}
use Rattle.rl_syntax.proofs.UnlikelyLanes.{byte_before-inside}
use Rattle.rl_syntax.proofs.lanes.byte_before.Goals as goal

pub returns-else-at-eq0 : goal.returns-else-at-eq0
returns-else-at-eq0 c = byte_before-inside c.args.bytes.now c.args.at (omega (arith, c.if-at-eq0.false)) c.requires
