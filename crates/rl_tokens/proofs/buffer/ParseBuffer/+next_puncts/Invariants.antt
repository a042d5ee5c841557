use Rattle.std.proofs.Common.{length}
use Rattle.rl_tokens.proofs.buffer.ParseBuffer.+next_puncts.Given as goal

abbrev pub decreases-next_puncts : goal.decreases-next_puncts
decreases-next_puncts g l = length l.marks.now
