use Rattle.std.proofs.Common.{rules}
use Rattle.rl_program.proofs.streams.text_of.Goals as goal

pub returns-in-Err-clause-rejection : goal.returns-in-Err-clause-rejection
returns-in-Err-clause-rejection g c = search rules steps 300000
