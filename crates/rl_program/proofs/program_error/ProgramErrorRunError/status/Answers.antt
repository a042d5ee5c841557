use Rattle.std.proofs.Common.{rules}
use Rattle.rl_program.proofs.program_error.ProgramErrorRunError.status.Goals as goal

pub returns-in_default : goal.returns-in_default
returns-in_default g c = search rules steps 300000
