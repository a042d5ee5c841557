use Rattle.std.proofs.Common.{rules}
use Rattle.rl_program.proofs.command.Command.from_name.Goals as goal

pub returns-in-read-clause-known : goal.returns-in-read-clause-known
returns-in-read-clause-known c = search rules steps 300000
