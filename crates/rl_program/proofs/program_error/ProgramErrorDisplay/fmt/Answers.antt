use Rattle.rl_program.proofs.program_error.ProgramErrorDisplay.fmt.Goals as goal

pub returns-in-Literal-clause-writes : goal.returns-in-Literal-clause-writes
returns-in-Literal-clause-writes g c = rw c.in-Literal.is c.write-in-Literal.ensures.writes
