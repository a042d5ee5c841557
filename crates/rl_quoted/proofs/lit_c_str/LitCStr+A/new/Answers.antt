use Rattle.std.proofs.Common.{rules}
use Rattle.rl_quoted.proofs.lit_c_str.LitCStr+A.new.Goals as goal

pub returns-clause-memory : goal.returns-clause-memory
returns-clause-memory g c = search rules steps 400000
