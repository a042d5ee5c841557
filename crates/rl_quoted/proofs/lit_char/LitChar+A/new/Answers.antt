use Rattle.rl_syntax.proofs.Common.{arith, common_steps, rules}
use Rattle.rl_quoted.proofs.lit_char.LitChar+A.new.Goals as goal

pub written-requires-clause-written : goal.written-requires-clause-written
written-requires-clause-written g c = search rules steps 400000

pub returns-in-Ok-clause-text : goal.returns-in-Ok-clause-text
returns-in-Ok-clause-text g c = grind (arith, common_steps) steps 400000
