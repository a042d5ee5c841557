use Rattle.rl_strict.proofs.Names.{hex_flaw_at, common_steps, arith}
use Rattle.rl_strict.proofs.quoted_flaws.hex_flaw.Goals as goal

pub returns-in-Some-to_digit : goal.returns-in-Some-to_digit
unfolding hex_flaw_at
returns-in-Some-to_digit c = grind (arith, common_steps) steps 1000000

pub returns-in-Some-2 : goal.returns-in-Some-2
unfolding hex_flaw_at
returns-in-Some-2 c = grind (arith, common_steps) steps 1000000
