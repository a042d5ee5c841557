use Rattle.rl_flaws.proofs.Theorems.{the_first_flaw_explains_the_text}
use Rattle.rl_flaws.proofs.laws.the_first_flaw_explains_the_text.Goals as goal

pub returns : goal.returns
returns c = the_first_flaw_explains_the_text
