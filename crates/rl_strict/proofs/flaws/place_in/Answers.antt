use Rattle.rl_strict.proofs.Names.{rules}
use Rattle.rl_strict.proofs.flaws.place_in.Goals as goal

pub returns-in-Some : goal.returns-in-Some
returns-in-Some c = search rules steps 300000
