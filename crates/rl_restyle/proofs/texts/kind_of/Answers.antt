use Rattle.rl_lenient.proofs.FoundLemmas.{found_reads}
use Rattle.rl_restyle.proofs.texts.kind_of.Goals as goal

pub returns-in-Some : goal.returns-in-Some
returns-in-Some c = found_reads c.args.text.now c.in-Some.found c.in-Some.ensures.found
