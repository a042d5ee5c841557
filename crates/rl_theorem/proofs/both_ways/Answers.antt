use Rattle.rl_theorem.proofs.StepLemmas.{same_at}
use Rattle.rl_theorem.proofs.both_ways.Goals as goal

pub returns-in-Ok-clause-same : goal.returns-in-Ok-clause-same
returns-in-Ok-clause-same g c = λ items last printed.
    same_at c.args.file 0 items c.in-Ok.literals.items c.args.n c.literal_at.result
    (c.in-Ok.ensures items last printed) (c.literal_at.ensures items last printed)

pub returns-in-Err-clause-memory : goal.returns-in-Err-clause-memory
returns-in-Err-clause-memory g c = λ items last printed. c.in-Err.ensures items last printed
