use Rattle.rl_tokens.proofs.NestLemmas.{ends_in_group}
use Rattle.rl_tokens.proofs.nest.TreeBuilder.finish.Goals as goal

pub returns-in-Some-clause-err : goal.returns-in-Some-clause-err
returns-in-Some-clause-err g c =
    rw c.new.ensures (ends_in_group c.args.self c.pop.new.self.items c.in-Some.innermost c.in-Some.ensures.items)
