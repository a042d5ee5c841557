use Rattle.rl_quoted.proofs.PlacedLemmas.{moved_at_literal}
use Rattle.rl_quoted.proofs.inside.LitStr+A.place_trees.Goals as goal

pub returns-in-AtLiteral-clause-moved : goal.returns-in-AtLiteral-clause-moved
returns-in-AtLiteral-clause-moved g c = moved_at_literal c.args.placing c.args.self.now _ _ _ c.in-AtLiteral.is
    c.span.ensures c.respan.ensures
