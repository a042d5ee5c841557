use Rattle.rl_syntax.proofs.Common.{arith, common_steps}
use Rattle.rl_tokens.proofs.token.Group.inside.Goals as goal

pub returns-clause-trees : goal.returns-clause-trees
returns-clause-trees g c = grind (arith, common_steps)

pub returns-clause-scope : goal.returns-clause-scope
returns-clause-scope g c = grind (arith, common_steps)
