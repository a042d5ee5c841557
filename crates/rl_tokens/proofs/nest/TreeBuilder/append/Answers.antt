use Rattle.rl_syntax.proofs.Common.{refl}
use Rattle.rl_tokens.proofs.NestLemmas.{takes_tree}
use Rattle.rl_tokens.proofs.nest.TreeBuilder.append.Goals as goal

pub returns-clause-ok : goal.returns-clause-ok
returns-clause-ok g c = takes_tree c.args.self.now _ c.args.tree refl refl c.in_default.ensures.ok
