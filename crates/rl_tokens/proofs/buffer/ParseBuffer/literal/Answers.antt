use Rattle.rl_syntax.proofs.Common.{◌∙◌, ap, arith, map, common_steps}
use Rattle.rl_tokens.specs.Trees.{tree_view}
use Rattle.rl_tokens.proofs.TreeRests.{rest_one, rest_self, stays_tail}
use Rattle.rl_tokens.proofs.TreeLemmas.{first_taken, tree_view-literal}
use Rattle.rl_tokens.proofs.buffer.ParseBuffer.literal.Goals as goal

pub returns-in-Literal-clause-rest : goal.returns-in-Literal-clause-rest
returns-in-Literal-clause-rest g c = rest_one _ _ (tree_view c.in_ok-first.first.now)
    (ap (map tree_view) c.in_ok-first.ensures.cases.0)

pub returns-in_default-clause-rest : goal.returns-in_default-clause-rest
returns-in_default-clause-rest g c = rest_self _

pub returns-in-Literal-clause-onward : goal.returns-in-Literal-clause-onward
returns-in-Literal-clause-onward g c = stays_tail _ _ (tree_view c.in_ok-first.first.now)
    (ap (map tree_view) c.in_ok-first.ensures.cases.0)

pub returns-in-Literal-clause-taken : goal.returns-in-Literal-clause-taken
returns-in-Literal-clause-taken g c =
    first_taken c.args.self.now.trees.now c.in_ok-first.rest.now c.in_ok-first.first.now _ c.in_ok-first.ensures.cases.0
    (ap tree_view c.in-Literal.is ∙ tree_view-literal g.row.A.Denot c.in-Literal.literal)

pub returns-in_err-first-clause-other : goal.returns-in_err-first-clause-other
returns-in_err-first-clause-other g c = grind (arith, common_steps)
