use Rattle.rl_syntax.proofs.Common.{◌∙◌, ap, arith, map, common_steps}
use Rattle.rl_tokens.specs.Trees.{tree_view}
use Rattle.rl_tokens.proofs.TreeRests.{rest_one, rest_self, stays_tail}
use Rattle.rl_tokens.proofs.TreeLemmas.{first_taken, tree_view-punct}
use Rattle.rl_tokens.proofs.buffer.ParseBuffer.punct.Goals as goal

pub returns-in-Punct-clause-rest : goal.returns-in-Punct-clause-rest
returns-in-Punct-clause-rest g c = rest_one _ _ (tree_view c.in_ok-first.first.now)
    (ap (map tree_view) c.in_ok-first.ensures.cases.0)

pub returns-in_default-clause-rest : goal.returns-in_default-clause-rest
returns-in_default-clause-rest g c = rest_self _

pub returns-in-Punct-clause-onward : goal.returns-in-Punct-clause-onward
returns-in-Punct-clause-onward g c = stays_tail _ _ (tree_view c.in_ok-first.first.now)
    (ap (map tree_view) c.in_ok-first.ensures.cases.0)

pub returns-in-Punct-clause-taken : goal.returns-in-Punct-clause-taken
returns-in-Punct-clause-taken g c =
    first_taken c.args.self.now.trees.now c.in_ok-first.rest.now c.in_ok-first.first.now _ c.in_ok-first.ensures.cases.0
    (ap tree_view c.in-Punct.is ∙ tree_view-punct g.row.A.Denot c.in-Punct.punct)

pub returns-in_err-first-clause-other : goal.returns-in_err-first-clause-other
returns-in_err-first-clause-other g c = grind (arith, common_steps)
