use Rattle.rl_syntax.proofs.Common.{◌∙◌, ap, arith, map, common_steps}
use Rattle.rl_tokens.specs.Trees.{tree_view}
use Rattle.rl_tokens.proofs.TreeRests.{rest_one, rest_self, stays_tail}
use Rattle.rl_tokens.proofs.TreeLemmas.{first_taken, tree_view-ident}
use Rattle.rl_tokens.proofs.buffer.ParseBuffer.ident.Goals as goal

pub returns-in-Ident-clause-rest : goal.returns-in-Ident-clause-rest
returns-in-Ident-clause-rest g c = rest_one _ _ (tree_view c.in_ok-first.first.now)
    (ap (map tree_view) c.in_ok-first.ensures.cases.0)

pub returns-in_default-clause-rest : goal.returns-in_default-clause-rest
returns-in_default-clause-rest g c = rest_self _

pub returns-in-Ident-clause-onward : goal.returns-in-Ident-clause-onward
returns-in-Ident-clause-onward g c = stays_tail _ _ (tree_view c.in_ok-first.first.now)
    (ap (map tree_view) c.in_ok-first.ensures.cases.0)

pub returns-in-Ident-clause-taken : goal.returns-in-Ident-clause-taken
returns-in-Ident-clause-taken g c =
    first_taken c.args.self.now.trees.now c.in_ok-first.rest.now c.in_ok-first.first.now _ c.in_ok-first.ensures.cases.0
    (ap tree_view c.in-Ident.is ∙ tree_view-ident g.row.A.Denot c.in-Ident.ident)

pub returns-in_err-first-clause-other : goal.returns-in_err-first-clause-other
returns-in_err-first-clause-other g c = grind (arith, common_steps)
