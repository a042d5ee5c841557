use Rattle.rl_syntax.proofs.Common.{common_steps, refl, ◌∙◌, ap, arith}
use Rattle.rl_tokens.specs.Trees.{trees_of}
use Rattle.rl_tokens.proofs.NestLemmas.{opens_group}
use Rattle.rl_tokens.proofs.nest.TreeBuilder.open_group.Goals as goal

pub returns-clause-ok : goal.returns-clause-ok
returns-clause-ok g c =
    opens_group c.args.self.now _ (record { delimiter = c.args.delimiter; at = c.args.at; before = c.replace-before.result })
    c.in_default.ensures.items c.replace-before.ensures.value (ap trees_of c.replace-before.ensures.after
    ∙ c.new-2.ensures) refl (omega arith)

pub returns-then-len-ge-MAX_OPEN-clause-kind : goal.returns-then-len-ge-MAX_OPEN-clause-kind
returns-then-len-ge-MAX_OPEN-clause-kind g c = grind (arith, common_steps)

pub returns-in-Err-clause-at : goal.returns-in-Err-clause-at
returns-in-Err-clause-at g c = grind (arith, common_steps)

pub returns-in-Err-clause-kind : goal.returns-in-Err-clause-kind
returns-in-Err-clause-kind g c = grind (arith, common_steps)
