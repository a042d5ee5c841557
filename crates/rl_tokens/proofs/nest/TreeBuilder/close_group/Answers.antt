use Rattle.rl_syntax.proofs.Common.{◌≡◌, ◌∙◌, arith, refl, rules, sym, common_steps, on_ok_weaker}
use denote.Enum.Bare.{differs_true, differs_false}
use Rattle.rl_tokens.specs.contracts.token.Delimiter.{the_type}
use Rattle.rl_tokens.proofs.NestLemmas.{closes_group, wrong_closer}
use Rattle.rl_tokens.proofs.nest.TreeBuilder.close_group.Goals as goal

pub returns-clause-ok : goal.returns-clause-ok
returns-clause-ok g c =
    let same : c.in-Some.open.delimiter ≡ c.args.delimiter = differs_false the_type (search rules) _ _
    (sym c.ne.ensures ∙ c.if-ne.false) in
    on_ok_weaker c.append.result
    (closes_group c.args.self.now _ c.append.new.self c.in-Some.open c.new-2.result c.args.delimiter c.args.lo c.args.hi
    c.in-Some.ensures.items (sym c.replace-inside.ensures.after) refl same c.new-2.ensures.delimiter
    (c.new-2.ensures.stream ∙ c.replace-inside.ensures.value) (c.new-2.ensures.span ∙ c.new-span.ensures)
    c.requires)
    c.append.ensures.ok

pub returns-then-ne-clause-at : goal.returns-then-ne-clause-at
returns-then-ne-clause-at g c = grind (arith, common_steps)

pub returns-clause-at : goal.returns-clause-at
returns-clause-at g c = grind (arith, common_steps)

pub returns-clause-kind : goal.returns-clause-kind
returns-clause-kind g c = grind (arith, common_steps)

pub returns-then-ne-clause-kind : goal.returns-then-ne-clause-kind
returns-then-ne-clause-kind g c =
    rw c.new-then-ne.ensures (wrong_closer c.args.self.now _ c.in-Some.open c.args.delimiter c.in-Some.ensures.items
    (differs_true the_type _ _ (sym c.ne.ensures ∙ c.if-ne.true)))
