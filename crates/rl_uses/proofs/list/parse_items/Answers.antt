use Rattle.std.proofs.Common.{rules, ◌≡◌, ◌∷◌, [], ◌++◌, sym, ◌∙◌, subst}
use Rattle.rl_tokens.specs.Buffers.{trees_in}
use Rattle.rl_uses.specs.Lists.{Lists}
use Rattle.rl_uses.proofs.ItemLemmas.{lists_step}
use Rattle.rl_uses.proofs.list.parse_items.Goals as goal

pub loop-alloc-preserved : goal.loop-alloc-preserved
loop-alloc-preserved g c =
    let grown : c.push.new.self.items ≡ c.loop-alloc.items.items ++ (c.in_ok-item.item ∷ []) = search rules in
    record {
      lists = subst (λ xs. Lists (trees_in c.args.input.now) xs (trees_in c.parse_listed.new.input)) (sym grown)
          (lists_step (trees_in c.args.input.now) c.loop-alloc.items.items (trees_in c.loop-alloc.input)
          c.in_ok-item.item (trees_in c.parse_listed.new.input) c.loop-alloc.invariant.lists c.in_ok-item.ensures.ok);
      scope = c.in_ok-item.ensures.scope ∙ c.loop-alloc.invariant.scope;
    }
