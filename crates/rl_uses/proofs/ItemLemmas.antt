-- Lemmas about the items of a list at the start of token trees.
use Rattle.std.proofs.Common.{List, [], ◌∷◌, ◌++◌, refl, sym, subst}
use Rattle.rl_tokens.specs.Trees.{Tree}
use Rattle.rl_uses.specs.declared.list.Item.{Item}
use Rattle.rl_uses.specs.Lists.{IsListed, Lists}

-- If token trees begin with items and one more item follows, they begin with all of these.
pub lists_step : {A : Type 0} (a : List Tree) (xs : List (Item A)) (b : List Tree) (x : Item A) (c : List Tree)
    → Lists a xs b → IsListed b x c → Lists a (xs ++ (x ∷ [])) c
lists_step a [] b x c h k = (c, subst (λ (t : List Tree). IsListed t x c) (sym h) k, refl)
lists_step a (y ∷ ys) b x c (m, f, h) k = (m, f, lists_step m ys b x c h k)
