-- Lemmas about `IsRest`: a list of token trees is the end of another list.
use Rattle.rl_syntax.proofs.Common.{subst, inr, ◌≡◌, List, [], ◌∷◌, ◌++◌, refl, sym, ◌∙◌, ap, append_assoc}
use Rattle.std.specs.Prelude.{◌≢◌, Result, Ok}
use Rattle.rl_syntax.specs.declared.span.Span.{Span}
use Rattle.rl_tokens.specs.declared.error.ErrorKind.TheVariants.{Unexpected}
use Rattle.rl_tokens.specs.declared.error.Error.{Error}
use Rattle.rl_tokens.specs.Buffers.{first_span, IsRest, StaysRest}
use Rattle.rl_tokens.specs.Whole.{RejectsParse}
use Rattle.rl_tokens.specs.Trees.{Tree}

-- The token trees after the first one of a list are the end of the list.
pub rest_one : (before left : List Tree) (t : Tree) → before ≡ t ∷ left → IsRest before left
rest_one before left t e = record { taken = t ∷ []; are = e }

-- The token trees after the first two of a list are the end of the list.
pub rest_two : (before left : List Tree) (t u : Tree) → before ≡ t ∷ (u ∷ left) → IsRest before left
rest_two before left t u e = record { taken = t ∷ (u ∷ []); are = e }

-- If a parser consumes nothing, the remaining token trees are the end of the token trees before the call.
pub rest_none : (before left : List Tree) → left ≡ before → IsRest before left
rest_none before left e = record { taken = []; are = sym e }

-- If a list of token trees is the end of a second list, and that is the end of a third, the first list is the end of
-- the third.
pub rest_step : (before between left : List Tree) → IsRest before between → IsRest between left → IsRest before left
rest_step before between left a b = record {
  taken = a.taken ++ b.taken;
  are = a.are ∙ (ap (λ z. a.taken ++ z) b.are ∙ sym (append_assoc a.taken b.taken left));
}

-- A list of token trees is the end of itself.
pub rest_self : (trees : List Tree) → IsRest trees trees
rest_self trees = record { taken = []; are = refl }

-- If `left` is the end of `between`, each list of token trees that ends with `between` also ends with `left`.
pub stays_rest : (between left : List Tree) → IsRest between left → StaysRest between left
stays_rest between left a before b = rest_step before between left b a

pub stays_tail : (between left : List Tree) (t : Tree) → between ≡ t ∷ left → StaysRest between left
stays_tail between left t e = stays_rest between left (rest_one between left t e)

-- If the specification of a parser holds for a list of token trees and a scope, it also holds for an equal list and an
-- equal scope.
pub run_moved : {T E : Type 0} (runs : List Tree → Span → Result T E → List Tree → Type 0) (a b : List Tree)
    (s t : Span) (r : Result T E) (x y : List Tree) → a ≡ b → s ≡ t → x ≡ y → runs a s r x → runs b t r y
run_moved runs a b s t r x y p q e ran = subst (λ z. runs z t r y) p
    (subst (λ z. runs a z r y) q (subst (λ z. runs a s r z) e ran))

pub rejects_left : {T A : Type 0} (runs : List Tree → Span → Result T (Error A) → List Tree → Type 0)
    (a b left : List Tree) (s t u at : Span) (x : T) (e : Error A) → a ≡ b → s ≡ t → u ≡ s → runs a s (Ok x) left
    → left ≢ [] → at ≡ first_span left u → e ≡ record { span = at; kind = Unexpected } → RejectsParse runs b t e
rejects_left runs a b left s t u at x e p q r ran some place is = record {
  why = inr (record { value = x; rest = left; ran = run_moved runs a b s t (Ok x) left left p q refl ran; some = some; error = cc });
}
