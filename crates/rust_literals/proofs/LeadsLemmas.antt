-- Lemmas about token trees as lists of literals: token trees are the literals of at most one list.
use Rattle.std.proofs.Common.{◌≡◌, ◌≢◌, ◌<◌, List, [], ◌∷◌, ◌++◌, length, refl, sym, ◌∙◌, ap, subst}
use Rattle.rl_syntax.specs.Texts.{SpannedText}
use Rattle.rl_tokens.specs.Trees.{Tree}
use Rattle.rl_fronts.specs.Fronts.{HasNoFront}
use Rattle.rl_fronts.proofs.FrontLemmas.{one_front, front_shorter}
use Rattle.rust_literals.specs.declared.lit.Lit.{Lit}
use Rattle.rust_literals.specs.Literals.{IsReadFrom}
use Rattle.rust_literals.specs.Parsing.{IsLitFront, ReadsLiterals}
use Rattle.rust_literals.proofs.LitLemmas.{one_lit}

-- If two literals are each parsed from the start of the same token trees, the two literals are equal, and so are the
-- token trees after them.
pub one_lit_front : {A : Type 0} (trees : List Tree) (a b : Lit A) (r s : List Tree) → IsLitFront trees a r
    → IsLitFront trees b s → (a ≡ b) × (r ≡ s)
one_lit_front trees a b r s h k =
    let one = one_front trees h.token k.token r s h.front k.front in
    (one_lit k.token a b (subst (λ (t : SpannedText). IsReadFrom t a) one.0 h.read) k.read, one.1)

-- The list of the token trees after the literal at the start is shorter than the whole list.
pub lit_shorter : {A : Type 0} (trees : List Tree) (lit : Lit A) (rest : List Tree) → IsLitFront trees lit rest
    → length rest < length trees
lit_shorter trees lit rest h = front_shorter trees h.token rest h.front

-- If token trees begin with literals and one more literal follows, they begin with all of these.
pub leads_step : {A : Type 0} (a : List Tree) (ls : List (Lit A)) (b : List Tree) (l : Lit A) (c : List Tree)
    → ReadsLiterals a ls b → IsLitFront b l c → ReadsLiterals a (ls ++ (l ∷ [])) c
leads_step a [] b l c h k = (c, subst (λ (t : List Tree). IsLitFront t l c) (sym h) k, refl)
leads_step a (x ∷ ls) b l c (m, f, h) k = (m, f, leads_step m ls b l c h k)

-- An empty list of token trees doesn't begin with a literal.
empty_front : {A : Type 0} (l : Lit A) (rest : List Tree) → IsLitFront [] l rest → ⊥
empty_front l rest h = h.front

-- If token trees consist of the literals of one list, and also of the literals of another list, the two lists are
-- equal.
pub one_list_of : {A : Type 0} (trees : List Tree) (xs ys : List (Lit A)) → ReadsLiterals trees xs []
    → ReadsLiterals trees ys [] → xs ≡ ys
one_list_of trees [] [] h k = refl
one_list_of trees [] (y ∷ ys) h (m, f, k) = absurd (empty_front y m (subst (λ (t : List Tree). IsLitFront t y m) h f))
one_list_of trees (x ∷ xs) [] (m, f, h) k = absurd (empty_front x m (subst (λ (t : List Tree). IsLitFront t x m) k f))
one_list_of trees (x ∷ xs) (y ∷ ys) (m, f, h) (n, e, k) =
    let one = one_lit_front trees x y m n f e in
    ap (λ z. z ∷ xs) one.0 ∙ ap (λ zs. y ∷ zs) (one_list_of m xs ys h
    (subst (λ (t : List Tree). ReadsLiterals t ys []) (sym one.1) k))

-- If all token trees are literals, the token trees after some of these literals begin with a literal, or there are
-- none.
pub never_stops : {A : Type 0} (trees : List Tree) (xs ys : List (Lit A)) (rest : List Tree) → ReadsLiterals trees xs []
    → ReadsLiterals trees ys rest → rest ≢ [] → HasNoFront rest → ⊥
never_stops trees [] [] rest h k some none = some (sym k ∙ h)
never_stops trees [] (y ∷ ys) rest h (m, f, k) some none = empty_front y m
    (subst (λ (t : List Tree). IsLitFront t y m) h f)
never_stops trees (x ∷ xs) [] rest (m, f, h) k some none =
    let g = subst (λ (t : List Tree). IsLitFront t x m) k f in none g.token m g.front
never_stops trees (x ∷ xs) (y ∷ ys) rest (m, f, h) (n, e, k) some none =
    let one = one_lit_front trees x y m n f e in
    never_stops m xs ys rest h (subst (λ (t : List Tree). ReadsLiterals t ys rest) (sym one.1) k) some none
