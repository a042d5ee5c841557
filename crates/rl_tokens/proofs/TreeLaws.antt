-- One list of token trees follows a punctuation character or a group, and it has fewer tokens.
use Rattle.rl_syntax.proofs.Common.{◌≡◌, ◌<◌, ◌+◌, ℕ, suc, true, eq-eqb, eqb-true, List, [], ◌∷◌, ◌++◌, refl, sym, ap, subst, ◌∙◌, length, length-append, arith}
use Rattle.std.specs.Prelude.{◌↔◌, IsTrue}
use Rattle.rl_tokens.specs.declared.token.Delimiter.{Delimiter}
use Rattle.rl_tokens.specs.Buffers.{begins_mark, IsAfterMark, IsRest}
use Rattle.rl_tokens.specs.Trees.{Tree, GroupTree, IdentTree, PunctTree, LiteralTree, flat, flat_trees, inside_of}
use Rattle.rl_tokens.specs.Laws.{IsAfterGroup, weight}

pub one_mark : (ch : ℕ) (trees r s : List Tree) → IsAfterMark ch trees r → IsAfterMark ch trees s → r ≡ s
one_mark ch trees r s a b = let e : PunctTree a.mark ∷ r ≡ PunctTree b.mark ∷ s = sym a.trees_are ∙ b.trees_are in cc

mark_here : (ch : ℕ) (trees : List Tree) → begins_mark ch trees ≡ true → (rest : List Tree) × IsAfterMark ch trees rest
mark_here ch [] h = absurd (cc)
mark_here ch (GroupTree d inside at ∷ ts) h = absurd (cc)
mark_here ch (IdentTree i ∷ ts) h = absurd (cc)
mark_here ch (PunctTree m ∷ ts) h = (ts, record { mark = m; trees_are = refl; is = eqb-true m.ch ch h })
mark_here ch (LiteralTree l ∷ ts) h = absurd (cc)

pub peeked_mark : (ch : ℕ) (trees : List Tree)
    → IsTrue (begins_mark ch trees) ↔ ((rest : List Tree) × IsAfterMark ch trees rest)
peeked_mark ch trees = (
  mark_here ch trees,
  λ (rest, m).
      subst (λ (z : List Tree). begins_mark ch z ≡ true) (sym m.trees_are) (eq-eqb m.mark.ch ch m.is),
)

one_inside : (a b : List Tree) → inside_of a ≡ inside_of b → a ≡ b
one_inside [] [] e = refl
one_inside [] (y ∷ ys) e = absurd (cc)
one_inside (x ∷ xs) [] e = absurd (cc)
one_inside (x ∷ xs) (y ∷ ys) e =
    let p : inside_of xs ≡ inside_of ys = cc in
    let q : x ≡ y = cc in
    ap (λ z. z ∷ xs) q ∙ ap (λ zs. y ∷ zs) (one_inside xs ys p)

pub one_group : (d e : Delimiter) (trees a b r s : List Tree) → IsAfterGroup d trees a r → IsAfterGroup e trees b s
    → (d ≡ e) × (a ≡ b) × (r ≡ s)
one_group d e trees a b r s x y =
    let same : GroupTree d (inside_of a) x.span ∷ r ≡ GroupTree e (inside_of b) y.span ∷ s =
    sym x.trees_are ∙ y.trees_are in
    let delimiters : d ≡ e = cc in
    let insides : inside_of a ≡ inside_of b = cc in
    let rests : r ≡ s = cc in
    (delimiters, one_inside a b insides, rests)

pub no_mark : (d : Delimiter) (ch : ℕ) (trees inside r s : List Tree) → IsAfterGroup d trees inside r
    → IsAfterMark ch trees s → ⊥
no_mark d ch trees inside r s g m =
    let e : GroupTree d (inside_of inside) g.span ∷ r ≡ PunctTree m.mark ∷ s = sym g.trees_are ∙ m.trees_are in
    absurd (cc)

-- ---- the number of tokens

flat_some : (t : Tree) → 0 < length (flat t)
flat_some (GroupTree d inside span) = omega arith
flat_some (IdentTree i) = omega arith
flat_some (PunctTree p) = omega arith
flat_some (LiteralTree l) = omega arith

weight_first : (t : Tree) (ts : List Tree) → weight (t ∷ ts) ≡ length (flat t) + weight ts
unfolding weight
weight_first t ts = length-append (flat t) (flat_trees ts)

weight_rest : (taken rest : List Tree) → length rest < length (taken ++ rest) → weight rest < weight (taken ++ rest)
weight_rest [] rest lt = absurd (let h : length rest < length rest = lt in omega arith)
weight_rest (x ∷ []) rest lt = omega (arith, weight_first x rest, flat_some x)
weight_rest (x ∷ y ∷ xs) rest lt =
    let more = weight_rest (y ∷ xs) rest (longer xs) in
    omega (arith, more, weight_first x ((y ∷ xs) ++ rest), flat_some x)
  where
    longer : (zs : List Tree) → length rest < length ((y ∷ zs) ++ rest)
    longer zs = omega (arith, length-append (y ∷ zs) rest)

pub step_lighter : (before left : List Tree) → IsRest before left → length left < length before
    → weight left < weight before
step_lighter before left r lt =
    subst (λ (b : List Tree). weight left < weight b) (sym r.are)
    (weight_rest r.taken left (subst (λ (b : List Tree). length left < length b) r.are lt))

pub mark_lighter : (ch : ℕ) (trees rest : List Tree) → IsAfterMark ch trees rest → weight rest < weight trees
mark_lighter ch trees rest m =
    subst (λ (b : List Tree). weight rest < weight b) (sym m.trees_are)
    (omega (arith, weight_first (PunctTree m.mark) rest, flat_some (PunctTree m.mark)))

pub inside_lighter : (d : Delimiter) (trees inside rest : List Tree) → IsAfterGroup d trees inside rest
    → (weight inside < weight trees) × (weight rest < weight trees)
unfolding weight
inside_lighter d trees inside rest g =
    let t = GroupTree d (inside_of inside) g.span in
    let a : length (flat_trees trees) ≡ length (flat t ++ flat_trees rest) = ap (λ z. length (flat_trees z)) g.trees_are in
    let b : length (flat t ++ flat_trees rest) ≡ length (flat t) + length (flat_trees rest) =
    length-append (flat t) (flat_trees rest) in
    let c : length (flat t) ≡ suc (length (flat_trees inside) + 1) = ap suc (length-append (flat_trees inside) _) in
    (omega (arith, a, b, c), omega (arith, a, b, c))
