-- Two lists of token trees are equal if their flat lists of tokens are equal. In a flat list each delimiter of a group
-- is an element of its own.
use Rattle.rl_syntax.proofs.Common.{◌≡◌, List, [], ◌∷◌, ◌++◌, refl, sym, ◌∙◌, ap, append_assoc}
use Rattle.rl_syntax.specs.declared.span.Span.{Span}
use Rattle.rl_tokens.specs.declared.token.Delimiter.{Delimiter}
use Rattle.rl_tokens.specs.Trees.{Tree, Trees, GroupTree, IdentTree, PunctTree, LiteralTree, NoTrees, MoreTrees, inside_of, FlatToken, Opening, Closing, FlatIdent, FlatPunct, FlatLiteral, opener_span, closer_span, flat, flat_inside, flat_trees}

-- A condition on a flat list of tokens under which no token tree begins the list: the list is empty, or begins with a
-- closing delimiter.
abbrev EndsLevel : List FlatToken → Type 0
EndsLevel [] = Unit {0}
EndsLevel (Closing d s ∷ fs) = Unit {0}
EndsLevel _ = ⊥

-- If a flat list of tokens is empty or begins with a closing delimiter, it doesn't begin with the tokens of a token
-- tree.
not_end : (t : Tree) (fs xs : List FlatToken) → EndsLevel xs → xs ≡ flat t ++ fs → ⊥
not_end t fs [] ends e = head_some t fs e
  where
    head_some : (t : Tree) (fs : List FlatToken) → [] ≡ flat t ++ fs → ⊥
    head_some (GroupTree d inside s) fs e = absurd (cc)
    head_some (IdentTree i) fs e = absurd (cc)
    head_some (PunctTree p) fs e = absurd (cc)
    head_some (LiteralTree l) fs e = absurd (cc)
not_end (GroupTree d inside s) fs (Closing c k ∷ xs) ends e = absurd (cc)
not_end (IdentTree i) fs (Closing c k ∷ xs) ends e = absurd (cc)
not_end (PunctTree p) fs (Closing c k ∷ xs) ends e = absurd (cc)
not_end (LiteralTree l) fs (Closing c k ∷ xs) ends e = absurd (cc)
not_end t fs (Opening c k ∷ xs) ends e = ends
not_end t fs (FlatIdent i ∷ xs) ends e = ends
not_end t fs (FlatPunct p ∷ xs) ends e = ends
not_end t fs (FlatLiteral l ∷ xs) ends e = ends

same_span : (s r : Span) → opener_span s ≡ opener_span r → closer_span s ≡ closer_span r → s ≡ r
same_span s r a b =
    let files : s.file ≡ r.file = ap (λ (x : Span). x.file) a in
    let los : s.lo ≡ r.lo = ap (λ (x : Span). x.lo) a in
    let his : s.hi ≡ r.hi = ap (λ (x : Span). x.hi) b in
    ap (λ x. let k : Span = record { file = x; lo = s.lo; hi = s.hi } in k) files
    ∙ ap (λ x. let k : Span = record { file = r.file; lo = x; hi = s.hi } in k) los
    ∙ ap (λ x. let k : Span = record { file = r.file; lo = r.lo; hi = x } in k) his

-- The flat list of the tokens after a group's opening delimiter consists of the tokens inside the group, the closing
-- delimiter, and the tokens after the group.
group_rest : (inside : Trees) (d : Delimiter) (s : Span) (ts : Trees) (xs : List FlatToken)
    → ((flat_inside inside ++ (Closing d (closer_span s) ∷ [])) ++ flat_inside ts) ++ xs ≡ flat_inside inside
    ++ (Closing d (closer_span s) ∷ (flat_inside ts ++ xs))
group_rest inside d s ts xs = simp append_assoc

abbrev Same : Trees → Trees → List FlatToken → List FlatToken → Type 0
Same ts us xs ys = (ts ≡ us) × (xs ≡ ys)

same_group : (d c : Delimiter) (inside other : Trees) (s r : Span) (ts us : Trees) (xs ys : List FlatToken) → d ≡ c
    → inside ≡ other → s ≡ r → Same ts us xs ys → Same (MoreTrees (GroupTree d inside s) ts)
    (MoreTrees (GroupTree c other r) us) xs ys
same_group d c inside other s r ts us xs ys p q k (e, f) = (
  ap (λ x. MoreTrees (GroupTree x inside s) ts) p ∙ ap (λ x. MoreTrees (GroupTree c x s) ts) q
      ∙ ap (λ x. MoreTrees (GroupTree c other x) ts) k ∙ ap (MoreTrees (GroupTree c other r)) e,
  f,
)

flat_same : (ts us : Trees) (xs ys : List FlatToken) → EndsLevel xs → EndsLevel ys → flat_inside ts ++ xs
    ≡ flat_inside us ++ ys → Same ts us xs ys
flat_same NoTrees NoTrees xs ys p q e = (refl, e)
flat_same NoTrees (MoreTrees u us) xs ys p q e = absurd (not_end u (flat_inside us ++ ys) xs p
    (e ∙ append_assoc (flat u) (flat_inside us) ys))
flat_same (MoreTrees t ts) NoTrees xs ys p q e = absurd (not_end t (flat_inside ts ++ xs) ys q
    (sym e ∙ append_assoc (flat t) (flat_inside ts) xs))
flat_same (MoreTrees (IdentTree i) ts) (MoreTrees (IdentTree j) us) xs ys p q e =
    let h : i ≡ j = cc in
    let k : flat_inside ts ++ xs ≡ flat_inside us ++ ys = cc in
    let r = flat_same ts us xs ys p q k in
    (ap (λ x. MoreTrees (IdentTree x) ts) h ∙ ap (MoreTrees (IdentTree j)) r.0, r.1)
flat_same (MoreTrees (PunctTree i) ts) (MoreTrees (PunctTree j) us) xs ys p q e =
    let h : i ≡ j = cc in
    let k : flat_inside ts ++ xs ≡ flat_inside us ++ ys = cc in
    let r = flat_same ts us xs ys p q k in
    (ap (λ x. MoreTrees (PunctTree x) ts) h ∙ ap (MoreTrees (PunctTree j)) r.0, r.1)
flat_same (MoreTrees (LiteralTree i) ts) (MoreTrees (LiteralTree j) us) xs ys p q e =
    let h : i ≡ j = cc in
    let k : flat_inside ts ++ xs ≡ flat_inside us ++ ys = cc in
    let r = flat_same ts us xs ys p q k in
    (ap (λ x. MoreTrees (LiteralTree x) ts) h ∙ ap (MoreTrees (LiteralTree j)) r.0, r.1)
flat_same (MoreTrees (GroupTree d inside s) ts) (MoreTrees (GroupTree c other r) us) xs ys p q e =
    let opening : ◌≡◌ {A = FlatToken} (Opening d (opener_span s)) (Opening c (opener_span r)) = cc in
    let following : ((flat_inside inside ++ (Closing d (closer_span s) ∷ [])) ++ flat_inside ts) ++ xs
    ≡ ((flat_inside other ++ (Closing c (closer_span r) ∷ [])) ++ flat_inside us) ++ ys = cc in
    let f : flat_inside inside ++ (Closing d (closer_span s) ∷ (flat_inside ts ++ xs)) ≡ flat_inside other
    ++ (Closing c (closer_span r) ∷ (flat_inside us ++ ys)) =
    sym (group_rest inside d s ts xs) ∙ following ∙ group_rest other c r us ys in
    let k = flat_same inside other (Closing d (closer_span s) ∷ (flat_inside ts ++ xs))
    (Closing c (closer_span r) ∷ (flat_inside us ++ ys)) tt tt f in
    let closings : Closing d (closer_span s) ∷ (flat_inside ts ++ xs)
    ≡ Closing c (closer_span r) ∷ (flat_inside us ++ ys) = k.1 in
    let opens : opener_span s ≡ opener_span r = cc in
    let closes : closer_span s ≡ closer_span r = cc in
    let rest : flat_inside ts ++ xs ≡ flat_inside us ++ ys = cc in
    let d_is : d ≡ c = cc in
    same_group d c inside other s r ts us xs ys d_is k.0 (same_span s r opens closes) (flat_same ts us xs ys p q rest)
flat_same (MoreTrees (IdentTree i) ts) (MoreTrees (PunctTree j) us) xs ys p q e = absurd (cc)
flat_same (MoreTrees (IdentTree i) ts) (MoreTrees (LiteralTree j) us) xs ys p q e = absurd (cc)
flat_same (MoreTrees (IdentTree i) ts) (MoreTrees (GroupTree c other r) us) xs ys p q e = absurd (cc)
flat_same (MoreTrees (PunctTree i) ts) (MoreTrees (IdentTree j) us) xs ys p q e = absurd (cc)
flat_same (MoreTrees (PunctTree i) ts) (MoreTrees (LiteralTree j) us) xs ys p q e = absurd (cc)
flat_same (MoreTrees (PunctTree i) ts) (MoreTrees (GroupTree c other r) us) xs ys p q e = absurd (cc)
flat_same (MoreTrees (LiteralTree i) ts) (MoreTrees (IdentTree j) us) xs ys p q e = absurd (cc)
flat_same (MoreTrees (LiteralTree i) ts) (MoreTrees (PunctTree j) us) xs ys p q e = absurd (cc)
flat_same (MoreTrees (LiteralTree i) ts) (MoreTrees (GroupTree c other r) us) xs ys p q e = absurd (cc)
flat_same (MoreTrees (GroupTree d inside s) ts) (MoreTrees (IdentTree j) us) xs ys p q e = absurd (cc)
flat_same (MoreTrees (GroupTree d inside s) ts) (MoreTrees (PunctTree j) us) xs ys p q e = absurd (cc)
flat_same (MoreTrees (GroupTree d inside s) ts) (MoreTrees (LiteralTree j) us) xs ys p q e = absurd (cc)

-- If `inside_of` converts two lists of token trees to equal results, the two lists are equal.
inside_same : (xs ys : List Tree) → inside_of xs ≡ inside_of ys → xs ≡ ys
inside_same [] [] e = refl
inside_same [] (y ∷ ys) e = absurd (cc)
inside_same (x ∷ xs) [] e = absurd (cc)
inside_same (x ∷ xs) (y ∷ ys) e =
    let h : x ≡ y = cc in
    let k : inside_of xs ≡ inside_of ys = cc in
    let m = inside_same xs ys k in
    ap (λ z. z ∷ xs) h ∙ ap (λ z. y ∷ z) m

pub flat_trees_same : (xs ys : List Tree) → flat_trees xs ≡ flat_trees ys → xs ≡ ys
flat_trees_same xs ys e = inside_same xs ys (flat_same (inside_of xs) (inside_of ys) [] [] tt tt
    (ap (λ z. z ++ []) e)).0
