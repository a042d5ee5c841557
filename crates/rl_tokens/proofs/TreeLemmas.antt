-- Lemmas about the conversion of token trees and streams of the code to the data type `Tree`.
use Rattle.rl_syntax.proofs.Common.{◌≡◌, List, [], ◌∷◌, map, refl, sym, ◌∙◌, ap, ◌++◌, map-append}
use Rattle.rl_syntax.specs.declared.span.Span.{Span}
use Rattle.rl_tokens.specs.declared.token.TokenTree.{fold-roll-TokenTree, TokenTree}
use Rattle.rl_tokens.specs.declared.token.TokenTree.TheOpen as layer
use Rattle.rl_tokens.specs.declared.token.TokenTree.TheVariants as tree
use Rattle.rl_tokens.specs.declared.token.Group.{Group, fold_out-Group}
use Rattle.rl_tokens.specs.declared.token.TokenStream.{TokenStream, fold-TokenStream, fold_out-TokenStream}
use Rattle.rl_tokens.specs.Puncts.{Mark}
use Rattle.rl_syntax.specs.Texts.{SpannedText}
use Rattle.rl_tokens.specs.Trees.{Tree, GroupTree, PunctTree, LiteralTree, IdentTree, trees_of, MoreTrees, GroupParts, delimiter_of, stream_of, group_span, inside_of, tree_step, group_step, stream_step, tree_view, stream_view, respanned, all_respanned, relocated, all_relocated, group_tree}
use Rattle.rl_syntax.specs.Spans.{mapped_by_byte_spans}

abbrev stream_fold : {A : Type 0} → TokenStream A → List Tree
stream_fold {A} = fold-TokenStream A Tree GroupParts (List Tree) tree_step group_step stream_step

stream_fold-view : {A : Type 0} (s : TokenStream A) → stream_fold s ≡ stream_view s
stream_fold-view {A} s = fold_out-TokenStream A Tree GroupParts (List Tree) tree_step group_step stream_step s

-- A group of the code is converted to a `Tree` by converting the parts of the group.
pub tree_view-group : {A : Type 0} (g : Group A) → tree_view (tree.Group g)
    ≡ GroupTree (delimiter_of g) (inside_of (stream_view (stream_of g))) (group_span g)
tree_view-group {A} g =
    ap tree_view (sym (tree.rolls-Group g))
    ∙ fold-roll-TokenTree A Tree GroupParts (List Tree) tree_step group_step stream_step (layer.Group g)
    ∙ ap (λ (p : GroupParts). GroupTree p.delimiter (inside_of p.inside) p.span)
    (fold_out-Group A Tree GroupParts (List Tree) tree_step group_step stream_step g)
    ∙ ap (λ (ts : List Tree). GroupTree (delimiter_of g) (inside_of ts) (group_span g)) (stream_fold-view (stream_of g))

pub tree_view-punct : (A : Type 0) (p : Mark) → tree_view {A = A} (tree.Punct p) ≡ PunctTree p
tree_view-punct A p = ap tree_view (sym (tree.rolls-Punct p))
    ∙ fold-roll-TokenTree A Tree GroupParts (List Tree) tree_step group_step stream_step (layer.Punct p)

pub tree_view-literal : (A : Type 0) (l : SpannedText) → tree_view {A = A} (tree.Literal l) ≡ LiteralTree l
tree_view-literal A l = ap tree_view (sym (tree.rolls-Literal l))
    ∙ fold-roll-TokenTree A Tree GroupParts (List Tree) tree_step group_step stream_step (layer.Literal l)

pub tree_view-ident : (A : Type 0) (i : SpannedText) → tree_view {A = A} (tree.Ident i) ≡ IdentTree i
tree_view-ident A i = ap tree_view (sym (tree.rolls-Ident i))
    ∙ fold-roll-TokenTree A Tree GroupParts (List Tree) tree_step group_step stream_step (layer.Ident i)

-- If a token tree is appended to a stream, the converted token tree is appended to the converted stream.
pub stream_view-append : {A : Type 0} (old new : TokenStream A) (x : TokenTree A) (t : Tree) → tree_view x ≡ t
    → trees_of new ≡ trees_of old ++ x ∷ [] → stream_view new ≡ stream_view old ++ t ∷ []
stream_view-append old new x t is e = ap (map tree_view) e ∙ map-append tree_view (trees_of old) (x ∷ [])
    ∙ ap (λ z. stream_view old ++ z ∷ []) is

pub respanned-inside : (span : Span) (ts : List Tree) → all_respanned span (inside_of ts)
    ≡ inside_of (map (respanned span) ts)
respanned-inside span [] = refl
respanned-inside span (t ∷ ts) = ap (MoreTrees (respanned span t)) (respanned-inside span ts)

-- If a group's span and all spans inside the group are replaced by `span`, all spans in the converted group are `span`.
pub respanned_group : {A : Type 0} (span : Span) (g h : Group A) → delimiter_of h ≡ delimiter_of g → group_span h ≡ span
    → stream_view (stream_of h) ≡ map (respanned span) (stream_view (stream_of g)) → tree_view (tree.Group h)
    ≡ respanned span (tree_view (tree.Group g))
respanned_group span g h d s i =
    let e = respanned-inside span (stream_view (stream_of g)) in
    let a = tree_view-group g in
    let b = tree_view-group h in
    let k : respanned span (tree_view (tree.Group g)) ≡ respanned span
    (GroupTree (delimiter_of g) (inside_of (stream_view (stream_of g))) (group_span g)) = ap (respanned span) a in
    b
    ∙ ap (λ x. GroupTree x (inside_of (stream_view (stream_of h))) (group_span h)) d
    ∙ ap (λ x. GroupTree (delimiter_of g) (inside_of x) (group_span h)) i
    ∙ ap (λ x. GroupTree (delimiter_of g) (inside_of (map (respanned span) (stream_view (stream_of g)))) x) s
    ∙ ap (λ x. GroupTree (delimiter_of g) x span) (sym e)
    ∙ sym k

pub relocated-inside : (table : List Span) (ts : List Tree) → all_relocated table (inside_of ts)
    ≡ inside_of (map (relocated table) ts)
relocated-inside table [] = refl
relocated-inside table (t ∷ ts) = ap (MoreTrees (relocated table t)) (relocated-inside table ts)

-- If a group's span and all spans inside the group are replaced by the spans that `table` gives for them, the spans in
-- the converted group are replaced in the same way.
pub relocated_parts : {A : Type 0} (table : List Span) (g h : Group A) → delimiter_of h ≡ delimiter_of g → group_span h
    ≡ mapped_by_byte_spans table (group_span g) → stream_view (stream_of h) ≡ map (relocated table) (stream_view (stream_of g))
    → group_tree h ≡ relocated table (group_tree g)
relocated_parts table g h d s i =
    let f = relocated table in
    let e = relocated-inside table (stream_view (stream_of g)) in
    ap (λ x. GroupTree x (inside_of (stream_view (stream_of h))) (group_span h)) d
    ∙ ap (λ x. GroupTree (delimiter_of g) (inside_of x) (group_span h)) i
    ∙ ap (λ x. GroupTree (delimiter_of g) (inside_of (map f (stream_view (stream_of g)))) x) s
    ∙ ap (λ x. GroupTree (delimiter_of g) x (mapped_by_byte_spans table (group_span g))) (sym e)

pub relocated_group : {A : Type 0} (table : List Span) (g h : Group A) → group_tree h ≡ relocated table (group_tree g)
    → tree_view (tree.Group h) ≡ relocated table (tree_view (tree.Group g))
relocated_group table g h e = tree_view-group h ∙ e ∙ ap (relocated table) (sym (tree_view-group g))

-- If a list of token trees begins with a token tree, the converted list begins with the converted token tree.
pub first_taken : {A : Type 0} (xs rest : List (TokenTree A)) (x : TokenTree A) (t : Tree) → xs ≡ x ∷ rest → tree_view x
    ≡ t → map tree_view xs ≡ t ∷ map tree_view rest
first_taken xs rest x t e is = ap (map tree_view) e ∙ ap (λ z. z ∷ map tree_view rest) is
