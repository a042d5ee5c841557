-- Lemmas about the builder of token trees: its open groups and its tokens, while token trees and groups are added.
use Rattle.rl_syntax.proofs.Common.{◌≡◌, ◌≢◌, ℕ, suc, ◌+◌, ◌-◌, ◌<◌, true, false, List, [], ◌∷◌, ◌++◌, length, map, Some, refl, sym, ◌∙◌, ap, arith, append_assoc, map-append}
use Rattle.std.proofs.Common.{reverse}
use Rattle.std.proofs.lemmas.List.{reverse-append, length-reverse}
use Rattle.rl_syntax.specs.declared.span.Span.{Span}
use Rattle.rl_tokens.specs.declared.nest.GroupBuilder.{GroupBuilder}
use Rattle.rl_tokens.specs.declared.nest.TreeBuilder.{TreeBuilder}
use Rattle.rl_tokens.specs.declared.token.TokenTree.{TokenTree}
use Rattle.rl_tokens.specs.declared.token.TokenTree.TheVariants as tree
use Rattle.rl_tokens.specs.declared.token.Group.{Group}
use Rattle.rl_tokens.specs.declared.token.Delimiter.{Delimiter}
use Rattle.rl_tokens.specs.declared.token.Delimiter.TheVariants.{Parenthesis, Brace, Bracket}
use Rattle.rl_lexer.specs.declared.lex_error.LexKind.TheVariants.{UnclosedGroup}
use Rattle.rl_tokens.specs.Trees.{Tree, FlatToken, Opening, Closing, FlatPunct, FlatLiteral, FlatIdent, opener_span, closer_span, trees_of, delimiter_of, stream_of, group_span, tree_view, stream_view, flat, flat_trees}
use Rattle.rl_lexer.specs.Cuts.{is_pair, closes, popped, innermost, after_form, EndsInGroup}
use Rattle.rl_tokens.specs.Lexing.{flat_form}
use Rattle.rl_tokens.specs.Mirrors.TreeBuilders.{opener_of, closer_of, group_of, groups_of, flat_open, flat_builder, TakesToken, TakesTree, OpensGroup, ClosesGroup}
use Rattle.rl_tokens.specs.Puncts.{Mark}
use Rattle.rl_syntax.specs.Texts.{SpannedText}
use Rattle.rl_lexer.specs.Lexemes.{LexemeForm, MarkForm, LiteralForm, IdentifierForm}
use Rattle.rl_tokens.proofs.TreeLemmas.{tree_view-group, tree_view-punct, tree_view-literal, tree_view-ident}

pub flat_trees-append : (xs ys : List Tree) → flat_trees (xs ++ ys) ≡ flat_trees xs ++ flat_trees ys
flat_trees-append [] ys = refl
flat_trees-append (x ∷ xs) ys = ap (λ z. flat x ++ z) (flat_trees-append xs ys)
    ∙ sym (append_assoc (flat x) (flat_trees xs) (flat_trees ys))

nil_tail : {X : Type 0} (xs : List X) → xs ++ [] ≡ xs
nil_tail [] = refl
nil_tail (x ∷ xs) = ap (λ t. x ∷ t) (nil_tail xs)

-- A token that was created from a text and a span has that text and span.
pub spanned : (l : SpannedText) (bytes text : List ℕ) (s at : Span) → l ≡ record { text = bytes; span = s } → bytes
    ≡ text → s ≡ at → l ≡ record { text = text; span = at }
spanned l bytes text s at e b p =
    e
    ∙ ap (λ z. let t : SpannedText = record { text = z; span = s } in t) b
    ∙ ap (λ z. let t : SpannedText = record { text = text; span = z } in t) p

pub takes_tree : {A : Type 0} (old new : TreeBuilder A) (tree : TokenTree A) → new.opened ≡ old.opened → new.file
    ≡ old.file → trees_of new.trees ≡ trees_of old.trees ++ tree ∷ [] → TakesTree old new tree
takes_tree old new tree o f t = record {
  opened_same = o;
  file_same = f;
  trees =
      ap (λ ts. flat_trees (map tree_view ts)) t
      ∙ ap flat_trees (map-append tree_view (trees_of old.trees) (tree ∷ []))
      ∙ flat_trees-append (stream_view old.trees) (tree_view tree ∷ [])
      ∙ ap (λ z. flat_trees (stream_view old.trees) ++ z) (nil_tail (flat (tree_view tree)));
}

pub groups-push : {A : Type 0} (xs : List (GroupBuilder A)) (o : GroupBuilder A) → reverse (map group_of (xs ++ o ∷ []))
    ≡ group_of o ∷ reverse (map group_of xs)
groups-push xs o = ap reverse (map-append group_of xs (o ∷ [])) ∙ reverse-append (map group_of xs) (group_of o ∷ [])

pub groups_length : {A : Type 0} (xs : List (GroupBuilder A)) → length (reverse (map group_of xs)) ≡ length xs
groups_length xs = length-reverse (map group_of xs) ∙ length_map xs
  where
    length_map : {A : Type 0} (xs : List (GroupBuilder A)) → length (map group_of xs) ≡ length xs
    length_map [] = refl
    length_map (x ∷ xs) = ap suc (length_map xs)

pub flat_open-push : {A : Type 0} (file : ℕ) (xs : List (GroupBuilder A)) (o : GroupBuilder A)
    → flat_open file (xs ++ o ∷ []) ≡ flat_open file xs ++ (flat_trees (stream_view o.before)
    ++ (Opening o.delimiter (record { file = file; lo = o.at; hi = o.at + 1 }) ∷ []))
flat_open-push file [] o = refl
flat_open-push file (x ∷ xs) o =
    let f = flat_trees (stream_view x.before) in
    let p = Opening x.delimiter (record { file = file; lo = x.at; hi = x.at + 1 }) in
    ap (λ z. f ++ (p ∷ z)) (flat_open-push file xs o)
    ∙ sym (append_assoc f (p ∷ flat_open file xs) (flat_trees (stream_view o.before)
    ++ (Opening o.delimiter (record { file = file; lo = o.at; hi = o.at + 1 }) ∷ [])))

-- After the builder of token trees has handled an opening delimiter, one more group is open.
pub opens_group : {A : Type 0} (old new : TreeBuilder A) (o : GroupBuilder A) → new.opened.items ≡ old.opened.items
    ++ o ∷ [] → o.before ≡ old.trees → trees_of new.trees ≡ [] → new.file ≡ old.file → length old.opened.items < 128
    → OpensGroup old new o.delimiter o.at
opens_group old new o pushed before empty file shallow =
    let xs = old.opened.items in
    let opening = Opening o.delimiter (record { file = old.file; lo = o.at; hi = o.at + 1 }) ∷ [] in
    record {
      shallow = omega (arith, groups_length xs);
      groups = ap (λ os. reverse (map group_of os)) pushed ∙ groups-push xs o;
      file_same = file;
      flat =
          ap (λ f. flat_open f new.opened.items ++ flat_trees (stream_view new.trees)) file
          ∙ ap (λ os. flat_open old.file os ++ flat_trees (stream_view new.trees)) pushed
          ∙ ap (λ ts. flat_open old.file (xs ++ o ∷ []) ++ flat_trees (map tree_view ts)) empty
          ∙ nil_tail (flat_open old.file (xs ++ o ∷ []))
          ∙ flat_open-push old.file xs o
          ∙ ap (λ s. flat_open old.file xs ++ (flat_trees (stream_view s) ++ opening)) before
          ∙ sym (append_assoc (flat_open old.file xs) (flat_trees (stream_view old.trees)) opening);
    }

flat-group : {A : Type 0} (g : Group A) → flat (tree_view (tree.Group g))
    ≡ Opening (delimiter_of g) (opener_span (group_span g)) ∷ (flat_trees (stream_view (stream_of g))
    ++ (Closing (delimiter_of g) (closer_span (group_span g)) ∷ []))
flat-group g = ap flat (tree_view-group g)

-- The flat list of a group's tokens consists of the opening delimiter, the tokens inside, and the closing delimiter.
flat_closed : {A : Type 0} (g : Group A) (d : Delimiter) (file at lo hi : ℕ) (inside : List FlatToken) → delimiter_of g
    ≡ d → group_span g ≡ record { file = file; lo = at; hi = hi } → flat_trees (stream_view (stream_of g)) ≡ inside → hi
    ≡ lo + 1 → flat (tree_view (tree.Group g)) ≡ Opening d (record { file = file; lo = at; hi = at + 1 }) ∷
    (inside ++ (Closing d (record { file = file; lo = lo; hi = hi }) ∷ []))
flat_closed g d file at lo hi inside d_is span_is inside_is one =
    let low : hi - 1 ≡ lo = omega arith in
    flat-group g
    ∙ ap (λ x. Opening x (opener_span (group_span g)) ∷ (flat_trees (stream_view (stream_of g))
    ++ (Closing x (closer_span (group_span g)) ∷ []))) d_is
    ∙ ap (λ s. Opening d (opener_span s) ∷ (flat_trees (stream_view (stream_of g)) ++ (Closing d (closer_span s) ∷ [])))
    span_is
    ∙ ap (λ x. Opening d (record { file = file; lo = at; hi = at + 1 }) ∷
    (x ++ (Closing d (record { file = file; lo = hi - 1; hi = hi }) ∷ []))) inside_is
    ∙ ap (λ n. Opening d (record { file = file; lo = at; hi = at + 1 }) ∷
    (inside ++ (Closing d (record { file = file; lo = n; hi = hi }) ∷ []))) low

same_closer : (d : Delimiter) → is_pair (opener_of d) (closer_of d) ≡ true
same_closer Parenthesis = refl
same_closer Brace = refl
same_closer Bracket = refl

other_closer : (d e : Delimiter) → d ≢ e → is_pair (opener_of d) (closer_of e) ≡ false
other_closer Parenthesis Parenthesis h = absurd (h refl)
other_closer Parenthesis Brace h = refl
other_closer Parenthesis Bracket h = refl
other_closer Brace Parenthesis h = refl
other_closer Brace Brace h = absurd (h refl)
other_closer Brace Bracket h = refl
other_closer Bracket Parenthesis h = refl
other_closer Bracket Brace h = refl
other_closer Bracket Bracket h = absurd (h refl)

-- After the builder of token trees has handled a closing delimiter, the innermost group is closed. The closed group is
-- the last token tree of the group around it, or of the text.
pub closes_group : {A : Type 0} (old between new : TreeBuilder A) (o : GroupBuilder A) (g : Group A) (d : Delimiter)
    (lo hi : ℕ) → old.opened.items ≡ between.opened.items ++ o ∷ [] → o.before ≡ between.trees → between.file ≡ old.file
    → o.delimiter ≡ d → delimiter_of g ≡ d → stream_of g ≡ old.trees → group_span g
    ≡ record { file = old.file; lo = o.at; hi = hi } → hi ≡ lo + 1 → TakesTree between new (tree.Group g)
    → ClosesGroup old new d lo hi
closes_group old between new o g d lo hi popped_is before file d_is g_delimiter g_stream g_span one takes =
    let xs = between.opened.items in
    let groups_are : groups_of old ≡ group_of o ∷ reverse (map group_of xs) = ap (λ os. reverse (map group_of os))
    popped_is ∙ groups-push xs o in
    let inside = flat_trees (stream_view old.trees) in
    let front = flat_open old.file xs in
    let opening : FlatToken = Opening d (record { file = old.file; lo = o.at; hi = o.at + 1 }) in
    let closing : FlatToken = Closing d (record { file = old.file; lo = lo; hi = hi }) in
    let closed : flat (tree_view (tree.Group g)) ≡ opening ∷ (inside ++ (closing ∷ [])) =
    flat_closed g d old.file o.at lo hi inside g_delimiter g_span (ap (λ s. flat_trees (stream_view s)) g_stream) one in
    let new_file : new.file ≡ old.file = takes.file_same ∙ file in
    let new_flat : flat_builder new ≡ front ++ (flat_trees (stream_view between.trees)
    ++ (opening ∷ (inside ++ (closing ∷ [])))) =
    ap (λ f. flat_open f new.opened.items ++ flat_trees (stream_view new.trees)) new_file
    ∙ ap (λ os. flat_open old.file os.items ++ flat_trees (stream_view new.trees)) takes.opened_same
    ∙ ap (λ z. front ++ z) (takes.trees ∙ ap (λ z. flat_trees (stream_view between.trees) ++ z) closed) in
    let old_flat : flat_builder old ≡ (front ++ (flat_trees (stream_view between.trees) ++ (opening ∷ []))) ++ inside =
    ap (λ os. flat_open old.file os ++ inside) popped_is
    ∙ ap (λ z. z ++ inside) (flat_open-push old.file xs o)
    ∙ ap (λ s. (front ++ (flat_trees (stream_view s) ++ (Opening o.delimiter
    (record { file = old.file; lo = o.at; hi = o.at + 1 }) ∷ []))) ++ inside) before
    ∙ ap (λ x. (front ++ (flat_trees (stream_view between.trees)
    ++ (Opening x (record { file = old.file; lo = o.at; hi = o.at + 1 }) ∷ []))) ++ inside) d_is in
    record {
      closes_it = ap (λ gs. closes gs (closer_of d)) groups_are ∙ ap (λ x. is_pair (opener_of x) (closer_of d)) d_is
          ∙ same_closer d;
      groups = ap (λ os. reverse (map group_of os.items)) takes.opened_same ∙ sym (ap popped groups_are);
      file_same = new_file;
      flat = new_flat ∙ regroup_closed front (flat_trees (stream_view between.trees)) inside opening closing
          ∙ ap (λ z. z ++ (closing ∷ [])) (sym old_flat);
    }
  where
    regroup_closed : (a b i : List FlatToken) (o c : FlatToken) → a ++ (b ++ (o ∷ (i ++ (c ∷ []))))
        ≡ ((a ++ (b ++ (o ∷ []))) ++ i) ++ (c ∷ [])
    regroup_closed a b i o c = simp append_assoc

-- A closing delimiter of another pair doesn't close the innermost open group.
pub wrong_closer : {A : Type 0} (old : TreeBuilder A) (xs : List (GroupBuilder A)) (o : GroupBuilder A) (d : Delimiter)
    → old.opened.items ≡ xs ++ o ∷ [] → o.delimiter ≢ d → closes (groups_of old) (closer_of d) ≡ false
wrong_closer old xs o d popped_is other =
    ap (λ os. closes (reverse (map group_of os)) (closer_of d)) popped_is
    ∙ ap (λ gs. closes gs (closer_of d)) (groups-push xs o)
    ∙ other_closer o.delimiter d other

-- If a group is still open when the builder of token trees is finished, the text ends inside the innermost open group.
pub ends_in_group : {A : Type 0} (old : TreeBuilder A) (xs : List (GroupBuilder A)) (o : GroupBuilder A)
    → old.opened.items ≡ xs ++ o ∷ [] → EndsInGroup (groups_of old) (record { kind = UnclosedGroup; at = o.at })
ends_in_group old xs o popped_is =
    let groups_are : groups_of old ≡ group_of o ∷ reverse (map group_of xs) = ap (λ os. reverse (map group_of os))
    popped_is ∙ groups-push xs o in
    record {
      kind = refl;
      some_open = λ none. let q : group_of o ∷ reverse (map group_of xs) ≡ [] = sym groups_are ∙ none in absurd (cc);
      place = λ at. ap (λ gs. innermost gs at) (sym groups_are);
    }

-- If a token that isn't a group is appended to the builder of token trees, the builder has one more token, and the open
-- groups stay the same.
pub takes_leaf : {A : Type 0} (old new : TreeBuilder A) (t : TokenTree A) (f : FlatToken) → flat (tree_view t) ≡ f ∷ []
    → TakesTree old new t → (groups_of new ≡ groups_of old) × (flat_builder new ≡ flat_builder old ++ f ∷ [])
    × (new.file ≡ old.file)
takes_leaf old new t f is takes = (
  ap (λ os. reverse (map group_of os.items)) takes.opened_same,
  ap (λ k. flat_open k new.opened.items ++ flat_trees (stream_view new.trees)) takes.file_same
      ∙ ap (λ os. flat_open old.file os.items ++ flat_trees (stream_view new.trees)) takes.opened_same
      ∙ ap (λ z. flat_open old.file old.opened.items ++ z) (takes.trees
      ∙ ap (λ z. flat_trees (stream_view old.trees) ++ z) is)
      ∙ sym (append_assoc (flat_open old.file old.opened.items) (flat_trees (stream_view old.trees)) (f ∷ [])),
  takes.file_same,
)

pub takes_mark : {A : Type 0} (old new : TreeBuilder A) (p : Mark) (form : LexemeForm) (c : ℕ) (text : List ℕ)
    (lo hi : ℕ) → form ≡ MarkForm c → p ≡ record { ch = c; span = record { file = old.file; lo = lo; hi = hi } }
    → TakesTree old new (tree.Punct p) → TakesToken old new form text lo hi
takes_mark {A} old new p form c text lo hi form_is p_is takes =
    let (groups, flat_new, file) = takes_leaf old new (tree.Punct p) (FlatPunct p) (ap flat (tree_view-punct A p)) takes
    in
    let span : Span = record { file = old.file; lo = lo; hi = hi } in
    let token : flat_form form text span ≡ FlatPunct p = ap (λ f. flat_form f text span) form_is
    ∙ ap FlatPunct (sym p_is) in
    record {
      groups = ap (λ f. after_form (groups_of old) f lo) form_is ∙ ap Some (sym groups);
      flat = flat_new ∙ ap (λ f. flat_builder old ++ f ∷ []) (sym token);
      file = file;
    }

pub takes_literal : {A : Type 0} (old new : TreeBuilder A) (l : SpannedText) (form : LexemeForm) (text : List ℕ)
    (lo hi : ℕ) → form ≡ LiteralForm → l ≡ record { text = text; span = record { file = old.file; lo = lo; hi = hi } }
    → TakesTree old new (tree.Literal l) → TakesToken old new form text lo hi
takes_literal {A} old new l form text lo hi form_is l_is takes =
    let (groups, flat_new, file) = takes_leaf old new (tree.Literal l) (FlatLiteral l) (ap flat (tree_view-literal A l))
    takes in
    let span : Span = record { file = old.file; lo = lo; hi = hi } in
    let token : flat_form form text span ≡ FlatLiteral l = ap (λ f. flat_form f text span) form_is
    ∙ ap FlatLiteral (sym l_is) in
    record {
      groups = ap (λ f. after_form (groups_of old) f lo) form_is ∙ ap Some (sym groups);
      flat = flat_new ∙ ap (λ f. flat_builder old ++ f ∷ []) (sym token);
      file = file;
    }

pub takes_ident : {A : Type 0} (old new : TreeBuilder A) (i : SpannedText) (form : LexemeForm) (text : List ℕ)
    (lo hi : ℕ) → form ≡ IdentifierForm → i ≡ record { text = text; span = record { file = old.file; lo = lo; hi = hi } } → TakesTree old new (tree.Ident i) → TakesToken old new form text lo hi
takes_ident {A} old new i form text lo hi form_is i_is takes =
    let (groups, flat_new, file) = takes_leaf old new (tree.Ident i) (FlatIdent i) (ap flat (tree_view-ident A i)) takes
    in
    let span : Span = record { file = old.file; lo = lo; hi = hi } in
    let token : flat_form form text span ≡ FlatIdent i = ap (λ f. flat_form f text span) form_is
    ∙ ap FlatIdent (sym i_is) in
    record {
      groups = ap (λ f. after_form (groups_of old) f lo) form_is ∙ ap Some (sym groups);
      flat = flat_new ∙ ap (λ f. flat_builder old ++ f ∷ []) (sym token);
      file = file;
    }
