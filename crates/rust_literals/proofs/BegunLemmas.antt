-- Lemmas about the token trees after the literals at the start of a text.
use Rattle.std.proofs.Common.{arith, ◌≡◌, ◌<◌, ℕ, ◌+◌, suc, List, [], ◌∷◌, ◌++◌, length, get_or, drop, drop-cons, add-one, map, Option, Some, None, refl, sym, ◌∙◌, ap, subst}
use Rattle.std.specs.Prelude.{IfSome, IfNone}
use Rattle.std.specs.List.{AllByRecursion}
use Rattle.rl_syntax.specs.Texts.{SpannedText}
use Rattle.rl_tokens.specs.Trees.{Tree, GroupTree, IdentTree, PunctTree, LiteralTree, FlatToken, flat_trees}
use Rattle.rl_tokens.specs.Lexing.{flat_token, Lexes}
use Rattle.rl_fronts.specs.Fronts.{IsFront, HasNoFront}
use Rattle.rl_tokens.proofs.CutLaws.{begins_flat}
use Rattle.rl_fronts.proofs.FrontLemmas.{one_front}
use Rattle.rust_literals.specs.declared.lit.Lit.{Lit}
use Rattle.rust_literals.specs.Parsing.{ReadsLiterals}
use Rattle.rust_literals.specs.Flat.{IsNoGroup, AreBegun}

-- If the tokens of the token trees `trees` begin with the tokens of the token trees `front`, and `front` contains no
-- group, the list `trees` begins with the list `front`.
front_trees : (front trees : List Tree) (more : List FlatToken) → AllByRecursion IsNoGroup front → flat_trees trees
    ≡ flat_trees front ++ more → (following : List Tree) × (trees ≡ front ++ following)
front_trees [] trees more h e = (trees, refl)
front_trees (GroupTree d inside span ∷ front) trees more (none, h) e = absurd none
front_trees (IdentTree i ∷ front) (IdentTree j ∷ trees) more (_, h) e =
    let same : j ≡ i = cc in
    let rest : flat_trees trees ≡ flat_trees front ++ more = cc in
    let further = front_trees front trees more h rest in
    (further.0, ap (λ x. IdentTree x ∷ trees) same ∙ ap (λ xs. IdentTree i ∷ xs) further.1)
front_trees (PunctTree i ∷ front) (PunctTree j ∷ trees) more (_, h) e =
    let same : j ≡ i = cc in
    let rest : flat_trees trees ≡ flat_trees front ++ more = cc in
    let further = front_trees front trees more h rest in
    (further.0, ap (λ x. PunctTree x ∷ trees) same ∙ ap (λ xs. PunctTree i ∷ xs) further.1)
front_trees (LiteralTree i ∷ front) (LiteralTree j ∷ trees) more (_, h) e =
    let same : j ≡ i = cc in
    let rest : flat_trees trees ≡ flat_trees front ++ more = cc in
    let further = front_trees front trees more h rest in
    (further.0, ap (λ x. LiteralTree x ∷ trees) same ∙ ap (λ xs. LiteralTree i ∷ xs) further.1)
front_trees (tree ∷ front) trees more h e = absurd (cc)

-- If a text begins with the literals `list`, its token trees are the token trees of these literals, followed by other
-- token trees.
pub goes_on : {A : Type 0} (text : List ℕ) (file : ℕ) (list : List (Lit A)) (trees : List Tree)
    → AreBegun text file list → Lexes text file trees → (following : List Tree) × ReadsLiterals trees list following
goes_on text file list trees begun lexes =
    let read = begun.read in
    let (more, same) = begins_flat 0 file text read.cuts.cuts lexes.cuts begun.rest read.cuts.are_cuts lexes.are_cuts in
    let flat : flat_trees trees ≡ flat_trees read.trees ++ map (flat_token file) more =
    sym lexes.flat_is ∙ same ∙ ap (λ z. z ++ map (flat_token file) more) read.cuts.flat_is in
    let (following, is) = front_trees read.trees trees (map (flat_token file) more) read.cuts.no_groups flat in
    (following, subst (λ (ts : List Tree). ReadsLiterals ts list following) (sym is) (read.leads following))

-- The remaining token trees of a text begin with the literals of a list from the index `i` on. If a parser consumes one
-- literal, the token trees after this literal begin with the literals from the index `i + 1` on.
pub pass_one : {A : Type 0} {F : Type 0} (token_in : F → SpannedText) (old new : List Tree) (literals : List (Lit A))
    (i : ℕ) (rest : List Tree) (front : Option F) → i < length literals
    → IfSome front (λ f. IsFront old (token_in f) new) → IfNone front (HasNoFront old)
    → ReadsLiterals old (drop i literals) rest → ReadsLiterals new (drop (i + 1) literals) rest
pass_one token_in old new [] i rest front i_in some none leads = absurd (omega arith)
pass_one {F = F} token_in old new (l ∷ ls) i rest front i_in some none leads =
    let next : drop i (l ∷ ls) ≡ get_or (l ∷ ls) i l ∷ drop (suc i) (l ∷ ls) = drop-cons (l ∷ ls) i l i_in in
    rw add-one (go front some none (subst (λ xs. ReadsLiterals old xs rest) next leads))
  where
    go : (front : Option F) → IfSome front (λ f. IsFront old (token_in f) new) → IfNone front (HasNoFront old)
        → ReadsLiterals old (get_or (l ∷ ls) i l ∷ drop (suc i) (l ∷ ls)) rest
        → ReadsLiterals new (drop (suc i) (l ∷ ls)) rest
    go None some none (after, is, more) = absurd (none is.token after is.front)
    go (Some f) some none (after, is, more) =
        subst (λ (ts : List Tree). ReadsLiterals ts (drop (suc i) (l ∷ ls)) rest)
        (one_front old is.token (token_in f) after new is.front some).1 more
