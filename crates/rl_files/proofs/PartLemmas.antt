-- Lemmas about the names in a path, and the parts of a pattern. Slashes separate them.
use Rattle.std.proofs.Common.{◌≡◌, ◌≢◌, ℕ, ◌+◌, ◌-◌, ◌<◌, ◌≤◌, ◌==◌, ◌&&◌, not, Bool, true, false, List, [], ◌∷◌, ◌++◌, take, drop, length, slice_index, refl, sym, ap, ◌∙◌, subst, arith, cond, take_all, length-drop, rules, eq-eqb, ne_eqb, All}
use Rattle.std.proofs.lemmas.Grind.{common_steps}
use Rattle.std.proofs.lemmas.Bool.{cond-false, false≢true}
use Rattle.std.proofs.lemmas.List.Elements.{All-nil, All-cons, All-append}
use Rattle.std.proofs.lemmas.List.Splits.{slice_split_at, slice_split_none}
use Rattle.std.specs.List.{onto_first}
use Rattle.std.specs.Prelude.{Option, Some, None}
use Rattle.std.specs.Option.{is_some}
use denote.Ref.{Bor}
use Rattle.rl_files.specs.declared.glob.Stop.TheVariants.{Decided}
use Rattle.rl_files.specs.Globs.{is_double_star, name_matches, parts_left, path_parts, pattern_left, pattern_parts, with_inside}
use Rattle.rl_files.specs.GlobStops.{StopsAs}
use Rattle.rl_files.proofs.GlobLemmas.{Goes, stops_at_end}

abbrev pub NoSlash : ℕ → Type 0
NoSlash b = (b == 47) ≡ false

-- If the first bytes contain no slash, and the next byte isn't a slash, the first bytes with the next one contain no slash.
pub no_slash_more : (xs : List ℕ) (at : ℕ) → at < length xs → All NoSlash (take at xs) → slice_index xs at ≢ 47
    → All NoSlash (take (at + 1) xs)
no_slash_more xs at within before differs =
    let cut : take (at + 1) xs ≡ take at xs ++ slice_index xs at ∷ [] = grind (arith, common_steps) in
    subst (λ (z : List ℕ). All NoSlash z) (sym cut) (All-append NoSlash (take at xs) (slice_index xs at ∷ []) before
    (All-cons NoSlash (slice_index xs at) [] (ne_eqb (slice_index xs at) 47 differs) (All-nil NoSlash)))

-- The first slash of a path ends its first name.
pub slash_cuts : (xs : List ℕ) (at : ℕ) → at < length xs → All NoSlash (take at xs) → slice_index xs at ≡ 47
    → path_parts xs ≡ take at xs ∷ path_parts (take (length xs - (at + 1)) (drop (at + 1) xs))
slash_cuts xs at within before slash =
    let cut : xs ≡ take at xs ++ slice_index xs at ∷ drop (at + 1) xs = grind (arith, common_steps) in
    let whole : take (length xs - (at + 1)) (drop (at + 1) xs) ≡ drop (at + 1) xs =
    take_all (length xs - (at + 1)) (drop (at + 1) xs) (omega (arith, length-drop (at + 1) xs)) in
    ap path_parts cut ∙ slice_split_at (λ b. b == 47) (take at xs) (slice_index xs at) (drop (at + 1) xs) before
    (eq-eqb (slice_index xs at) 47 slash) ∙ ap (λ (z : List ℕ). take at xs ∷ path_parts z) (sym whole)

-- A path without a slash is one name.
pub no_slash_cuts : (xs : List ℕ) (at : ℕ) → length xs ≤ at → All NoSlash (take at xs) → path_parts xs ≡ xs ∷ []
no_slash_cuts xs at end none = slice_split_none (λ b. b == 47) xs
    (subst (λ (z : List ℕ). All NoSlash z) (take_all at xs end) none)

-- A path has at least one part.
some_part : (xs : List ℕ) → (length (path_parts xs) == 0) ≡ false
some_part [] = refl
some_part (x ∷ xs) = go (x == 47)
  where
    onto : (parts : List (List ℕ)) → (length (onto_first x parts) == 0) ≡ false
    onto [] = search rules
    onto (part ∷ parts) = search rules

    go : (b : Bool) → (length (cond b ([] ∷ path_parts xs) (onto_first x (path_parts xs))) == 0) ≡ false
    go true = search rules
    go false = onto (path_parts xs)

and_false : (a b : Bool) → b ≡ false → (a && b) ≡ false
and_false true b e = e
and_false false b e = refl

-- If the text of a pattern is a part, a slash and more text, the parts of the pattern are that part and the parts of
-- the text after the slash.
pub pattern_more : (pattern part after : List ℕ) → path_parts pattern ≡ part ∷ path_parts after
    → pattern_parts pattern ≡ part ∷ pattern_parts after
pattern_more pattern part after cut = ap with_inside cut
    ∙ cond-false _ _ _ (and_false (is_double_star part) (length (path_parts after) == 0) (some_part after))

-- If all parts of a pattern have matched, the pattern matches the path exactly if no name of the path is left.
pub path_ends : (pattern path : List (List ℕ)) (left : Option (Bor (List ℕ))) (none : Bool) → is_some left ≡ not none
    → Goes is_double_star name_matches pattern path [] (parts_left left)
    → StopsAs is_double_star name_matches pattern_left parts_left pattern path (Decided none)
path_ends pattern path left none is g = subst
    (λ (b : Bool). StopsAs is_double_star name_matches pattern_left parts_left pattern path (Decided b))
    (all_passed left none is)
    (stops_at_end is_double_star name_matches pattern_left parts_left pattern path (parts_left left) g)
  where
    turned : (b : Bool) → false ≡ not b → true ≡ b
    turned true e = refl
    turned false e = absurd (false≢true e)

    turned_back : (b : Bool) → true ≡ not b → false ≡ b
    turned_back true e = absurd (false≢true (sym e))
    turned_back false e = refl

    all_passed : (o : Option (Bor (List ℕ))) (b : Bool) → is_some o ≡ not b → (length (parts_left o) == 0) ≡ b
    all_passed None b e = turned b e
    all_passed (Some text) b e = some_part text.now ∙ turned_back b e
