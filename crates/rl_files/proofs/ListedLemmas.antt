-- Lemmas about files that list paths, and about the first one that can't be read.
use Rattle.std.proofs.Common.{◌≡◌, ℕ, ◌+◌, ◌<◌, ◌==◌, Bool, true, false, All, List, [], ◌∷◌, ◌++◌, length, get_or, take, drop, sym, ap, ◌∙◌, take-append-drop}
use Rattle.std.specs.List.{flat_map}
use Rattle.std.proofs.lemmas.List.{drop_more}
use Rattle.std.proofs.lemmas.List.Splits.{slice_split_none, slice_split_at}
use Rattle.rl_files.specs.Listed.{AreWithAllListed, IsFirstUnread, listed_name, names_between}
use Rattle.rl_files.specs.Trees.{World}
use Rattle.rl_files.specs.declared.tree.PathError.{PathError}

-- The byte ends a path.
abbrev pub ends : ℕ → ℕ → Bool
ends between b = b == between

-- A path ends at an offset.
pub name_ends : (list : List ℕ) (between at : ℕ) → at < length list → ends between (get_or list at 0) ≡ true
    → All (λ x. ends between x ≡ false) (take at list)
    → names_between between list ≡ listed_name (take at list) ++ names_between between (drop (at + 1) list)
name_ends list between at within hit none =
    let parts : list ≡ take at list ++ get_or list at 0 ∷ drop (at + 1) list =
    sym (take-append-drop at list) ∙ ap (λ (z : List ℕ). take at list ++ z) (drop_more list at 0 within) in
    ap (names_between between) parts ∙ ap (flat_map listed_name)
    (slice_split_at (ends between) (take at list) (get_or list at 0) (drop (at + 1) list) none hit)

-- No byte ends a path, so the whole list is one path.
pub one_name : (list : List ℕ) (between : ℕ) → All (λ x. ends between x ≡ false) list
    → names_between between list ≡ listed_name list ++ names_between between []
one_name list between none = ap (flat_map listed_name) (slice_split_none (ends between) list none)

-- The invariant of the loop over lists: `rest` are the lists that aren't read yet, and `some` the paths so far. With the paths of
-- the other lists, they are all paths.
pub record IsLeftToList (w : World) (files paths rest some : List (List ℕ)) : Type 0 where
  pub goes_on : (all : List (List ℕ)) → AreWithAllListed w rest some all → AreWithAllListed w files paths all
  pub stops : (file : List ℕ) (why : PathError) → IsFirstUnread w rest some file why
      → IsFirstUnread w files paths file why
