-- Lemmas about the order of names, and about the steps of a walk.
use Rattle.std.proofs.Common.{◌≡◌, inl, inr, ℕ, ◌+◌, ◌<◌, List, [], ◌∷◌, ◌++◌, length, sym, ap, ◌∙◌, subst, arith}
use Rattle.std.specs.Prelude.{Vec, Option, Some, None, Ok, Err, IfSome, ◌⊎◌}
use Rattle.std.specs.List.Sorted.{IsSorted, IsPermutation}
use Rattle.std.specs.Cmp.Lexicographic.{slice_cmp}
use Rattle.std.specs.Ordering.{nat_cmp}
use Rattle.std.specs.declared.cmp.Ordering.{Ordering}
use Rattle.std.proofs.lemmas.List.{get_or-map, length-map}
use Rattle.std.proofs.lemmas.List.Sorted.{IsPermutation-map}
use Rattle.rl_files.specs.Trees.{World, names_bytes}
use Rattle.rl_files.specs.declared.walk.Selection.{Selection}
use Rattle.rl_files.specs.declared.walk.WalkError.TheVariants.{TooManyDirectories}
use Rattle.rl_files.specs.declared.tree.PathError.{PathError}
use Rattle.rl_files.specs.declared.tree.PathError.TheVariants.{NotADirectory, OutOfMemory}
use Rattle.rl_files.specs.Walks.{Waypoint, AtDirectory, AtFile, AtBadPath, FileAt, ErrorAt, Visits, VisitsNothing, VisitsFile, VisitsBadPath, EntersDirectory, MissesDirectory, IsGivenFile, WalksOn, VisitsFirst, VisitsNone, EntersInOrder, EntersInTurn, EntersNone, EntersNext, EndsEarly, given_length, waypoints_in}

-- If names are in order, the lists of their bytes are in order.
abbrev pub name_cmp : {A : Type 0} → Vec ℕ A → Vec ℕ A → Ordering
name_cmp x y = slice_cmp nat_cmp x.items y.items

pub texts_sorted : {A : Type 0} (xs : List (Vec ℕ A)) → IsSorted name_cmp xs
    → IsSorted (slice_cmp nat_cmp) (names_bytes xs)
texts_sorted [] h k d low high = absurd (omega arith)
texts_sorted {A} (x ∷ xs) h k d low high =
    let short : k + 1 < length (x ∷ xs) = subst (λ (n : ℕ). k + 1 < n)
    (length-map (x ∷ xs) (λ (s : Vec ℕ A). s.items)) high in
    let second = get_or-map (λ (s : Vec ℕ A). s.items) (x ∷ xs) (k + 1) x d short in
    let first = get_or-map (λ (s : Vec ℕ A). s.items) (x ∷ xs) k x d (omega (arith, short)) in
    rw (second, first) (h k x low short)

-- The sorted names of a directory become the entries that the walk visits next.
pub enters : {A : Type 0} (selection : Selection) (from : ℕ) (directory : List ℕ) (names sorted : List (Vec ℕ A)) (old new : List Waypoint)
    → IsPermutation names sorted → IsSorted name_cmp sorted → new
    ≡ waypoints_in selection from directory (names_bytes sorted)
    ++ old → EntersInOrder selection from directory (names_bytes names) old new
enters {A} selection from directory names sorted old new same inorder is = (
  names_bytes sorted,
  (
    IsPermutation-map (λ (s : Vec ℕ A). s.items) names sorted same,
    texts_sorted sorted
        inorder,
  ),
  is,
)

-- The invariant of a walk holds before its first step.
pub go_start : (selection : Selection) (holds : Option World) (old : List Waypoint) → WalksOn selection holds old old
go_start selection None old = tt
go_start selection (Some w) old = λ visits m. m

-- If no entry is left to visit, the walk returns nothing.
pub go_none : (selection : Selection) (holds : Option World) (old mid : List Waypoint) → WalksOn selection holds old mid → mid ≡ [] → VisitsNone selection holds old
go_none selection None old mid on is = tt
go_none selection (Some w) old mid on is = on [] (subst (λ (z : List Waypoint). Visits selection w z []) (sym is) VisitsNothing)

-- If the next entry of a walk is a file, the walk returns the file.
pub go_file : (selection : Selection) (holds : Option World) (old mid rest : List Waypoint) (path : List ℕ) → WalksOn selection holds old mid → mid
    ≡ AtFile path ∷ rest → VisitsFirst selection holds old (FileAt path) rest
go_file selection None old mid rest path on is = tt
go_file selection (Some w) old mid rest path on is = λ visited m. on (FileAt path ∷ visited)
    (subst (λ (z : List Waypoint). Visits selection w z (FileAt path ∷ visited)) (sym is) (VisitsFile m))

-- If the next entry of a walk is a path that isn't UTF-8, the walk reports the path.
pub go_bad_path : (selection : Selection) (holds : Option World) (old mid rest : List Waypoint) (path : List ℕ) (why : PathError)
    → WalksOn selection holds old mid → mid ≡ AtBadPath path why ∷ rest → VisitsFirst selection holds old (ErrorAt path why) rest
go_bad_path selection None old mid rest path why on is = tt
go_bad_path selection (Some w) old mid rest path why on is = λ visited m. on (ErrorAt path why ∷ visited)
    (subst (λ (z : List Waypoint). Visits selection w z (ErrorAt path why ∷ visited)) (sym is) (VisitsBadPath m))

-- If the next entry of a walk is a directory that can't be read, the walk reports the directory.
pub go_missing : (selection : Selection) (holds : Option World) (old mid rest : List Waypoint) (given : Option ℕ) (path : List ℕ) (why : PathError)
    → WalksOn selection holds old mid → mid ≡ AtDirectory given path ∷ rest → (why ≡ OutOfMemory)
    ⊎ IfSome holds (λ w. w.names path ≡ Err why) → VisitsFirst selection holds old (ErrorAt path why) rest
go_missing selection None old mid rest given path why on is found = tt
go_missing selection (Some w) old mid rest given path why on is found = λ visited m. on (ErrorAt path why ∷ visited)
    (subst (λ (z : List Waypoint). Visits selection w z (ErrorAt path why ∷ visited)) (sym is) (MissesDirectory why found m))

-- If the next entry of a walk is a path that the user passed and isn't a directory, the walk returns it as a file.
pub go_given : (selection : Selection) (holds : Option World) (old mid rest : List Waypoint) (given : Option ℕ) (path : List ℕ) → WalksOn selection holds old mid
    → mid ≡ AtDirectory given path ∷ rest → given ≡ None → (NotADirectory ≡ OutOfMemory)
    ⊎ IfSome holds (λ w. w.names path ≡ Err NotADirectory) → VisitsFirst selection holds old (FileAt path) rest
go_given selection holds old mid rest given path on is given_is (inl bad) = cc
go_given selection None old mid rest given path on is given_is (inr found) = tt
go_given selection (Some w) old mid rest given path on is given_is (inr found) = λ visited m. on (FileAt path ∷ visited)
    (subst (λ (z : List Waypoint). Visits selection w z (FileAt path ∷ visited))
    (sym (is ∙ ap (λ (b : Option ℕ). AtDirectory b path ∷ rest) given_is)) (IsGivenFile found m))

-- If the next entry of a walk is a directory, the walk enters the directory.
pub go_enter : (selection : Selection) (holds : Option World) (old mid rest new : List Waypoint) (given : Option ℕ) (path : List ℕ)
    (names : List (List ℕ)) → WalksOn selection holds old mid → mid ≡ AtDirectory given path ∷ rest
    → IfSome holds (λ w. w.names path ≡ Ok names) → EntersInOrder selection (given_length given path) path names rest new → WalksOn selection holds old new
go_enter selection None old mid rest new given path names on is found enters = tt
go_enter selection (Some w) old mid rest new given path names on is found (sorted, order, new_is) = λ visited m. on visited
    (subst (λ (z : List Waypoint). Visits selection w z visited) (sym is) (EntersDirectory names sorted found order
    (subst (λ (z : List Waypoint). Visits selection w z visited) new_is m)))

-- The walk has entered `turns` directories one right after another, and has returned nothing meanwhile.
abbrev pub HasEntered : Selection → Option World → List Waypoint → ℕ → List Waypoint → Type 0
HasEntered selection holds old turns new = IfSome holds (λ w. EntersInTurn selection w old turns new)

pub entered_none : (selection : Selection) (holds : Option World) (old : List Waypoint) → HasEntered selection holds old 0 old
entered_none selection None old = tt
entered_none selection (Some w) old = EntersNone

pub entered_next : (selection : Selection) (holds : Option World) (old mid rest new : List Waypoint) (turns : ℕ) (given : Option ℕ)
    (path : List ℕ) (names : List (List ℕ)) → HasEntered selection holds old turns mid → mid ≡ AtDirectory given path ∷ rest
    → IfSome holds (λ w. w.names path ≡ Ok names) → EntersInOrder selection (given_length given path) path names rest new
    → HasEntered selection holds old (turns + 1) new
entered_next selection None old mid rest new turns given path names entered is found enters = tt
entered_next selection (Some w) old mid rest new turns given path names entered is found (sorted, order, new_is) =
    subst (λ (z : List Waypoint). EntersInTurn selection w old (turns + 1) z) (sym new_is) (EntersNext names sorted
    (subst (λ (z : List Waypoint). EntersInTurn selection w old turns z) is entered) found order)

-- If the walk has entered the largest number of directories that it may enter without a result, it ends early.
pub ended_early : (selection : Selection) (holds : Option World) (old new : List Waypoint) (turns : ℕ)
    → HasEntered selection holds old turns new → turns ≡ 4294967295 → EndsEarly selection holds old TooManyDirectories
ended_early selection None old new turns entered all = tt
ended_early selection (Some w) old new turns entered all =
    (new, subst (λ (n : ℕ). EntersInTurn selection w old n new) all entered)
