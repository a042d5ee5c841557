-- A walk through directories: the files that it visits, and their order.
use Rattle.std.specs.Prelude.{◌≡◌, ◌⊎◌, ℕ, ◌==◌, Bool, false, cond, not, ◌&&◌, ◌||◌, ◌+◌, ◌-◌, List, [], ◌∷◌, ◌++◌, map, take, drop, length, codes, string_bytes, Option, Some, None, IfSome, ⊤}
use Prim.Native.Char.{code}
use Rattle.std.specs.Char.{is_ascii_alphabetic}
use Rattle.std.specs.Fmt.{decimal}
use Rattle.std.specs.List.{starts_with, ends_with, flat_map, list_all, list_any}
use Rattle.std.specs.Str.{bytes_eq, is_utf8}
use Rattle.std.specs.List.Sorted.{IsSorted, IsPermutation}
use Rattle.std.specs.Cmp.Lexicographic.{slice_cmp}
use Rattle.std.specs.Ordering.{nat_cmp}
use Rattle.std.specs.declared.result.Result.TheVariants.{Ok, Err}
use Rattle.rl_files.specs.declared.tree.PathError.{PathError}
use Rattle.rl_files.specs.declared.tree.PathError.TheVariants.{NotFound, PermissionDenied, IsADirectory, NotADirectory, PathTooLong, PathNotUtf8, GivenNotUtf8, NotUtf8, TooLong, OutOfMemory, NotAFile, Changed, NoRoom, ReadOnly, DirectoryDenied, OwnerChanges, HardLinks, RightsChange, NamesTaken, ReadFailed, WriteFailed}
use Rattle.rl_files.specs.declared.walk.WalkError.{WalkError}
use Rattle.rl_files.specs.declared.walk.WalkError.TheVariants as walk
use Rattle.rl_files.specs.declared.walk.WalkEntry.{WalkEntry}
use Rattle.rl_files.specs.declared.walk.WalkEntry.TheVariants.{Directory, File, BadPath}
use Rattle.rl_files.specs.declared.walk.Selection.{Selection}
use Rattle.rl_files.specs.declared.walk.Visit.{Visit}
use Rattle.rl_files.specs.declared.walk.Visit.TheVariants as visit
use Rattle.rl_files.specs.Globs.{ends_in_slash, is_excluded, borrowed_texts}
use Rattle.rl_files.specs.PathTexts.{bytes_shown, is_marked, unmarked}
use Rattle.rl_files.specs.Trees.{World}

-- The message of the reason why a path can't be read, or why its file can't be replaced.
abbrev pub path_error_message : PathError → List ℕ
path_error_message NotFound = codes "no such file or directory"
path_error_message PermissionDenied = codes "permission denied"
path_error_message IsADirectory = codes "is a directory"
path_error_message NotADirectory = codes "not a directory"
path_error_message PathTooLong = codes "path too long"
path_error_message PathNotUtf8 = codes "skipped a path that is not UTF-8"
path_error_message GivenNotUtf8 = codes "the path is not UTF-8"
path_error_message (NotUtf8 at) = codes "not UTF-8 at byte " ++ decimal at
path_error_message TooLong = codes "longer than 1 GiB"
path_error_message OutOfMemory = codes "out of memory"
path_error_message NotAFile = codes "not a regular file"
path_error_message Changed = codes "changed since it was read"
path_error_message NoRoom = codes "no space left"
path_error_message ReadOnly = codes "read-only file system"
path_error_message DirectoryDenied = codes "no permission to write in its directory"
path_error_message OwnerChanges = codes "its owner or group would change"
path_error_message HardLinks = codes "has other hard links"
path_error_message RightsChange = codes "its permissions or access control list could change"
path_error_message NamesTaken = codes "its temporary names `.rl_scan-0` to `.rl_scan-99` are in use"
path_error_message ReadFailed = codes "read failed"
path_error_message WriteFailed = codes "write failed"

-- The message of the reason why a walk ends before all files are visited.
abbrev pub walk_error_message : WalkError → List ℕ
walk_error_message walk.OutOfMemory = codes "out of memory"
walk_error_message walk.TooManyDirectories = codes "too many directories"

-- Whether a name ends with a dot and the extension `extension`.
abbrev pub has_extension : List ℕ → List ℕ → Bool
has_extension extension name =
    ends_with ◌==◌ name extension && ends_with ◌==◌ (take (length name - length extension) name) (codes ".")

-- Whether the names in a directory include `Cargo.toml`, so that the directory is a Cargo package.
abbrev pub are_of_package : List (List ℕ) → Bool
are_of_package names = list_any (λ name. bytes_eq name (codes "Cargo.toml")) names

-- Whether a walk leaves a name out: a hidden name, and in a Cargo package the directory `target`, into which Cargo
-- builds.
abbrev pub is_left_out : Bool → List ℕ → Bool
is_left_out in_package name =
    starts_with ◌==◌ name (codes ".") || (in_package && bytes_eq name (codes "target/"))

-- Whether a name ends with a dot and one of the extensions.
abbrev pub has_one_of : List (List ℕ) → List ℕ → Bool
has_one_of extensions name = list_any (λ extension. has_extension extension name) extensions

-- Whether a dot is in a list of bytes, with only ASCII letters after the dot.
abbrev pub has_dot_before_letters : List ℕ → Bool
has_dot_before_letters [] = false
has_dot_before_letters (b ∷ bs) = ((b == code ".") && list_all is_ascii_alphabetic bs) || has_dot_before_letters bs

-- Whether a name has an extension of ASCII letters: a dot that isn't the first byte, and only letters after the dot.
abbrev pub has_letter_extension : List ℕ → Bool
has_letter_extension name = has_dot_before_letters (drop 1 name)

-- Whether a name that isn't UTF-8 may be the name of a directory: it has no extension of ASCII letters.
abbrev pub may_be_directory : List ℕ → Bool
may_be_directory name = not (is_utf8 name) && not (has_letter_extension name)

-- Whether a walk visits a name. Directories and files with a selected extension are visited, unless the name is left
-- out. A name that isn't UTF-8 is visited to be reported, if it may be the name of a directory, or of a file with a
-- selected extension.
abbrev pub is_wanted : Selection → Bool → List ℕ → Bool
is_wanted selection in_package name =
    (selection.all || not (is_left_out in_package name))
    && (ends_in_slash name || (has_one_of (borrowed_texts selection.extensions.now) name || may_be_directory name))

-- The path of a name in a directory.
abbrev pub path_in : List ℕ → List ℕ → List ℕ
path_in directory name = cond (ends_in_slash directory) directory (directory ++ codes "/") ++ name

-- An entry that a walk still has to visit. `AtDirectory` is the path of a directory below one that the user passed,
-- with the length of the passed directory in the path. Without that length, the user passed the path itself, which may
-- also be a file. `AtFile` is a file. `AtBadPath` is a path that isn't UTF-8, with its bytes escaped, and the error to
-- report: `GivenNotUtf8` if the user passed the path or a file lists it, `PathNotUtf8` if it is in a directory.
pub data Waypoint : Type 0 where
  AtDirectory : (from : Option ℕ) → (path : List ℕ) → Waypoint
  AtFile : (path : List ℕ) → Waypoint
  AtBadPath : (path : List ℕ) → (why : PathError) → Waypoint

-- A result of a walk: a file to read, or a path that can't be read.
pub data Visited : Type 0 where
  FileAt : (path : List ℕ) → Visited
  ErrorAt : (path : List ℕ) → (why : PathError) → Visited

abbrev pub waypoint : {A : Type 0} → WalkEntry A → Waypoint
waypoint (Directory from path) = AtDirectory from (string_bytes path)
waypoint (File path) = AtFile (string_bytes path)
waypoint (BadPath path why) = AtBadPath (string_bytes path) why

abbrev pub visited : {A : Type 0} → Visit A → Visited
visited (visit.File path) = FileAt (string_bytes path)
visited (visit.Failed path why) = ErrorAt (string_bytes path) why

-- The entry to visit for a path that the user passed.
abbrev pub given_waypoint : List ℕ → Waypoint
given_waypoint path = cond (is_marked path) (AtBadPath (unmarked path) GivenNotUtf8) (AtDirectory None path)

-- The entries to visit for the paths that the user passed.
abbrev pub given_waypoints : List (List ℕ) → List Waypoint
given_waypoints paths = map given_waypoint paths

-- The length, with a slash, of the directory that the user passed. If the first argument is `None`, that directory is
-- `path`. Otherwise `path` is below that directory, and the first argument is the length.
abbrev pub given_length : Option ℕ → List ℕ → ℕ
given_length None path = cond (ends_in_slash path) (length path) (length path + 1)
given_length (Some from) path = from

-- The entry to visit for a path below the directory that the user passed. `from` is the length of this directory.
abbrev pub waypoint_at : ℕ → List ℕ → Waypoint
waypoint_at from path = cond (is_utf8 path)
    (cond (ends_in_slash path) (AtDirectory (Some from) path) (AtFile path))
    (AtBadPath (bytes_shown path) PathNotUtf8)

-- Whether an excluding pattern matches the path of a name in a directory. The first `from` bytes of the path aren't
-- compared.
abbrev pub is_pruned : Selection → ℕ → List ℕ → List ℕ → Bool
is_pruned selection from directory name =
    is_excluded (borrowed_texts selection.excludes.now) (drop from (path_in directory name))

-- The entries to visit for a name in a directory: one if the name is selected and not excluded, else none.
abbrev pub waypoints_of : Selection → Bool → ℕ → List ℕ → List ℕ → List Waypoint
waypoints_of selection in_package from directory name =
    cond (is_wanted selection in_package name && not (is_pruned selection from directory name))
    (waypoint_at from (path_in directory name) ∷ []) []

-- The entries to visit for the names in a directory.
abbrev pub waypoints_in : Selection → ℕ → List ℕ → List (List ℕ) → List Waypoint
waypoints_in selection from directory names =
    flat_map (waypoints_of selection (are_of_package names) from directory) names

-- The list `sorted` contains all names of the list `names`, in the order of their bytes.
abbrev pub IsOrderOf : List (List ℕ) → List (List ℕ) → Type 0
IsOrderOf names sorted = IsPermutation names sorted × IsSorted (slice_cmp nat_cmp) sorted

-- The results of a walk with a list of entries to visit. The results come in the order of the entries. The results of a
-- directory come in the order of its names, before the results of the next entry.
pub data Visits (selection : Selection) (w : World) : List Waypoint → List Visited → Type 0 where
  VisitsNothing : Visits selection w [] []
  VisitsFile : {path : List ℕ} {rest : List Waypoint} {visits : List Visited} → Visits selection w rest visits
      → Visits selection w (AtFile path ∷ rest) (FileAt path ∷ visits)
  VisitsBadPath : {path : List ℕ} {why : PathError} {rest : List Waypoint} {visits : List Visited}
      → Visits selection w rest visits → Visits selection w (AtBadPath path why ∷ rest) (ErrorAt path why ∷ visits)
  EntersDirectory : {from : Option ℕ} {path : List ℕ} {rest : List Waypoint} {visits : List Visited}
      (names sorted : List (List ℕ))
      → w.names path ≡ Ok names → IsOrderOf names sorted
      → Visits selection w (waypoints_in selection (given_length from path) path sorted ++ rest) visits
      → Visits selection w (AtDirectory from path ∷ rest) visits
  MissesDirectory : {from : Option ℕ} {path : List ℕ} {rest : List Waypoint} {visits : List Visited} (why : PathError)
      → (why ≡ OutOfMemory) ⊎ (w.names path ≡ Err why) → Visits selection w rest visits
      → Visits selection w (AtDirectory from path ∷ rest) (ErrorAt path why ∷ visits)
  IsGivenFile : {path : List ℕ} {rest : List Waypoint} {visits : List Visited} → w.names path ≡ Err NotADirectory
      → Visits selection w rest visits
      → Visits selection w (AtDirectory None path ∷ rest) (FileAt path ∷ visits)

-- The results of a walk with the entries `new` are also the results of a walk with the entries `old`.
abbrev pub WalksOn : Selection → Option World → List Waypoint → List Waypoint → Type 0
WalksOn selection holds old new = IfSome holds (λ w. (visits : List Visited) → Visits selection w new visits → Visits selection w old visits)

-- A walk with the entries `old` first returns `first`, and then continues with the entries `new`.
abbrev pub VisitsFirst : Selection → Option World → List Waypoint → Visited → List Waypoint → Type 0
VisitsFirst selection holds old first new =
    IfSome holds (λ w. (visits : List Visited) → Visits selection w new visits → Visits selection w old (first ∷ visits))

-- A walk with the entries `old` returns nothing.
abbrev pub VisitsNone : Selection → Option World → List Waypoint → Type 0
VisitsNone selection holds old = IfSome holds (λ w. Visits selection w old [])

-- A walk enters a number of directories, one right after another, and returns nothing before, between or after them.
-- `old` are the entries to visit before the first of the directories.
pub data EntersInTurn (selection : Selection) (w : World) (old : List Waypoint) : ℕ → List Waypoint → Type 0 where
  EntersNone : EntersInTurn selection w old 0 old
  EntersNext : {turns : ℕ} {from : Option ℕ} {path : List ℕ} {rest : List Waypoint} (names sorted : List (List ℕ))
      → EntersInTurn selection w old turns (AtDirectory from path ∷ rest)
      → w.names path ≡ Ok names → IsOrderOf names sorted
      → EntersInTurn selection w old (turns + 1)
      (waypoints_in selection (given_length from path) path sorted ++ rest)

-- The walk ends early, since an allocation failed, or 4,294,967,295 directories were entered without a result.
abbrev pub EndsEarly : Selection → Option World → List Waypoint → WalkError → Type 0
EndsEarly selection holds old walk.OutOfMemory = ⊤
EndsEarly selection holds old walk.TooManyDirectories =
    IfSome holds (λ w. (new : List Waypoint) × EntersInTurn selection w old 4294967295 new)

-- The walk visits the names in a directory, in the order of their bytes, before the other entries.
abbrev pub EntersInOrder : Selection → ℕ → List ℕ → List (List ℕ) → List Waypoint → List Waypoint → Type 0
EntersInOrder selection from directory names old new =
    (sorted : List (List ℕ)) × IsOrderOf names sorted
    × (new ≡ waypoints_in selection from directory sorted ++ old)
