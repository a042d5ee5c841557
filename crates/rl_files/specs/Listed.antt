-- The paths that a file lists. Paths are lists of bytes.
use Rattle.std.specs.Prelude.{◌≡◌, ◌⊎◌, ℕ, ◌==◌, cond, List, [], ◌∷◌, ◌++◌, drop, length}
use Rattle.std.specs.List.{flat_map, list_any, slice_split, starts_with}
use Rattle.std.specs.declared.result.Result.TheVariants.{Ok, Err}
use Rattle.rl_files.specs.PathTexts.{path_text}
use Rattle.rl_files.specs.Trees.{World}
use Rattle.rl_files.specs.declared.tree.PathError.{PathError}
use Rattle.rl_files.specs.declared.tree.PathError.TheVariants.{OutOfMemory}

-- The list without a byte order mark at its start.
abbrev pub without_mark : List ℕ → List ℕ
without_mark list = cond (starts_with ◌==◌ list (0xEF ∷ 0xBB ∷ 0xBF ∷ [])) (drop 3 list) list

-- The byte that ends each path in a list: NUL if the list contains one, else LF.
abbrev pub separator_of : List ℕ → ℕ
separator_of list = cond (list_any (λ b. b == 0) list) 0 10

-- The text of a path in a list, or nothing if the path is empty.
abbrev pub listed_name : List ℕ → List (List ℕ)
listed_name name = cond (length name == 0) [] (path_text name ∷ [])

-- The paths in a list, each of which ends with the byte `between`.
abbrev pub names_between : ℕ → List ℕ → List (List ℕ)
names_between between list = flat_map listed_name (slice_split (λ b. b == between) list)

-- The paths in a list.
abbrev pub names_listed : List ℕ → List (List ℕ)
names_listed list = names_between (separator_of list) list

-- `all` are `paths` and the paths that a file lists. The file may begin with a byte order mark.
abbrev pub AreWithListed : World → List ℕ → List (List ℕ) → List (List ℕ) → Type 0
AreWithListed w file paths all =
    (list : List ℕ) × (w.bytes file ≡ Ok list) × (all ≡ paths ++ names_listed (without_mark list))

-- The reason why a list of paths can't be read: reading fails, or an allocation fails.
abbrev pub IsUnreadList : World → List ℕ → PathError → Type 0
IsUnreadList w file why = (why ≡ OutOfMemory) ⊎ (w.bytes file ≡ Err why)

-- `all` are `paths` and the paths that the files list, one file after another.
abbrev pub AreWithAllListed : World → List (List ℕ) → List (List ℕ) → List (List ℕ) → Type 0
AreWithAllListed w [] paths all = all ≡ paths
AreWithAllListed w (file ∷ files) paths all =
    (some : List (List ℕ)) × AreWithListed w file paths some × AreWithAllListed w files some all

-- `unread` is the first of the files that can't be read, and `why` the reason. Each file lists paths.
abbrev pub IsFirstUnread : World → List (List ℕ) → List (List ℕ) → List ℕ → PathError → Type 0
IsFirstUnread w [] paths unread why = ⊥
IsFirstUnread w (file ∷ files) paths unread why =
    ((file ≡ unread) × IsUnreadList w unread why)
    ⊎ ((some : List (List ℕ)) × AreWithListed w file paths some × IsFirstUnread w files some unread why)
