-- Replacements of files. Paths and contents are lists of bytes.
use Rattle.std.specs.Prelude.{ℕ, ◌==◌, Bool, not, ◌&&◌, ◌||◌, cond, nat_lt, bit_and, List, [], ◌∷◌, ◌++◌, codes, string_bytes, Option, Some, None, option_map}
use Rattle.std.specs.Fmt.{decimal}
use Rattle.std.specs.Str.{bytes_eq}
use Rattle.rl_files.specs.declared.tree.PathError.{PathError}
use Rattle.rl_files.specs.declared.tree.PathError.TheVariants.{PermissionDenied, HardLinks, RightsChange}
use Rattle.rl_files.specs.declared.memory.MemoryReplacement.{MemoryReplacement}
use Rattle.rl_files.specs.declared.memory.Unwritable.{Unwritable}

-- A replacement of a file: its path, and its bytes before and after.
pub record Replacement : Type 0 where
  pub path : List ℕ
  pub old : List ℕ
  pub new : List ℕ

-- The replacement of the file at a path, from its old bytes to its new bytes.
abbrev pub replacing : List ℕ → List ℕ → List ℕ → Replacement
replacing path old new = record { path = path; old = old; new = new }

-- Appends one more replacement to a list of replacements, if the list is known.
abbrev pub handed_too : Replacement → Option (List Replacement) → Option (List Replacement)
handed_too last handed = option_map (λ before. before ++ (last ∷ [])) handed

-- The path of a new file in the directory of a file: the file's path, `.rl_scan-` and a number.
abbrev pub path_beside : List ℕ → ℕ → List ℕ
path_beside path number = path ++ (codes ".rl_scan-" ++ decimal number)

-- A replacement of a file as plain data, from the program's value.
abbrev pub replacement_of : {A : Type 0} → MemoryReplacement A → Replacement
replacement_of r = replacing (string_bytes r.path) r.old.items r.new.items

-- The reason why the file at a path can't be replaced, from the first entry in the list that has the path.
abbrev pub why_unwritable : List Unwritable → List ℕ → Option PathError
why_unwritable [] path = None
why_unwritable (u ∷ us) path = cond (bytes_eq u.path.now path) (Some u.why) (why_unwritable us path)

-- Whether a file's group has a right that others don't have. `group` and `others` are the bits of this right in the file's mode.
abbrev pub is_group_right : ℕ → ℕ → ℕ → Bool
is_group_right mode group others = not (bit_and mode group == 0) && (bit_and mode others == 0)

-- Whether a file's group has a right that others don't have, and that a new file wouldn't give to the group alone. `usual` are the
-- bits that the umask allows for a new file.
abbrev pub is_unusual_right : ℕ → ℕ → ℕ → ℕ → Bool
is_unusual_right mode usual group others = is_group_right mode group others && not (is_group_right usual group others)

-- Whether an access control list may have set the bits of a file's group, to read, to write or to execute the file.
abbrev pub may_have_list : ℕ → ℕ → Bool
may_have_list mode usual = is_unusual_right mode usual 0o040 0o004 || is_unusual_right mode usual 0o020 0o002
    || is_unusual_right mode usual 0o010 0o001

-- The reason why a file isn't replaced, from its mode and its number of hard links: nobody may write it, it has other hard links, or
-- its replacement could have other rights. The bits 0o7000 are set-user-ID, set-group-ID and sticky.
abbrev pub why_not_replaced : ℕ → ℕ → ℕ → Option PathError
why_not_replaced mode links usual = cond (bit_and mode 0o222 == 0) (Some PermissionDenied)
    (cond (nat_lt 1 links) (Some HardLinks)
    (cond (not (bit_and mode 0o7000 == 0) || may_have_list mode usual) (Some RightsChange) None))
