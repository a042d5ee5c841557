-- The contents of a tree of files. Paths, names and contents are lists of bytes.
use Rattle.std.specs.Prelude.{ℕ, List, map, String, string_bytes, Vec}
use Rattle.std.specs.declared.result.Result.{Result}
use Rattle.rl_files.specs.declared.tree.PathError.{PathError}

-- The contents of a tree of files. `bytes` returns the bytes of the file at a path, or the reason why it can't be read. `names`
-- returns the names in a directory, in any order. If the name of a directory is UTF-8, a slash follows it.
pub record World : Type 0 where
  pub bytes : List ℕ → Result (List ℕ) PathError
  pub names : List ℕ → Result (List (List ℕ)) PathError

-- The bytes of each string in a list.
abbrev pub string_texts : {A : Type 0} → List (String A) → List (List ℕ)
string_texts names = map string_bytes names

-- The bytes of each name in a list.
abbrev pub names_bytes : {A : Type 0} → List (Vec ℕ A) → List (List ℕ)
names_bytes names = map (λ name. name.items) names
