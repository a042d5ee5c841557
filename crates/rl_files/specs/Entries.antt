-- The names in a directory of the system, and the path by which the directory is listed. Paths and names are lists of bytes.
use Rattle.std.specs.Prelude.{ℕ, ◌==◌, Bool, cond, ◌||◌, List, ◌++◌, length, codes}
use Rattle.std.specs.List.{ends_with}
use Rattle.std.specs.Str.{bytes_eq}

-- Whether a name is `.` or `..`: the directory itself, or the directory that contains it.
abbrev pub is_dots : List ℕ → Bool
is_dots name = bytes_eq name (codes ".") || bytes_eq name (codes "..")

-- The path of a directory with a slash at its end. An empty path stays empty.
abbrev pub with_slash : List ℕ → List ℕ
with_slash path = cond ((length path == 0) || ends_with ◌==◌ path (codes "/")) path (path ++ codes "/")
