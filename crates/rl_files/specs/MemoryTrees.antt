-- Files and directories in memory.
use Rattle.std.specs.Prelude.{ℕ, cond, List, [], ◌∷◌, Ok, Err}
use Rattle.std.specs.Str.{bytes_eq}
use Rattle.std.specs.declared.result.Result.{Result}
use denote.Ref.{Bor}
use Rattle.rl_files.specs.declared.tree.PathError.{PathError}
use Rattle.rl_files.specs.declared.tree.PathError.TheVariants.{NotFound, NotADirectory}
use Rattle.rl_files.specs.declared.memory.MemoryFile.{MemoryFile}
use Rattle.rl_files.specs.declared.memory.MemoryDirectory.{MemoryDirectory}
use Rattle.rl_files.specs.declared.memory.MemoryTree.{MemoryTree}
use Rattle.rl_files.specs.Globs.{borrowed_texts}
use Rattle.rl_files.specs.Trees.{World}

abbrev pub held : Result (Bor (List ℕ)) PathError → Result (List ℕ) PathError
held (Ok bytes) = Ok bytes.now
held (Err why) = Err why

abbrev pub listed : Result (Bor (List (Bor (List ℕ)))) PathError → Result (List (List ℕ)) PathError
listed (Ok names) = Ok (borrowed_texts names.now)
listed (Err why) = Err why

-- The bytes of the first file in a list that has the path `path`.
abbrev pub file_at : List MemoryFile → List ℕ → Result (List ℕ) PathError
file_at [] path = Err NotFound
file_at (f ∷ fs) path = cond (bytes_eq f.path.now path) (held f.bytes) (file_at fs path)

abbrev pub directory_at : List MemoryDirectory → List ℕ → Result (List (List ℕ)) PathError
directory_at [] path = Err NotADirectory
directory_at (f ∷ fs) path = cond (bytes_eq f.path.now path) (listed f.names) (directory_at fs path)

abbrev pub tree_in_memory : MemoryTree → World
tree_in_memory t = record { bytes = file_at t.files.now; names = directory_at t.directories.now }
