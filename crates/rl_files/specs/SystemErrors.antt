-- The errors of paths, for the kinds of the standard library's errors.
use Rattle.std.specs.Prelude.{ℕ, ◌^◌, ◌<◌, Bool, IsTrue, List, length, ⊤}
use Rattle.std.specs.Str.{IsValidUpTo}
use Rattle.std.specs.declared.io.ErrorKind.{ErrorKind}
use Rattle.std.specs.declared.io.ErrorKind.TheVariants as system
use Rattle.rl_files.specs.declared.tree.PathError.{PathError}
use Rattle.rl_files.specs.declared.tree.PathError.TheVariants as path

-- The reason why a file or a directory can't be read.
abbrev pub read_error : ErrorKind → PathError
read_error system.NotFound = path.NotFound
read_error system.PermissionDenied = path.PermissionDenied
read_error system.IsADirectory = path.IsADirectory
read_error system.NotADirectory = path.NotADirectory
read_error system.InvalidFilename = path.PathTooLong
read_error system.OutOfMemory = path.OutOfMemory
read_error _ = path.ReadFailed

-- An error of reading is true of the bytes `all`: for `TooLong` they are more than 1 GiB, and for `NotUtf8` they must be a text, and
-- the offset is that of the first byte that isn't UTF-8. Other errors say nothing about the bytes.
abbrev pub IsTrueOf : Bool → PathError → List ℕ → Type 0
IsTrueOf is_text path.TooLong all = 2 ^ 30 < length all
IsTrueOf is_text (path.NotUtf8 at) all = IsTrue is_text × IsValidUpTo all at
IsTrueOf is_text _ all = ⊤

-- The reason why a file can't be written.
abbrev pub write_error : ErrorKind → PathError
write_error system.NotFound = path.NotFound
write_error system.PermissionDenied = path.PermissionDenied
write_error system.IsADirectory = path.IsADirectory
write_error system.NotADirectory = path.NotADirectory
write_error system.InvalidFilename = path.PathTooLong
write_error system.OutOfMemory = path.OutOfMemory
write_error system.StorageFull = path.NoRoom
write_error system.ReadOnlyFilesystem = path.ReadOnly
write_error _ = path.WriteFailed

-- The reason why a new file can't be created in a directory. If permission is denied, it is the permission for the
-- directory.
abbrev pub create_error : ErrorKind → PathError
create_error system.PermissionDenied = path.DirectoryDenied
create_error kind = write_error kind
