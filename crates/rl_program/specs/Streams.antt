-- The effect of a run on the bytes that its reader hasn't returned yet, and on the bytes that its writer has received.
use Rattle.std.specs.Prelude.{ℕ, List, take, Option}
use Rattle.std.specs.Io.KnownBytes.{Appends}

-- A beginning of `bytes`, perhaps an empty one, is appended to the written bytes. Nothing is stated if the written
-- bytes aren't known.
abbrev pub AppendsBeginning : Option (List ℕ) → Option (List ℕ) → List ℕ → Type 0
AppendsBeginning old new bytes = (count : ℕ) × Appends old new (take count bytes)
