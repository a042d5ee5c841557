-- The end of a source: the position where neither a token nor an error begins.
use Rattle.rl_syntax.proofs.Common.{◌≡◌, ◌⊎◌, inl, inr, ℕ, List, []}
use Rattle.std.specs.Str.{chars}
use Rattle.rl_lexer.specs.Sources.{SourceKind, SourceBefore, BeginsNoSource}

-- If neither a token nor an error begins at a position of a source, the position is the end of the source.
pub at_end : (rest : List ℕ) → BeginsNoSource (chars rest) →
    ((rest ≡ []) ⊎ ((kind : SourceKind) × (after : List ℕ) × SourceBefore (chars rest) kind after)) → rest ≡ []
at_end rest none (inl empty) = empty
at_end rest none (inr t) = absurd (none t.0 t.1 t.2)
