-- The range of a literal's text that encodes a range of its decoded value.
use Rattle.std.specs.Prelude.{◌≡◌, ◌-◌, ◌<◌, ◌≤◌, ℕ, List}
use Rattle.rl_syntax.specs.declared.kind.Kind.{Kind}
use Rattle.rl_cursors.specs.Segments.{IsByteEnd, IsBytePlace}

-- The bytes from `first` up to `last` of a literal's text encode the bytes from `lo` up to `hi` of its decoded value.
-- `first` is the start of the range that encodes the byte `lo`, and `last` is the end of the range that encodes the byte `hi
-- - 1`. If `lo` isn't below `hi`, `last` is equal to `first`.
pub record IsRangeOf (kind : Kind) (text : List ℕ) (lo hi first last : ℕ) : Type 0 where
  pub begins : IsBytePlace kind text lo first
  pub some : lo < hi → IsByteEnd kind text (hi - 1) last
  pub none : hi ≤ lo → last ≡ first
