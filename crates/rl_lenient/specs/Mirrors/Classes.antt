-- An executable model of private code: sequences of characters that a string may contain unescaped. Only proofs use it.
use Rattle.std.specs.Prelude.{ℕ, Bool}
use Rattle.rl_syntax.specs.declared.kind.Kind.{Kind}
use Rattle.rl_syntax.specs.declared.kind.Kind.TheVariants.{ByteStr}
use Rattle.rl_syntax.specs.declared.scan.Marks.{Marks}
use Rattle.rl_syntax.specs.Scanning.{is_ascii_other, is_other}

-- Whether a character continues a sequence of unescaped characters: it isn't a delimiter, and in a byte string it is ASCII.
abbrev pub is_in_run : Kind → Marks → ℕ → Bool
is_in_run ByteStr marks = is_ascii_other marks
is_in_run _ marks = is_other marks
