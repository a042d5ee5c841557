-- The byte offsets that a quoted literal stores for the parts of its text, and the spans in the file from which its
-- decoded value comes.
use Rattle.std.specs.Prelude.{◌≡◌, ◌≢◌, ◌+◌, ◌↔◌, ℕ, List, length, IsTrue}
use Rattle.std.specs.Str.{chars}
use Rattle.rl_syntax.specs.declared.kind.Kind.{Kind}
use Rattle.rl_syntax.specs.Reading.{HasSuffix}
use Rattle.rl_syntax.specs.Written.{IsWrittenForm}
use Rattle.rl_lenient.specs.declared.found.Body.{Body}
use Rattle.rl_lenient.specs.Decoded.{in_bytes}
use Rattle.rl_lenient.specs.Founds.{IsQuotedAt, IsBodyWithin, is_quoted, suffix_in}
use Rattle.rl_cursors.specs.Ranges.{IsRangeOf}
use Rattle.rl_cursors.specs.Segments.{span_from}
use Rattle.rl_lenient.specs.WholeShapes.{IsPlain}
use Rattle.rl_syntax.specs.declared.span.Span.{Span}
use Rattle.rl_syntax.specs.Texts.{SpannedText}

-- The text, a list of bytes, is a literal of the kind `kind`, and `body` has the byte offsets of its parts.
-- `body.plain` is `true` exactly if the text between the quotes equals the decoded value.
pub record HasPartsAt (kind : Kind) (text : List ℕ) (body : Body) : Type 0 where
  pub reads : HasSuffix kind (chars text) (chars (suffix_in text body))
  pub stands : IsBodyWithin text body
  pub plain : IsTrue body.plain ↔ IsPlain kind text
  pub quoted : IsTrue (is_quoted kind) → IsQuotedAt kind text body

-- The text is the literal of the kind `kind` that the crate's writer writes for a value. `bytes` are the value's bytes,
-- and characters are in UTF-8.
pub record IsWrittenAs (kind : Kind) (bytes text : List ℕ) : Type 0 where
  pub value : List ℕ
  pub written : IsWrittenForm kind value text
  pub bytes_are : bytes ≡ in_bytes kind value

-- The span in the file of the bytes `lo` up to `hi` of a literal's decoded value. If the literal's span is as long as
-- its text, it is the span of the text from which the bytes come. Otherwise it is the literal's span.
pub record IsSpanOf (kind : Kind) (token : SpannedText) (lo hi : ℕ) (span : Span) : Type 0 where
  pub placed : token.span.lo + length token.text ≡ token.span.hi
      → (first : ℕ) × (last : ℕ) × IsRangeOf kind (chars token.text) lo hi first last
      × (span ≡ span_from token.span first last)
  pub other : token.span.lo + length token.text ≢ token.span.hi → span ≡ token.span
