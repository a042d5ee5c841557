-- Laws on all segments of a literal, and on the order of their offsets.
use Rattle.std.specs.Prelude.{◌≡◌, ℕ, ◌+◌, ◌<◌, ◌≤◌, List, [], ◌∷◌, length, IsTrue}
use Rattle.std.specs.Str.{chars}
use Rattle.std.specs.List.{flat_map}
use Rattle.rl_syntax.specs.declared.kind.Kind.{Kind}
use Rattle.rl_syntax.specs.Texts.{byte_len}
use Rattle.rl_syntax.specs.Quoted.{QuotedUnit, texts}
use Rattle.rl_syntax.specs.Reading.{HasContents, quoted_contents}
use Rattle.rl_lenient.specs.Decoded.{in_bytes}
use Rattle.rl_lenient.specs.declared.found.Body.{Body}
use Rattle.rl_lenient.specs.Founds.{body_in}
use Rattle.rl_cursors.specs.declared.segments.Segment.{Segment}
use Rattle.rl_cursors.specs.declared.segments.SegmentValue.{SegmentValue}
use Rattle.rl_cursors.specs.declared.segments.SegmentValue.TheVariants.{Text}
use Rattle.rl_cursors.specs.Segments.{AreUnitsOf, IsByteEnd, IsBytePlace, IsSegmentOf, IsSegmentsOf, SegmentsState, TakesSegment, value_bytes}

-- The values of two segments are equal. Segments of text are equal if their bytes are.
abbrev pub IsSameValue : SegmentValue → SegmentValue → Type 0
IsSameValue (Text run) (Text other) = run.now ≡ other.now
IsSameValue value other = value ≡ other

-- A segment of a literal of the kind has only one value.
abbrev pub AreOneSegment : Kind → List QuotedUnit → Type 0
AreOneSegment kind units =
    (value other : SegmentValue) → IsSegmentOf kind value units → IsSegmentOf kind other units
    → IsSameValue value other

-- The cursor over a literal's segments returns the given segments, one after another, between the two states.
abbrev pub Passes : SegmentsState → List Segment → SegmentsState → Type 0
Passes old [] new = new ≡ old
Passes old (s ∷ ss) new = (next : SegmentsState) × TakesSegment old s next × Passes next ss new

-- Each segment begins where the one before it ends.
abbrev pub Tile : ℕ → List Segment → ℕ → Type 0
Tile lo [] hi = lo ≡ hi
Tile lo (s ∷ ss) hi = (s.lo ≡ lo) × Tile s.hi ss hi

abbrev pub segments_bytes : List Segment → List ℕ
segments_bytes ss = flat_map (λ (s : Segment). value_bytes s.value) ss

-- The segments fill the text between a literal's quotes, and their values, joined, are the literal's value. Characters are
-- encoded in UTF-8.
pub record MakeLiteral (kind : Kind) (text : List ℕ) (ss : List Segment) : Type 0 where
  pub units : List QuotedUnit
  pub lo : ℕ
  pub units_are : AreUnitsOf kind text units lo
  pub fill : Tile lo ss (lo + byte_len (texts units))
  pub value : List ℕ
  pub contents : HasContents kind text (quoted_contents kind value)
  pub bytes_are : segments_bytes ss ≡ in_bytes kind value

-- All segments that a cursor returns for a literal, up to its closing quote, fill the text between the quotes, and have
-- the literal's value.
abbrev pub AllMakeTheLiteral : Kind → List ℕ → Type 0
AllMakeTheLiteral kind text =
    (start end : SegmentsState) (ss : List Segment) → IsSegmentsOf kind text start
    → Passes start ss end → end.rest ≡ [] → MakeLiteral kind text ss

-- Each byte of a quoted literal's value is encoded by a range of the literal's text that is within the body. An offset at or
-- after the value's end is mapped to the closing quote. If the body is its own value, each byte of the body encodes the
-- value's byte at the same offset.
pub record OffsetsAreIn (kind : Kind) (text : List ℕ) (body : Body) : Type 0 where
  pub end : (at place : ℕ) → IsBytePlace kind (chars text) at place
      → length (body_in text body) ≤ at → place ≡ body.hi
  pub plain : (at place : ℕ) → IsBytePlace kind (chars text) at place → IsTrue body.plain
      → at < length (body_in text body) → place ≡ body.lo + at
  pub plain_end : (at place : ℕ) → IsByteEnd kind (chars text) at place → IsTrue body.plain
      → at < length (body_in text body) → place ≡ body.lo + (at + 1)
  pub within : (at place : ℕ) → IsBytePlace kind (chars text) at place
      → (body.lo ≤ place) × (place ≤ body.hi)
  pub within_end : (at place : ℕ) → IsByteEnd kind (chars text) at place
      → (body.lo ≤ place) × (place ≤ body.hi)

-- Each byte of a literal's value is encoded by a range of the literal's text, which begins no later than it ends. The ranges
-- are in the order of the bytes: the range of a later byte neither begins nor ends before the range of an earlier byte.
pub record PlacesKeepTheOrder (kind : Kind) (text : List ℕ) : Type 0 where
  pub places : (at later place other : ℕ) → IsBytePlace kind text at place
      → IsBytePlace kind text later other → at ≤ later → place ≤ other
  pub ends : (at later place other : ℕ) → IsByteEnd kind text at place
      → IsByteEnd kind text later other → at ≤ later → place ≤ other
  pub apart : (at place end : ℕ) → IsBytePlace kind text at place → IsByteEnd kind text at end
      → place ≤ end
