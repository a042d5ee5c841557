-- The segments of a quoted literal: the characters and escapes of each, its value in bytes, and its byte offset in the
-- literal's text.
use Rattle.std.specs.Prelude.{◌≡◌, ◌⊎◌, ℕ, ◌+◌, ◌-◌, ◌≤◌, ◌<◌, slice_index_or, Bool, true, false, List, [], ◌∷◌, ◌++◌, length, map, nat_lt, encode_utf8, IsFalse, IsTrue, ⊤, Option, MatchOption, if◌then◌else◌}
use Rattle.std.specs.List.{AllByRecursion, flat_map}
use Rattle.std.specs.Str.{chars, IsUtf8}
use Rattle.rl_syntax.specs.declared.kind.Kind.{Kind}
use Rattle.rl_syntax.specs.declared.span.Span.{Span}
use Rattle.rl_syntax.specs.Spans.{nowhere}
use Rattle.rl_syntax.specs.Texts.{byte_len, first_passes}
use Rattle.rl_syntax.specs.Quoted.{QuotedUnit, is_plain, is_string, decodes_to_chars, Plain, CrLf, Named, Hex, Unicode, Continuation, Cooked, Raw, Single, IsUnit, ContinuationsEnd, opener, raw_opener, texts, letter_value, hex_value, unicode_value, unit_text, unit_value}
use Rattle.rl_lenient.specs.Decoded.{in_bytes}
use Prim.Native.Char.{code}
use Rattle.rl_cursors.specs.declared.segments.Segment.{Segment}
use Rattle.rl_cursors.specs.declared.segments.SegmentValue.{SegmentValue}
use Rattle.rl_cursors.specs.declared.segments.SegmentValue.TheVariants.{Text, Char, Byte, Nothing}

-- The bytes of the value of a character or escape in a literal of the kind. Characters are encoded in UTF-8.
abbrev pub unit_bytes : Kind → QuotedUnit → List ℕ
unit_bytes kind unit = in_bytes kind (unit_value kind unit)

abbrev pub units_bytes : Kind → List QuotedUnit → List ℕ
units_bytes kind units = flat_map (unit_bytes kind) units

-- Whether a character or escape is a character that represents itself, and not an escape or a line end CR LF.
abbrev pub is_itself : QuotedUnit → Bool
is_itself (Plain c) = true
is_itself _ = false

-- The start of the range, in the text of a character or escape, that encodes the byte `at` of its value. In a character that
-- represents itself, each byte encodes itself, so the start is `at`. An escape encodes its value as a whole, so the start is
-- 0. `ends_in` is the end of the range.
abbrev pub begins_in : QuotedUnit → ℕ → ℕ
begins_in unit at = if is_itself unit then at else 0

abbrev pub ends_in : QuotedUnit → ℕ → ℕ
ends_in unit at = if is_itself unit then at + 1 else byte_len (unit_text unit)

-- A byte offset in the text of a sequence of characters and escapes, for the byte `at` of their value. One character or
-- escape encodes the byte, and `inside` gives the offset within this character or escape. If the value has no byte `at`, the
-- result is the length of the text.
abbrev pub unit_place : (QuotedUnit → ℕ → ℕ) → Kind → List QuotedUnit → ℕ → ℕ
unit_place inside kind [] at = 0
unit_place inside kind (unit ∷ units) at =
    if nat_lt at (length (unit_bytes kind unit)) then inside unit at
    else byte_len (unit_text unit)
    + unit_place inside kind units (at - length (unit_bytes kind unit))

-- The characters and escapes of a quoted literal, and the byte offset of the first one. In a raw string, each character
-- represents itself.
abbrev pub AreUnitsOf : Kind → List ℕ → List QuotedUnit → ℕ → Type 0
AreUnitsOf kind text units lo =
    ((value : List ℕ) × (suffix : List ℕ) × (c : Cooked kind text value suffix)
    × (units ≡ c.units) × (lo ≡ length (opener kind)))
    ⊎ ((value : List ℕ) × (suffix : List ℕ) × (r : Raw kind text value suffix)
    × (units ≡ map Plain r.inside) × (lo ≡ length (raw_opener kind) + r.hashes + 1))
    ⊎ ((value : List ℕ) × (suffix : List ℕ) × (s : Single kind text value suffix)
    × (units ≡ s.unit ∷ []) × (lo ≡ length (opener kind)))

-- `place` is a byte offset in a literal's text, for the byte `at` of the literal's value. One character or escape encodes
-- the byte, and `inside` gives the offset within this character or escape. If the value has no byte `at`, `place` is the
-- offset of the closing quote.
pub record IsGivenAt (inside : QuotedUnit → ℕ → ℕ) (kind : Kind) (text : List ℕ) (at place : ℕ) : Type 0 where
  pub units : List QuotedUnit
  pub lo : ℕ
  pub units_are : AreUnitsOf kind text units lo
  pub place_is : place ≡ lo + unit_place inside kind units at

-- The start of the range of a literal's text that encodes a byte of its value. In `"\x41b"` the start is 1 for byte 0 of the
-- value, and 5 for byte 1. If the value has no such byte, the start is the offset of the closing quote.
abbrev pub IsBytePlace : Kind → List ℕ → ℕ → ℕ → Type 0
IsBytePlace = IsGivenAt begins_in

-- The end of the range of a literal's text that encodes a byte of its value. In `"\x41b"` the end is 5 for byte 0 of the
-- value, and 6 for byte 1. If the value has no such byte, the end is the offset of the closing quote.
abbrev pub IsByteEnd : Kind → List ℕ → ℕ → ℕ → Type 0
IsByteEnd = IsGivenAt ends_in

-- The state of a cursor over a literal's segments: its byte offset in the literal's text, and the bytes from there up to the
-- closing quote. If `plain` is true, each character of these bytes represents itself.
pub record SegmentsState : Type 0 where
  pub kind : Kind
  pub plain : Bool
  pub at : ℕ
  pub rest : List ℕ

-- The text consists of the given characters and escapes, each of which a literal of the kind allows.
pub record IsUnitRun (kind : Kind) (text : List ℕ) (units : List QuotedUnit) : Type 0 where
  pub each : AllByRecursion (IsUnit kind) units
  pub ends : ContinuationsEnd units
  pub text_is : text ≡ texts units

abbrev pub AreUnitsIn : Kind → Bool → List ℕ → List QuotedUnit → Type 0
AreUnitsIn kind true text units = units ≡ map Plain text
AreUnitsIn kind false text units = IsUnitRun kind text units

-- The characters and escapes between the cursor and the closing quote.
abbrev pub AreLeft : SegmentsState → List QuotedUnit → Type 0
AreLeft s units = AreUnitsIn s.kind s.plain (chars s.rest) units

abbrev pub HasUnitsLeft : SegmentsState → Type 0
HasUnitsLeft s = (units : List QuotedUnit) × AreLeft s units

-- The bytes of a segment's value. Characters are encoded in UTF-8.
abbrev pub value_bytes : SegmentValue → List ℕ
value_bytes (Text run) = run.now
value_bytes (Char c) = encode_utf8 c
value_bytes (Byte b) = b ∷ []
value_bytes Nothing = []

-- The start of the range of a segment that encodes the byte `at` of its value, as an offset in the segment. In a segment of
-- plain characters, each byte encodes itself, so the start is `at`. Any other segment encodes its value as a whole, so the
-- start is 0.
abbrev pub value_place : SegmentValue → ℕ → ℕ
value_place (Text run) at = at
value_place value at = 0

-- The start of the range of a literal's text that encodes the byte `at` of a segment's value. `segment_end` is the end of
-- the range.
abbrev pub segment_place : Segment → ℕ → ℕ
segment_place s at = s.lo + value_place s.value at

abbrev pub value_end : SegmentValue → ℕ → ℕ → ℕ → ℕ
value_end (Text run) lo hi at = lo + at + 1
value_end value lo hi at = hi

abbrev pub segment_end : Segment → ℕ → ℕ
segment_end s at = value_end s.value s.lo s.hi at

-- The segment value for the number that an escape represents: a character in a literal of characters, and otherwise a byte.
abbrev pub number_segment : Kind → ℕ → SegmentValue
number_segment kind n = if decodes_to_chars kind then Char n else Byte n

-- The value of the segment that is one escape or a line end CR LF. An escape `\u{..}` is a character also in a literal
-- of bytes.
abbrev pub unit_segment : Kind → QuotedUnit → SegmentValue
unit_segment kind (Plain c) = Char c
unit_segment kind CrLf = number_segment kind (code "\n")
unit_segment kind (Named letter) = number_segment kind (letter_value letter)
unit_segment kind (Hex high low) = number_segment kind (hex_value high low)
unit_segment kind (Unicode first more) = Char (unicode_value first more)
unit_segment kind (Continuation line_end run) = Nothing

-- The segment is one escape or one line end CR LF, and `value` is its value.
pub record IsOtherUnit (kind : Kind) (value : SegmentValue) (units : List QuotedUnit) : Type 0 where
  pub unit : QuotedUnit
  pub are : units ≡ unit ∷ []
  pub other : IsFalse (is_itself unit)
  pub value_is : value ≡ unit_segment kind unit

-- The segment is one escape or one line end CR LF, and not a sequence of characters that represent themselves.
abbrev pub IsNoText : SegmentValue → Type 0
IsNoText (Text run) = ⊥
IsNoText _ = ⊤

-- The characters and escapes of a segment. A segment of text consists of characters that represent themselves. Any
-- other segment is one escape or one line end CR LF.
abbrev pub AreUnitsFor : Kind → SegmentValue → List QuotedUnit → Type 0
AreUnitsFor kind (Text run) units = units ≡ map Plain (chars run.now)
AreUnitsFor kind value units = IsOtherUnit kind value units

-- The segment consists of the given characters and escapes, and its value is their value.
pub record IsSegmentOf (kind : Kind) (value : SegmentValue) (units : List QuotedUnit) : Type 0 where
  pub are : AreUnitsFor kind value units
  pub bytes_are : value_bytes value ≡ units_bytes kind units

-- The text begins with a segment that has the given value, and `rest` is the text after the segment.
pub record IsFirstSegment (kind : Kind) (plain : Bool) (text : List ℕ) (value : SegmentValue) (rest : List ℕ)
    : Type 0 where
  pub units : List QuotedUnit
  pub is_segment : IsSegmentOf kind value units
  pub text_is : text ≡ texts units ++ rest
  pub left : (others : List QuotedUnit) × AreUnitsIn kind plain rest others
  pub goes_on : (others : List QuotedUnit) → AreUnitsIn kind plain rest others
      → AreUnitsIn kind plain text (units ++ others)

-- A segment of text in a string literal is as long as possible: the next character doesn't represent itself.
abbrev pub IsLongest : Kind → SegmentValue → List ℕ → Type 0
IsLongest kind (Text run) rest = IsTrue (is_string kind) → IsFalse (first_passes (is_plain kind) rest)
IsLongest kind _ rest = ⊤

-- The cursor consumes the segment `s` and returns it, which changes the cursor's state from `old` to `new`. The segment
-- begins at the cursor's old offset, and ends at its new offset. If the body is its own value, the segment ends at the
-- closing quote. The offset of the closing quote doesn't change.
pub record TakesSegment (old : SegmentsState) (s : Segment) (new : SegmentsState) : Type 0 where
  pub units : List QuotedUnit
  pub is_segment : IsSegmentOf old.kind s.value units
  pub longest : IsLongest old.kind s.value (chars new.rest)
  pub whole : IsTrue old.plain → new.rest ≡ []
  pub lo_is : s.lo ≡ old.at
  pub hi_is : s.hi ≡ new.at
  pub long : s.hi ≡ s.lo + byte_len (texts units)
  pub left : HasUnitsLeft new
  pub goes_on : (others : List QuotedUnit) → AreLeft new others → AreLeft old (units ++ others)
  pub same_kind : new.kind ≡ old.kind
  pub same_end : new.at + length new.rest ≡ old.at + length old.rest

-- The result of a step of a cursor over segments is the next segment. At the closing quote it is `None`, and the cursor
-- doesn't move.
abbrev pub GivesSegment : SegmentsState → Option Segment → SegmentsState → Type 0
GivesSegment old segment new =
    MatchOption segment ((old.rest ≡ []) × (new ≡ old)) (λ s. TakesSegment old s new)

-- `place` is a byte offset in a literal's text, for the byte `at` of the literal's value, where `at` counts from the
-- cursor's position. One character or escape encodes the byte, and `inside` gives the offset within this character or
-- escape.
pub record IsLeftAt (inside : QuotedUnit → ℕ → ℕ) (s : SegmentsState) (at place : ℕ) : Type 0 where
  pub units : List QuotedUnit
  pub are_left : AreLeft s units
  pub place_is : place ≡ s.at + unit_place inside s.kind units at

-- The start of the range of a literal's text that encodes a byte of its value, where bytes count from the cursor's position.
-- `IsEndLeft` is for the end of the range.
abbrev pub IsPlaceLeft : SegmentsState → ℕ → ℕ → Type 0
IsPlaceLeft = IsLeftAt begins_in

abbrev pub IsEndLeft : SegmentsState → ℕ → ℕ → Type 0
IsEndLeft = IsLeftAt ends_in

-- The byte `at` of the literal's value, counted from the cursor's position, is the byte `within` of the value of `segment`.
pub record GivesByte (s : SegmentsState) (at : ℕ) (segment : Segment) (within : ℕ) : Type 0 where
  pub before : List QuotedUnit
  pub units : List QuotedUnit
  pub others : List QuotedUnit
  pub are_left : AreLeft s (before ++ (units ++ others))
  pub is_segment : IsSegmentOf s.kind segment.value units
  pub some : segment.lo < segment.hi
  pub lo_is : segment.lo ≡ s.at + byte_len (texts before)
  pub hi_is : segment.hi ≡ segment.lo + byte_len (texts units)
  pub at_is : at ≡ length (units_bytes s.kind before) + within
  pub inside : within < length (value_bytes segment.value)

-- The literal's value, counted from the cursor's position, has no byte `at`: it has at most `at` bytes.
pub record IsPastLeft (s : SegmentsState) (at : ℕ) : Type 0 where
  pub units : List QuotedUnit
  pub are_left : AreLeft s units
  pub past : length (units_bytes s.kind units) ≤ at
  pub long : byte_len (texts units) ≡ length s.rest

-- The cursor is at the start of a literal's body: all characters and escapes of the literal are between the cursor and the
-- closing quote.
pub record IsSegmentsOf (kind : Kind) (text : List ℕ) (s : SegmentsState) : Type 0 where
  pub kind_is : s.kind ≡ kind
  pub has : HasUnitsLeft s
  pub units_are : (units : List QuotedUnit) → AreLeft s units → AreUnitsOf kind text units s.at

-- The span of the bytes from `lo` up to `hi` of a text, where the text begins at the start of the span `base`.
abbrev pub span_from : Span → ℕ → ℕ → Span
span_from base lo hi = record { file = base.file; lo = base.lo + lo; hi = base.lo + hi }

-- The table has an entry for each byte of the literal's value, counted from the cursor's position: the span of the range
-- that encodes the byte. Its last entry is the empty span at the closing quote. The literal's text begins at the start of
-- the span `base`.
pub record IsSpanTable (s : SegmentsState) (base : Span) (table : List Span) : Type 0 where
  pub units : List QuotedUnit
  pub are_left : AreLeft s units
  pub long : length table ≡ length (units_bytes s.kind units) + 1
  pub spans : (at : ℕ) → at < length table → slice_index_or table at nowhere
      ≡ span_from base (s.at + unit_place begins_in s.kind units at)
      (s.at + unit_place ends_in s.kind units at)

-- The invariant of a cursor over a literal's segments. `rest` is the text from the cursor up to the closing quote. It
-- consists of characters and escapes, and isn't longer than `end`, the byte offset of the closing quote.
pub record IsSegmentsState (kind : Kind) (plain : Bool) (end : ℕ) (rest : List ℕ) : Type 0 where
  pub room : length rest ≤ end
  pub is_text : IsUtf8 rest
  pub has : (units : List QuotedUnit) × AreUnitsIn kind plain (chars rest) units
