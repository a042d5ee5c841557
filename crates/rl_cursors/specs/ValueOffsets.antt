-- The byte offset in a literal's value that belongs to a byte of the literal's text.
use Rattle.std.specs.Prelude.{◌≡◌, ℕ, ◌+◌, ◌-◌, nat_lt, List, [], ◌∷◌, length, if◌then◌else◌}
use Rattle.rl_syntax.specs.declared.kind.Kind.{Kind}
use Rattle.rl_syntax.specs.Texts.{byte_len}
use Rattle.rl_syntax.specs.Quoted.{QuotedUnit, unit_text}
use Rattle.rl_cursors.specs.Segments.{AreLeft, SegmentsState, begins_in, unit_bytes, unit_place}

-- The byte offset in the value of a sequence of characters and escapes, for the byte `at` of their text. In a character that
-- represents itself, each byte encodes itself. For each byte of an escape, the result is the offset where the escape's value
-- begins. If the text has no byte `at`, the result is the length of the value. `unit_place begins_in` is the inverse.
abbrev pub unit_offset : Kind → List QuotedUnit → ℕ → ℕ
unit_offset kind [] at = 0
unit_offset kind (unit ∷ units) at =
    if nat_lt at (byte_len (unit_text unit)) then begins_in unit at
    else length (unit_bytes kind unit)
    + unit_offset kind units (at - byte_len (unit_text unit))

-- `offset` is the byte offset in a literal's value, counted from the cursor's position, for the byte `at` of the literal's
-- text. A byte before the cursor counts as the byte at the cursor.
pub record IsOffsetLeft (s : SegmentsState) (at offset : ℕ) : Type 0 where
  pub units : List QuotedUnit
  pub are_left : AreLeft s units
  pub offset_is : offset ≡ unit_offset s.kind units (at - s.at)

-- The byte of the value that belongs to the place of the byte `at` has the same place as `at`.
abbrev pub OffsetsInvertPlaces : Kind → List QuotedUnit → Type 0
OffsetsInvertPlaces kind units =
    (at : ℕ) → unit_place begins_in kind units (unit_offset kind units (unit_place begins_in kind units at))
    ≡ unit_place begins_in kind units at
