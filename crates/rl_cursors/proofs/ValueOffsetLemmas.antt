-- The byte offset in a literal's value that belongs to a byte of the literal's text.
use Rattle.rl_syntax.proofs.Common.{◌≡◌, ℕ, ◌+◌, ◌<◌, ◌≤◌, Bool, true, false, cond, List, [], ◌∷◌, ◌++◌, length, refl, sym, ap, subst, ◌∙◌, arith, append_assoc, append-nil, lt-ltb}
use Rattle.std.specs.List.{AllByRecursion}
use Rattle.rl_lenient.proofs.BodyLemmas.{row_shrinks}
use Rattle.rl_lenient.proofs.Names.{flat_map-append, Kind, byte_len, IsUnit, QuotedUnit, Plain, CrLf, Named, Hex, Unicode, Continuation, unit_text, texts}
use Rattle.std.proofs.Common.{◌-◌, map, length-append}
use Rattle.std.proofs.lemmas.Str.{length-le-encodes}
use Rattle.std.specs.Str.{chars}
use Rattle.rl_cursors.specs.declared.segments.Segment.{Segment}
use Rattle.rl_cursors.specs.declared.segments.SegmentValue.{SegmentValue}
use Rattle.rl_cursors.specs.declared.segments.SegmentValue.TheVariants.{Text, Char, Byte, Nothing}
use Rattle.rl_cursors.specs.Segments.{unit_bytes, units_bytes, begins_in, unit_place, AreLeft, AreUnitsIn, IsOtherUnit, IsSegmentOf, SegmentsState, TakesSegment, value_bytes, value_place}
use Rattle.rl_cursors.specs.ValueOffsets.{IsOffsetLeft, OffsetsInvertPlaces, unit_offset}
use Rattle.rl_lenient.proofs.ContentLemmas.{held_in_bytes}
use Rattle.rl_lenient.proofs.FrontLenLemmas.{byte_len_append}
use Rattle.rl_cursors.proofs.SegmentLemmas.{IsOnTheWay, goes_past, nothing_left, place_in_unit, run_texts, tested}
use Rattle.rl_cursors.proofs.SegmentLawLemmas.{values_bytes}

-- ---- offsets in characters and escapes

-- A text begins with the characters and escapes `done`. The offset of a byte after them is the length of their value, plus the
-- byte's offset in the value after them.
offset_past : (kind : Kind) (done us : List QuotedUnit) (at left : ℕ) → at ≡ byte_len (texts done) + left
    → unit_offset kind (done ++ us) at ≡ length (units_bytes kind done) + unit_offset kind us left
offset_past kind [] us at left e =
    let same : at ≡ left = omega (arith, e) in
    let offsets : unit_offset kind us at ≡ unit_offset kind us left = ap (unit_offset kind us) same in
    omega (arith, offsets)
offset_past kind (u ∷ done) us at left e =
    let n = byte_len (unit_text u) in
    let total : at ≡ n + (byte_len (texts done) + left) = omega (arith, e, byte_len_append (unit_text u) (texts done)) in
    let more = offset_past kind done us (at - n) left (omega (arith, total)) in
    let Goal : ℕ → Type 0 = λ z. z ≡ length (units_bytes kind (u ∷ done)) + unit_offset kind us left in
    tested Goal at n _ _
    (λ small. absurd (omega (arith, total, small)))
    (λ large. omega (arith, more, length-append (unit_bytes kind u) (units_bytes kind done)))

-- In plain characters at the start of a text, each byte encodes itself.
offset_in_run : (kind : Kind) (cs : List ℕ) (us : List QuotedUnit) (at : ℕ) → at < byte_len cs
    → unit_offset kind (map Plain cs ++ us) at ≡ at
offset_in_run kind [] us at small = absurd (omega (arith, small))
offset_in_run kind (c ∷ cs) us at small =
    let n = byte_len (c ∷ []) in
    let same : length (unit_bytes kind (Plain c)) ≡ n = ap length (held_in_bytes kind (c ∷ [])) in
    let total : byte_len (c ∷ cs) ≡ n + byte_len cs = byte_len_append (c ∷ []) cs in
    tested (λ z. z ≡ at) at n _ _
    (λ before. refl)
    (λ large.
    let more = offset_in_run kind cs us (at - n) (omega (arith, small, total, large)) in omega
    (arith, more, same, large))

offset_in_unit : (kind : Kind) (u : QuotedUnit) (us : List QuotedUnit) (at : ℕ) → at < byte_len (unit_text u)
    → unit_offset kind (u ∷ us) at ≡ begins_in u at
offset_in_unit kind u us at small = rw (lt-ltb at (byte_len (unit_text u)) small) refl

one_offset : (kind : Kind) (v : SegmentValue) (units us : List QuotedUnit) (at : ℕ) → IsOtherUnit kind v units
    → at < byte_len (texts units) → unit_offset kind (units ++ us) at ≡ 0
one_offset kind v units us at one small =
    let u = one.unit in
    let long : byte_len (texts units) ≡ byte_len (unit_text u) = ap (λ z. byte_len (texts z)) one.are
    ∙ ap byte_len (append-nil (unit_text u)) in
    ap (λ z. unit_offset kind (z ++ us) at) one.are ∙ offset_in_unit kind u us at (omega (arith, long, small))
    ∙ ap (λ z. cond z at 0) one.other

offset_in_segment : (kind : Kind) (v : SegmentValue) (units us : List QuotedUnit) (at : ℕ) → IsSegmentOf kind v units
    → at < byte_len (texts units) → unit_offset kind (units ++ us) at ≡ value_place v at
offset_in_segment kind (Text run) units us at s small =
    let long : byte_len (texts units) ≡ byte_len (chars run.now) = ap (λ z. byte_len (texts z)) s.are
    ∙ ap byte_len (run_texts (chars run.now)) in
    ap (λ z. unit_offset kind (z ++ us) at) s.are
    ∙ offset_in_run kind (chars run.now) us at (omega (arith, long, small))
offset_in_segment kind (Char c) units us at s small = one_offset kind (Char c) units us at s.are small
offset_in_segment kind (Byte b) units us at s small = one_offset kind (Byte b) units us at s.are small
offset_in_segment kind Nothing units us at s small = one_offset kind Nothing units us at s.are small

place_below : (v : SegmentValue) (at : ℕ) → value_place v at ≤ at
place_below (Text run) at = omega arith
place_below (Char c) at = omega arith
place_below (Byte b) at = omega arith
place_below Nothing at = omega arith

each_front : (kind : Kind) (done others : List QuotedUnit) → AllByRecursion (IsUnit kind) (done ++ others)
    → AllByRecursion (IsUnit kind) done
each_front kind [] others each = tt
each_front kind (u ∷ done) others each = (each.0, each_front kind done others each.1)

-- The value of the first characters and escapes of a body is no longer than their text.
front_long : (kind : Kind) (plain : Bool) (body : List ℕ) (done others : List QuotedUnit)
    → AreUnitsIn kind plain body (done ++ others) → length (units_bytes kind done) ≤ byte_len (texts done)
front_long kind true body [] others are = omega arith
front_long kind true [] (u ∷ done) others are = absurd (cc)
front_long kind true (c ∷ body) (u ∷ done) others are =
    let first : u ≡ Plain c = cc in
    let more : done ++ others ≡ map Plain body = cc in
    let bytes : length (unit_bytes kind u) ≡ byte_len (c ∷ []) = ap (λ z. length (unit_bytes kind z)) first
    ∙ ap length (held_in_bytes kind (c ∷ [])) in
    let text : byte_len (unit_text u) ≡ byte_len (c ∷ []) = ap (λ z. byte_len (unit_text z)) first in
    omega (
      arith,
      bytes,
      text,
      front_long kind true body done others more,
      length-append (unit_bytes kind u) (units_bytes kind done),
      byte_len_append (unit_text u) (texts done),
    )
front_long kind false body done others are =
    omega (arith, ap length (values_bytes kind done), (row_shrinks kind done (each_front kind done others are.each)).no_longer)

-- ---- the search for an offset

-- The values of the segments before the cursor have `offset` bytes in all, and the byte `at` of the text isn't in them.
pub record IsOffsetOnTheWay (start : SegmentsState) (at : ℕ) (now : SegmentsState) (offset : ℕ) : Type 0 where
  pub way : IsOnTheWay start offset now 0
  pub passed : byte_len (texts way.done) ≤ at - start.at

pub offset_starts : (s : SegmentsState) (at : ℕ) → IsOffsetOnTheWay s at s 0
offset_starts s at = record {
  way = record { done = []; goes_on = λ others h. h; at_is = omega arith; place_is = omega arith; same_kind = refl; same_end = refl };
  passed = omega arith;
}

pub offset_goes_past : (start old new : SegmentsState) (at offset more : ℕ) (s : Segment)
    → IsOffsetOnTheWay start at old offset → TakesSegment old s new → s.hi ≤ at
    → more ≡ offset + length (value_bytes s.value) → IsOffsetOnTheWay start at new more
offset_goes_past start old new at offset more s w t past is =
    let way = w.way in
    let longer : IsOnTheWay start more old (length (value_bytes s.value)) = record {
      done = way.done;
      goes_on = way.goes_on;
      at_is = omega (arith, is, way.at_is);
      place_is = way.place_is;
      same_kind = way.same_kind;
      same_end = way.same_end;
    } in
    let next = goes_past start old new more (length (value_bytes s.value)) 0 s longer t (omega arith) (omega arith) in
    record { way = next; passed = omega (arith, next.place_is, t.hi_is, past) }

pub offset_arrives : (start old new : SegmentsState) (at offset result : ℕ) (s : Segment)
    → IsOffsetOnTheWay start at old offset → TakesSegment old s new → at < s.hi → s.lo < s.hi
    → result ≡ offset + value_place s.value (at - s.lo) → IsOffsetLeft start at result
offset_arrives start old new at offset result s w t small some is =
    let way = w.way in
    let others = t.left.0 in
    let segment = subst (λ (k : Kind). IsSegmentOf k s.value t.units) way.same_kind t.is_segment in
    let left : at - start.at ≡ byte_len (texts way.done) + (at - s.lo) = omega
    (arith, w.passed, way.place_is, t.lo_is) in
    let past = offset_past start.kind way.done (t.units ++ others) (at - start.at) (at - s.lo) left in
    let within = offset_in_segment start.kind s.value t.units others (at - s.lo) segment
    (omega (arith, small, some, t.long)) in
    record {
      units = way.done ++ (t.units ++ others);
      are_left = way.goes_on (t.units ++ others) (t.goes_on others t.left.1);
      offset_is = omega (arith, is, past, within, way.at_is);
    }

pub offset_ends : (start now : SegmentsState) (at offset : ℕ) → IsOffsetOnTheWay start at now offset → now.rest ≡ []
    → IsOffsetLeft start at offset
offset_ends start now at offset w none =
    let way = w.way in
    let far = at - start.at in
    let past = offset_past start.kind way.done [] far (far - byte_len (texts way.done)) (omega (arith, w.passed)) in
    record {
      units = way.done;
      are_left = subst (AreLeft start) (append-nil way.done) (way.goes_on [] (nothing_left now none));
      offset_is = omega
          (arith, way.at_is, past, ap (λ z. unit_offset start.kind z far) (sym (append-nil way.done)));
    }

-- The values of the segments up to the next one are no longer than their text.
pub offset_room : (start old new : SegmentsState) (at offset : ℕ) (s : Segment) → IsOffsetOnTheWay start at old offset
    → TakesSegment old s new → offset + length (value_bytes s.value) + start.at ≤ s.hi
offset_room start old new at offset s w t =
    let way = w.way in
    let others = t.left.0 in
    let kind = start.kind in
    let done = way.done ++ t.units in
    let are : AreLeft start (done ++ others) = subst (AreLeft start) (sym (append_assoc way.done t.units others))
    (way.goes_on (t.units ++ others) (t.goes_on others t.left.1)) in
    let front = front_long kind start.plain (chars start.rest) done others are in
    let both : length (units_bytes kind done)
    ≡ length (units_bytes kind way.done) + length (units_bytes kind t.units) = ap length
    (flat_map-append (unit_bytes kind) way.done t.units)
    ∙ length-append (units_bytes kind way.done) (units_bytes kind t.units) in
    let text : byte_len (texts done) ≡ byte_len (texts way.done) + byte_len (texts t.units) = ap
    byte_len (flat_map-append unit_text way.done t.units) ∙ byte_len_append (texts way.done) (texts t.units) in
    let bytes : length (value_bytes s.value) ≡ length (units_bytes kind t.units) = ap length t.is_segment.bytes_are
    ∙ ap (λ (k : Kind). length (units_bytes k t.units)) way.same_kind in
    omega (arith, front, both, text, bytes, way.at_is, way.place_is, t.lo_is, t.long)

-- The offset in the value of the byte `at` of the text is at most `at`.
pub offset_near : (start old new : SegmentsState) (at offset : ℕ) (s : Segment) → IsOffsetOnTheWay start at old offset
    → TakesSegment old s new → offset + value_place s.value (at - s.lo) ≤ at
offset_near start old new at offset s w t =
    let way = w.way in
    let rest = t.units ++ t.left.0 in
    let front = front_long start.kind start.plain (chars start.rest) way.done rest
    (way.goes_on rest (t.goes_on t.left.0 t.left.1)) in
    omega (arith, front, place_below s.value (at - s.lo), way.at_is, way.place_is, t.lo_is, w.passed)

-- ---- the inverse

offset_after : (kind : Kind) (u : QuotedUnit) (us : List QuotedUnit) (p : ℕ)
    → unit_offset kind (u ∷ us) (byte_len (unit_text u) + p) ≡ length (unit_bytes kind u) + unit_offset kind us p
offset_after kind u us p =
    let m = byte_len (unit_text u) in
    let n = length (unit_bytes kind u) in
    let same : (m + p) - m ≡ p = omega arith in
    tested (λ z. z ≡ n + unit_offset kind us p) (m + p) m _ _
    (λ small. absurd (omega (arith, small)))
    (λ large. ap (λ z. n + unit_offset kind us z) same)

place_after : (kind : Kind) (u : QuotedUnit) (us : List QuotedUnit) (o : ℕ)
    → unit_place begins_in kind (u ∷ us) (length (unit_bytes kind u) + o)
    ≡ byte_len (unit_text u) + unit_place begins_in kind us o
place_after kind u us o =
    let m = byte_len (unit_text u) in
    let n = length (unit_bytes kind u) in
    let same : (n + o) - n ≡ o = omega arith in
    tested (λ z. z ≡ m + unit_place begins_in kind us o) (n + o) n _ _
    (λ small. absurd (omega (arith, small)))
    (λ large. ap (λ z. m + unit_place begins_in kind us z) same)

-- The place of a byte of one character or escape is within its text, and has the byte's place again.
begins_again : (kind : Kind) (u : QuotedUnit) (at : ℕ) → at < length (unit_bytes kind u)
    → (begins_in u at < byte_len (unit_text u)) × (begins_in u at < length (unit_bytes kind u))
    × (begins_in u (begins_in u at) ≡ begins_in u at)
begins_again kind (Plain c) at small = (omega (arith, small, ap length (held_in_bytes kind (c ∷ []))), small, refl)
begins_again kind CrLf at small = (omega (arith, length-le-encodes (unit_text CrLf)), omega (arith, small), refl)
begins_again kind (Named l) at small =
    (omega (arith, length-le-encodes (unit_text (Named l))), omega (arith, small), refl)
begins_again kind (Hex high low) at small =
    (omega (arith, length-le-encodes (unit_text (Hex high low))), omega (arith, small), refl)
begins_again kind (Unicode first more) at small =
    (omega (arith, length-le-encodes (unit_text (Unicode first more))), omega (arith, small), refl)
begins_again kind (Continuation c run) at small =
    (omega (arith, length-le-encodes (unit_text (Continuation c run))), omega (arith, small), refl)

pub inverted : (kind : Kind) (us : List QuotedUnit) → OffsetsInvertPlaces kind us
inverted kind [] at = refl
inverted kind (u ∷ us) at =
    let n = length (unit_bytes kind u) in
    let m = byte_len (unit_text u) in
    let Again : ℕ → Type 0 = λ z. unit_place begins_in kind (u ∷ us) (unit_offset kind (u ∷ us) z) ≡ z in
    tested Again at n (begins_in u at) (m + unit_place begins_in kind us (at - n))
    (λ small.
    let k = begins_again kind u at small in
    ap (unit_place begins_in kind (u ∷ us)) (offset_in_unit kind u us (begins_in u at) k.0 ∙ k.2)
    ∙ place_in_unit begins_in kind u us (begins_in u at) k.1 ∙ k.2)
    (λ large.
    let p = unit_place begins_in kind us (at - n) in
    ap (unit_place begins_in kind (u ∷ us)) (offset_after kind u us p)
    ∙ place_after kind u us (unit_offset kind us p)
    ∙ ap (λ z. m + z) (inverted kind us (at - n)))
