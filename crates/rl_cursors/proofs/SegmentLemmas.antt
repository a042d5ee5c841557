-- The segments of a quoted literal, one after another. A segment is a sequence of plain characters, or one other character or
-- escape.
use Rattle.rl_syntax.proofs.Common.{◌≡◌, ◌==◌, ℕ, ◌+◌, ◌<◌, ◌≤◌, Bool, true, false, cond, ltb, List, [], ◌∷◌, ◌++◌, length, get_or, Some, None, refl, sym, ap, subst, ◌∙◌, arith, append_assoc, append-nil, encode_utf8, encode_utf8_all, list_all, IsUtf8, and_parts, both_ways, eqb-true, lt-ltb, ltb-false, ltb-true, encodes-append, encodes-chars, chars-nil}
use Rattle.rl_lenient.proofs.Names.{flat_map-append, Kind, byte_len, first_passes, QuotedUnit, Plain, CrLf, Named, Hex, Unicode, Continuation, unit_text, unit_value, content_of, is_plain, is_string, IsUnit, EndsBefore, texts}
use Rattle.std.proofs.Common.{◌-◌, map, length-append}
use denote.Ref.{Bor}
use Rattle.std.specs.Str.{chars}
use Rattle.std.proofs.Math.Seq.{get_or-append_seam}
use Rattle.std.proofs.lemmas.List.{get_or_append_left}
use Rattle.rl_syntax.specs.declared.span.Span.{Span}
use Rattle.rl_syntax.specs.Spans.{nowhere}
use Rattle.rl_cursors.specs.declared.segments.Segment.{Segment}
use Rattle.rl_cursors.specs.declared.segments.SegmentValue.{SegmentValue}
use Rattle.rl_cursors.specs.declared.segments.SegmentValue.TheVariants.{Text, Char, Byte, Nothing}
use Rattle.rl_lenient.specs.declared.units.Piece.{Piece}
use Rattle.rl_lenient.specs.Decoded.{in_bytes}
use Rattle.rl_cursors.specs.Mirrors.SegmentAt.{piece_segment}
use Rattle.rl_lenient.specs.Mirrors.UnitAt.{found, is_character, is_character_at, piece_value, IsHeldBy, unit_at}
use Rattle.rl_cursors.specs.Segments.{unit_bytes, units_bytes, is_itself, begins_in, ends_in, unit_place, unit_segment, span_from, segment_end, segment_place, value_end, GivesByte, IsUnitRun, AreUnitsIn, AreUnitsFor, AreLeft, IsLeftAt, IsLongest, IsNoText, IsOtherUnit, IsPastLeft, IsSegmentOf, IsFirstSegment, IsSpanTable, IsSegmentsState, SegmentsState, TakesSegment, value_bytes, value_place}
use Rattle.rl_lenient.proofs.ContentLemmas.{held_in_bytes, piece_in_bytes}
use Rattle.rl_cursors.proofs.SegmentValues.{piece_in_front, segment_bytes}
use Rattle.rl_lenient.proofs.UnitLemmas.{some_pair, plain_complete, unit_complete, unit_nil}
use Rattle.rl_lenient.proofs.FrontLenLemmas.{byte_len_append}

-- ---- sequences of characters and escapes

-- The text `t` begins with a character or escape of a literal of the kind. The record has its value, and the text after it.
pub record UnitInFront (kind : Kind) (t v r : List ℕ) : Type 0 where
  pub unit : QuotedUnit
  pub allowed : IsUnit kind unit
  pub ends : EndsBefore unit r
  pub text_is : t ≡ unit_text unit ++ r
  pub value_is : v ≡ unit_value kind unit
  pub others : List QuotedUnit
  pub run : IsUnitRun kind r others

pub row_front : (kind : Kind) (t : List ℕ) (us : List QuotedUnit) (p : List ℕ × List ℕ) → IsUnitRun kind t us
    → unit_at kind t ≡ Some p → UnitInFront kind t p.0 p.1
row_front kind t [] p row h = let e : None ≡ Some p = sym (ap (unit_at kind) row.text_is ∙ unit_nil kind)
    ∙ h in absurd (cc)
row_front kind t (u ∷ us) p row h =
    let first = ap (unit_at kind) row.text_is ∙ unit_complete kind u (texts us) row.each.0 row.ends.0 in
    let same = some_pair (unit_value kind u, texts us) p (sym first ∙ h) in
    record {
      unit = u;
      allowed = row.each.0;
      ends = subst (EndsBefore u) same.1 row.ends.0;
      text_is = row.text_is ∙ ap (λ z. unit_text u ++ z) same.1;
      value_is = sym same.0;
      others = us;
      run = record { each = row.each.1; ends = row.ends.1; text_is = sym same.1 };
    }

-- If a nonempty text is a sequence of characters and escapes, `unit_at` returns the first one.
pub row_stands : (kind : Kind) (t : List ℕ) (us : List QuotedUnit) → IsUnitRun kind t us → (t ≡ [] → ⊥) → unit_at kind t
    ≡ None → ⊥
row_stands kind t [] row some h = some row.text_is
row_stands kind t (u ∷ us) row some h =
    let e : None ≡ found (unit_value kind u) (texts us) = sym h ∙ ap (unit_at kind) row.text_is
    ∙ unit_complete kind u (texts us) row.each.0 row.ends.0 in absurd (cc)

-- If plain characters and a text `b`, joined, are a sequence of characters and escapes, `b` is a sequence of characters and
-- escapes.
pub row_after_run : (kind : Kind) (run b : List ℕ) (us : List QuotedUnit) → list_all (is_plain kind) run ≡ true
    → IsUnitRun kind (run ++ b) us → (ws : List QuotedUnit) × IsUnitRun kind b ws
row_after_run kind [] b us plain row = (us, row)
row_after_run kind (c ∷ run) b us plain row =
    let parts = and_parts (is_plain kind c) (list_all (is_plain kind) run) plain in
    let front = row_front kind (c ∷ (run ++ b)) us (content_of kind (c ∷ []), run ++ b) row
    (plain_complete kind c (run ++ b) parts.0) in
    row_after_run kind run b front.others parts.1 front.run

pub run_joined : (kind : Kind) (run b : List ℕ) (ws : List QuotedUnit) → list_all (is_plain kind) run ≡ true
    → IsUnitRun kind b ws → IsUnitRun kind (run ++ b) (map Plain run ++ ws)
run_joined kind [] b ws plain row = row
run_joined kind (c ∷ run) b ws plain row =
    let parts = and_parts (is_plain kind c) (list_all (is_plain kind) run) plain in
    let more = run_joined kind run b ws parts.1 row in
    record { each = (parts.0, more.each); ends = (tt, more.ends); text_is = ap (λ z. c ∷ z) more.text_is }

pub unit_joined : (kind : Kind) (t b : List ℕ) (u : QuotedUnit) (ws : List QuotedUnit) → IsUnit kind u → EndsBefore u b
    → t ≡ unit_text u ++ b → IsUnitRun kind b ws → IsUnitRun kind t (u ∷ ws)
unit_joined kind t b u ws allowed ends text_is row =
    record { each = (allowed, row.each); ends = (subst (EndsBefore u) row.text_is ends, row.ends); text_is = text_is ∙ ap (λ z. unit_text u ++ z) row.text_is }

-- ---- sequences of characters that are their own values

pub run_texts : (cs : List ℕ) → texts (map Plain cs) ≡ cs
run_texts [] = refl
run_texts (c ∷ cs) = ap (λ z. c ∷ z) (run_texts cs)

pub run_bytes : (kind : Kind) (cs : List ℕ) → units_bytes kind (map Plain cs) ≡ encode_utf8_all cs
run_bytes kind [] = refl
run_bytes kind (c ∷ cs) =
    ap (λ z. z ++ units_bytes kind (map Plain cs)) (held_in_bytes kind (c ∷ []) ∙ append-nil (encode_utf8 c))
    ∙ ap (λ z. encode_utf8 c ++ z) (run_bytes kind cs)

run_segment : (kind : Kind) (run : Bor (List ℕ)) → IsUtf8 run.now
    → IsSegmentOf kind (Text run) (map Plain (chars run.now))
run_segment kind run u = record { are = refl; bytes_are = sym (run_bytes kind (chars run.now) ∙ encodes-chars run.now u) }

-- ---- the segment at the start

-- A body that is its own value is one segment.
pub plain_front : (kind : Kind) (plain : Bool) (run : Bor (List ℕ)) → plain ≡ true → IsUtf8 run.now
    → IsFirstSegment kind plain (chars run.now) (Text run) (chars [])
plain_front kind true run is u = subst (IsFirstSegment kind true (chars run.now) (Text run)) (sym chars-nil) (record {
  units = map Plain (chars run.now);
  is_segment = run_segment kind run u;
  text_is = sym (append-nil (texts (map Plain (chars run.now))) ∙ run_texts (chars run.now));
  left = ([], refl);
  goes_on = λ others h. ap (λ z. map Plain (chars run.now) ++ z) h ∙ append-nil (map Plain (chars run.now));
})
plain_front kind false run is u = absurd (cc)

-- A sequence of plain characters at the start of a body is the body's first segment.
pub run_front : (kind : Kind) (plain : Bool) (t b : List ℕ) (run : Bor (List ℕ)) → plain ≡ false → IsUtf8 run.now → t
    ≡ chars run.now ++ b → list_all (is_plain kind) (chars run.now) ≡ true → (us : List QuotedUnit)
    × AreUnitsIn kind plain t us → IsFirstSegment kind plain t (Text run) b
run_front kind false t b run is u cut plain has =
    let cs = chars run.now in
    record {
      units = map Plain cs;
      is_segment = run_segment kind run u;
      text_is = cut ∙ ap (λ z. z ++ b) (sym (run_texts cs));
      left = row_after_run kind cs b has.0 plain (subst (λ z. IsUnitRun kind z has.0) cut has.1);
      goes_on = λ others h. subst (λ z. IsUnitRun kind z (map Plain cs ++ others)) (sym cut)
          (run_joined kind cs b others plain h);
    }
run_front kind true t b run is u cut plain has = absurd (cc)

-- If a text begins with no plain character, the character or escape at its start doesn't represent itself.
not_itself : (kind : Kind) (u : QuotedUnit) (t b : List ℕ) → IsUnit kind u → t ≡ unit_text u ++ b
    → first_passes (is_plain kind) t ≡ false → is_itself u ≡ false
not_itself kind (Plain c) t b allowed e stops = absurd (both_ways (is_plain kind c)
    (ap (first_passes (is_plain kind)) (sym e) ∙ stops) allowed)
not_itself kind CrLf t b allowed e stops = refl
not_itself kind (Named l) t b allowed e stops = refl
not_itself kind (Hex high low) t b allowed e stops = refl
not_itself kind (Unicode first more) t b allowed e stops = refl
not_itself kind (Continuation c run) t b allowed e stops = refl

one_unit : (kind : Kind) (v : SegmentValue) (u : QuotedUnit) → IsNoText v → is_itself u ≡ false
    → v ≡ unit_segment kind u → AreUnitsFor kind v (u ∷ [])
one_unit kind (Text run) u none other is = absurd none
one_unit kind (Char c) u none other is = record { unit = u; are = refl; other = other; value_is = is }
one_unit kind (Byte b) u none other is = record { unit = u; are = refl; other = other; value_is = is }
one_unit kind Nothing u none other is = record { unit = u; are = refl; other = other; value_is = is }

pub unit_front : (kind : Kind) (plain : Bool) (t b : List ℕ) (piece : Piece) (v : SegmentValue) → plain ≡ false
    → first_passes (is_plain kind) t ≡ false → unit_at kind t ≡ Some (piece_value kind piece, b) → IsHeldBy kind piece
    → is_character piece ≡ is_character_at kind t → v ≡ piece_segment kind piece → IsNoText v → (us : List QuotedUnit)
    × AreUnitsIn kind plain t us → IsFirstSegment kind plain t v b
unit_front kind false t b piece v is stops unit fits named value none has =
    let f = row_front kind t has.0 (piece_value kind piece, b) has.1 unit in
    let u = f.unit in
    let other = not_itself kind u t b f.allowed f.text_is stops in
    let as_unit = piece_in_front kind piece u t b fits f.allowed other f.text_is f.value_is named in
    record {
      units = u ∷ [];
      is_segment = record {
        are = one_unit kind v u none other (value ∙ as_unit);
        bytes_are = ap value_bytes value ∙ segment_bytes kind piece fits ∙ sym (piece_in_bytes kind piece fits)
            ∙ ap (in_bytes kind) f.value_is ∙ sym (append-nil (unit_bytes kind u));
      };
      text_is = f.text_is ∙ ap (λ z. z ++ b) (sym (append-nil (unit_text u)));
      left = (f.others, f.run);
      goes_on = λ others h. unit_joined kind t b u others f.allowed f.ends f.text_is h;
    }
unit_front kind true t b piece v is stops unit fits named value none has = absurd (cc)

-- If the characters of a text are the characters of `a` and then those of `b`, the text is `a` and then `b`.
pub cut_bytes : (t a b : List ℕ) → IsUtf8 t → IsUtf8 a → IsUtf8 b → chars t ≡ chars a ++ chars b → t ≡ a ++ b
cut_bytes t a b ut ua ub e = sym (encodes-chars t ut) ∙ ap encode_utf8_all e ∙ encodes-append (chars a) (chars b)
    ∙ ap (λ z. z ++ encode_utf8_all (chars b)) (encodes-chars a ua) ∙ ap (λ z. a ++ z) (encodes-chars b ub)

-- If a body isn't its own value byte for byte, it is a sequence of characters and escapes.
pub row_of : (kind : Kind) (plain : Bool) (t : List ℕ) → plain ≡ false → (us : List QuotedUnit)
    × AreUnitsIn kind plain t us → (us : List QuotedUnit) × IsUnitRun kind t us
row_of kind false t is has = has
row_of kind true t is has = absurd (cc)

pub unit_there : (kind : Kind) (plain : Bool) (text : List ℕ) → plain ≡ false → IsUtf8 text → (text ≡ [] → ⊥)
    → (us : List QuotedUnit) × AreUnitsIn kind plain (chars text) us → unit_at kind (chars text) ≡ None → ⊥
unit_there kind plain text is u some has none =
    let row = row_of kind plain (chars text) is has in
    row_stands kind (chars text) row.0 row.1 (λ e. some (sym (encodes-chars text u) ∙ ap encode_utf8_all e)) none

-- If the test of whether a list is empty returns `false`, the list's length is above 0.
pub some_length : (empty : Bool) (xs : List ℕ) → empty ≡ (length xs == 0) → empty ≡ false → 0 < length xs
some_length empty [] e some = absurd (both_ways empty some e)
some_length empty (x ∷ xs) e some = omega arith

pub no_length : (empty : Bool) (xs : List ℕ) → empty ≡ (length xs == 0) → empty ≡ true → xs ≡ []
no_length empty [] e none = refl
no_length empty (x ∷ xs) e none = let zero = eqb-true (length (x ∷ xs)) 0 (sym e ∙ none) in absurd (omega (arith, zero))

-- ---- a step of the cursor

abbrev pub StateOf : Kind → Bool → ℕ → List ℕ → SegmentsState
StateOf kind plain end rest = record { kind = kind; plain = plain; at = end - length rest; rest = rest }

pub takes_segment : (kind : Kind) (plain : Bool) (end : ℕ) (rest after : List ℕ) (v : SegmentValue)
    → IsSegmentsState kind plain end rest → IsUtf8 after → IsFirstSegment kind plain (chars rest) v (chars after)
    → IsLongest kind v (chars after) → (plain ≡ true → after ≡ []) → TakesSegment (StateOf kind plain end rest)
    (record { lo = end - length rest; hi = end - length after; value = v }) (StateOf kind plain end after)
takes_segment kind plain end rest after v s u f longest whole_body =
    let whole : rest ≡ encode_utf8_all (texts f.units) ++ after = sym (encodes-chars rest s.is_text)
    ∙ ap encode_utf8_all f.text_is ∙ encodes-append (texts f.units) (chars after)
    ∙ ap (λ z. encode_utf8_all (texts f.units) ++ z) (encodes-chars after u) in
    let long : length rest ≡ byte_len (texts f.units) + length after = ap length whole
    ∙ length-append (encode_utf8_all (texts f.units)) after in
    record {
      units = f.units;
      is_segment = f.is_segment;
      longest = longest;
      whole = whole_body;
      lo_is = refl;
      hi_is = refl;
      long = omega (arith, long, s.room);
      left = f.left;
      goes_on = f.goes_on;
      same_kind = refl;
      same_end = omega (arith, long, s.room);
    }

-- A segment of plain characters is as long as possible.
pub text_longest : (kind : Kind) (run : Bor (List ℕ)) (rest : List ℕ)
    → (is_string kind ≡ true → first_passes (is_plain kind) rest ≡ false) → IsLongest kind (Text run) rest
text_longest kind run rest h = h

pub other_longest : (kind : Kind) (v : SegmentValue) (rest : List ℕ) → IsNoText v → IsLongest kind v rest
other_longest kind (Text run) rest none = absurd none
other_longest kind (Char c) rest none = tt
other_longest kind (Byte b) rest none = tt
other_longest kind Nothing rest none = tt

-- ---- offsets

-- If a property holds for each of two values, it holds for the one that a comparison of two numbers chooses.
pub tested : {A : Type 0} (P : A → Type 0) (a n : ℕ) (x y : A) → (a < n → P x) → (n ≤ a → P y) → P (cond (ltb a n) x y)
tested P a n x y f g = go (ltb a n) refl
  where
    go : (b : Bool) → ltb a n ≡ b → P (cond b x y)
    go true e = f (ltb-true a n e)
    go false e = g (ltb-false a n e)

-- A value begins with the value of the characters and escapes `done`. The offset of a byte after that value is the length of
-- their text, plus the byte's offset in the text after them.
pub place_past : (inside : QuotedUnit → ℕ → ℕ) (kind : Kind) (done us : List QuotedUnit) (at left : ℕ) → at
    ≡ length (units_bytes kind done) + left → unit_place inside kind (done ++ us) at
    ≡ byte_len (texts done) + unit_place inside kind us left
place_past inside kind [] us at left e =
    let same : at ≡ left = omega (arith, e) in
    let places : unit_place inside kind us at ≡ unit_place inside kind us left = ap (unit_place inside kind us) same in
    omega (arith, places)
place_past inside kind (u ∷ done) us at left e =
    let n = length (unit_bytes kind u) in
    let total : at ≡ n + (length (units_bytes kind done) + left) = omega
    (arith, e, length-append (unit_bytes kind u) (units_bytes kind done)) in
    let more = place_past inside kind done us (at - n) left (omega (arith, total)) in
    let Goal : ℕ → Type 0 = λ z. z ≡ byte_len (texts (u ∷ done)) + unit_place inside kind us left in
    tested Goal at n _ _
    (λ small. absurd (omega (arith, total, small)))
    (λ large. omega (arith, more, byte_len_append (unit_text u) (texts done)))

-- In a text that begins with plain characters, the offset of the byte `at` of their value is `at + d`. For the offset where
-- a byte begins, `d` is 0. For the offset where a byte ends, `d` is 1.
pub place_in_run : (inside : QuotedUnit → ℕ → ℕ) (d : ℕ) (kind : Kind) (cs : List ℕ) (us : List QuotedUnit) (at : ℕ)
    → ((c i : ℕ) → inside (Plain c) i ≡ i + d) → at < length (encode_utf8_all cs)
    → unit_place inside kind (map Plain cs ++ us) at ≡ at + d
place_in_run inside d kind [] us at plain small = absurd (omega (arith, small))
place_in_run inside d kind (c ∷ cs) us at plain small =
    let n = length (unit_bytes kind (Plain c)) in
    let same : n ≡ byte_len (c ∷ []) = ap length (held_in_bytes kind (c ∷ [])) in
    let total : length (encode_utf8_all (c ∷ cs)) ≡ byte_len (c ∷ []) + byte_len cs = byte_len_append (c ∷ []) cs in
    tested (λ z. z ≡ at + d) at n _ _
    (λ before. plain c at)
    (λ large.
    let more = place_in_run inside d kind cs us (at - n) plain (omega (arith, small, same, total, large)) in omega
    (arith, more, same, large))

pub begins_plain : (c i : ℕ) → begins_in (Plain c) i ≡ i + 0
begins_plain c i = omega arith

pub ends_plain : (c i : ℕ) → ends_in (Plain c) i ≡ i + 1
ends_plain c i = refl

-- For a byte of the first character or escape of a sequence, the offset in the sequence is the offset within this character
-- or escape.
pub place_in_unit : (inside : QuotedUnit → ℕ → ℕ) (kind : Kind) (u : QuotedUnit) (us : List QuotedUnit) (at : ℕ)
    → at < length (unit_bytes kind u) → unit_place inside kind (u ∷ us) at ≡ inside u at
place_in_unit inside kind u us at small = rw (lt-ltb at (length (unit_bytes kind u)) small) refl

-- The segment is one escape or one line end CR LF. For the byte `at` of its value, `inside` gives the offset in the segment.
pub record IsOneUnit (inside : QuotedUnit → ℕ → ℕ) (kind : Kind) (units us : List QuotedUnit) (at : ℕ) : Type 0 where
  pub unit : QuotedUnit
  pub are : units ≡ unit ∷ []
  pub other : is_itself unit ≡ false
  pub place : unit_place inside kind (units ++ us) at ≡ inside unit at

one_place_in : (inside : QuotedUnit → ℕ → ℕ) (kind : Kind) (v : SegmentValue) (units us : List QuotedUnit) (at : ℕ)
    → IsOtherUnit kind v units → value_bytes v ≡ units_bytes kind units → at < length (value_bytes v)
    → IsOneUnit inside kind units us at
one_place_in inside kind v units us at one e small =
    let u = one.unit in
    let long : length (value_bytes v) ≡ length (unit_bytes kind u) = ap length
    (e ∙ ap (units_bytes kind) one.are ∙ append-nil (unit_bytes kind u)) in
    record {
      unit = u;
      are = one.are;
      other = one.other;
      place = ap (λ z. unit_place inside kind (z ++ us) at) one.are
          ∙ place_in_unit inside kind u us at (omega (arith, long, small));
    }

one_begins : (kind : Kind) (units us : List QuotedUnit) (at : ℕ) → IsOneUnit begins_in kind units us at
    → unit_place begins_in kind (units ++ us) at ≡ 0
one_begins kind units us at o = o.place ∙ ap (λ z. cond z at 0) o.other

one_ends : (kind : Kind) (units us : List QuotedUnit) (at : ℕ) → IsOneUnit ends_in kind units us at
    → unit_place ends_in kind (units ++ us) at ≡ byte_len (texts units)
one_ends kind units us at o =
    o.place ∙ ap (λ z. cond z (at + 1) (byte_len (unit_text o.unit))) o.other
    ∙ ap byte_len (sym (append-nil (unit_text o.unit)) ∙ ap texts (sym o.are))

pub begins_in_segment : (kind : Kind) (v : SegmentValue) (units us : List QuotedUnit) (at : ℕ)
    → IsSegmentOf kind v units → at < length (value_bytes v) → unit_place begins_in kind (units ++ us) at
    ≡ value_place v at
begins_in_segment kind (Text run) units us at s small =
    let bytes = ap length s.bytes_are ∙ ap (λ z. length (units_bytes kind z)) s.are
    ∙ ap length (run_bytes kind (chars run.now)) in
    ap (λ z. unit_place begins_in kind (z ++ us) at) s.are ∙ place_in_run begins_in 0 kind (chars run.now) us at
    begins_plain (omega (arith, bytes, small)) ∙ omega arith
begins_in_segment kind (Char c) units us at s small = one_begins kind units us at
    (one_place_in begins_in kind (Char c) units us at s.are s.bytes_are small)
begins_in_segment kind (Byte b) units us at s small = one_begins kind units us at
    (one_place_in begins_in kind (Byte b) units us at s.are s.bytes_are small)
begins_in_segment kind Nothing units us at s small = absurd (omega (arith, small))

pub ends_in_segment : (kind : Kind) (v : SegmentValue) (units us : List QuotedUnit) (lo hi at : ℕ)
    → IsSegmentOf kind v units → hi ≡ lo + byte_len (texts units) → at < length (value_bytes v)
    → lo + unit_place ends_in kind (units ++ us) at ≡ value_end v lo hi at
ends_in_segment kind (Text run) units us lo hi at s long small =
    let bytes = ap length s.bytes_are ∙ ap (λ z. length (units_bytes kind z)) s.are
    ∙ ap length (run_bytes kind (chars run.now)) in
    let place = ap (λ z. unit_place ends_in kind (z ++ us) at) s.are
    ∙ place_in_run ends_in 1 kind (chars run.now) us at ends_plain (omega (arith, bytes, small)) in
    omega (arith, place)
ends_in_segment kind (Char c) units us lo hi at s long small = omega (
  arith,
  long,
  one_ends kind units us at (one_place_in ends_in kind (Char c) units us at s.are s.bytes_are
      small),
)
ends_in_segment kind (Byte b) units us lo hi at s long small = omega
    (arith, long, one_ends kind units us at (one_place_in ends_in kind (Byte b) units us at s.are s.bytes_are small))
ends_in_segment kind Nothing units us lo hi at s long small = absurd (omega (arith, small))

-- A segment of plain characters is as long in bytes as its value.
pub text_long : (kind : Kind) (v : SegmentValue) (run : Bor (List ℕ)) (units : List QuotedUnit)
    → IsSegmentOf kind v units → v ≡ Text run → length (value_bytes v) ≡ byte_len (texts units)
text_long kind v run units s e = go v e s
  where
    go : (v : SegmentValue) → v ≡ Text run → IsSegmentOf kind v units → length (value_bytes v) ≡ byte_len (texts units)
    go (Text r) e s =
        ap length s.bytes_are ∙ ap (λ z. length (units_bytes kind z)) s.are ∙ ap length (run_bytes kind (chars r.now))
        ∙ ap byte_len (sym (run_texts (chars r.now)) ∙ ap texts (sym s.are))
    go (Char c) e s = absurd (cc)
    go (Byte b) e s = absurd (cc)
    go Nothing e s = absurd (cc)

-- The start of the range that encodes a byte of a segment's value is before the end of the segment.
pub place_below : (kind : Kind) (s : Segment) (units : List QuotedUnit) (i : ℕ) → IsSegmentOf kind s.value units → s.hi
    ≡ s.lo + byte_len (texts units) → s.lo < s.hi → i < length (value_bytes s.value) → segment_place s i < s.hi
place_below kind s units i is_segment long some small = go s.value refl
  where
    go : (v : SegmentValue) → s.value ≡ v → segment_place s i < s.hi
    go (Text run) e = omega (
      arith,
      long,
      text_long kind s.value run units is_segment e,
      small,
      ap
          (λ z. value_place z i) e,
    )
    go (Char c) e = omega (arith, some, ap (λ z. value_place z i) e)
    go (Byte b) e = omega (arith, some, ap (λ z. value_place z i) e)
    go Nothing e = omega (arith, some, ap (λ z. value_place z i) e)

-- An offset at or after the end of the values of characters and escapes is mapped to the end of their text.
pub place_at_end : (inside : QuotedUnit → ℕ → ℕ) (kind : Kind) (us : List QuotedUnit) (at : ℕ)
    → length (units_bytes kind us) ≤ at → unit_place inside kind us at ≡ byte_len (texts us)
place_at_end inside kind us at h =
    let past = place_past inside kind us [] at (at - length (units_bytes kind us)) (omega (arith, h)) in
    ap (λ z. unit_place inside kind z at) (sym (append-nil us)) ∙ past ∙ omega arith

-- ---- the search for an offset

pub record IsOnTheWay (start : SegmentsState) (at : ℕ) (now : SegmentsState) (left : ℕ) : Type 0 where
  pub done : List QuotedUnit
  pub goes_on : (others : List QuotedUnit) → AreLeft now others → AreLeft start (done ++ others)
  pub at_is : at ≡ length (units_bytes start.kind done) + left
  pub place_is : now.at ≡ start.at + byte_len (texts done)
  pub same_kind : now.kind ≡ start.kind
  pub same_end : now.at + length now.rest ≡ start.at + length start.rest

pub goes_past : (start old new : SegmentsState) (at left less : ℕ) (s : Segment) → IsOnTheWay start at old left
    → TakesSegment old s new → length (value_bytes s.value) ≤ left → less ≡ left - length (value_bytes s.value)
    → IsOnTheWay start at new less
goes_past start old new at left less s way t enough is =
    let bytes : length (value_bytes s.value) ≡ length (units_bytes start.kind t.units) = ap length
    t.is_segment.bytes_are ∙ ap (λ (k : Kind). length (units_bytes k t.units)) way.same_kind in
    let both : length (units_bytes start.kind (way.done ++ t.units))
    ≡ length (units_bytes start.kind way.done) + length (units_bytes start.kind t.units) = ap length
    (flat_map-append (unit_bytes start.kind) way.done t.units)
    ∙ length-append (units_bytes start.kind way.done) (units_bytes start.kind t.units) in
    let long : byte_len (texts (way.done ++ t.units)) ≡ byte_len (texts way.done) + byte_len (texts t.units) = ap
    byte_len (flat_map-append unit_text way.done t.units) ∙ byte_len_append (texts way.done) (texts t.units) in
    record {
      done = way.done ++ t.units;
      goes_on = λ others h. subst (AreLeft start) (sym (append_assoc way.done t.units others))
          (way.goes_on (t.units ++ others) (t.goes_on others h));
      at_is = omega (arith, way.at_is, bytes, both, enough, is);
      place_is = omega (arith, way.place_is, t.lo_is, t.hi_is, t.long, long);
      same_kind = t.same_kind ∙ way.same_kind;
      same_end = t.same_end ∙ way.same_end;
    }

pub arrives : (start old new : SegmentsState) (at left : ℕ) (s : Segment) → IsOnTheWay start at old left
    → TakesSegment old s new → s.lo < s.hi → left < length (value_bytes s.value) → GivesByte start at s left
arrives start old new at left s way t some small =
    let others = t.left.0 in
    record {
      before = way.done;
      units = t.units;
      others = others;
      are_left = way.goes_on (t.units ++ others) (t.goes_on others t.left.1);
      is_segment = subst (λ (k : Kind). IsSegmentOf k s.value t.units) way.same_kind t.is_segment;
      some = some;
      lo_is = t.lo_is ∙ way.place_is;
      hi_is = t.long;
      at_is = way.at_is;
      inside = small;
    }

pub nothing_left : (s : SegmentsState) → s.rest ≡ [] → AreLeft s []
nothing_left s e = go s.plain (chars s.rest) (ap chars e ∙ chars-nil)
  where
    go : (plain : Bool) (t : List ℕ) → t ≡ [] → AreUnitsIn s.kind plain t []
    go true t e = ap (map Plain) (sym e)
    go false t e = record { each = tt; ends = tt; text_is = e }

pub ends_before : (start now : SegmentsState) (at left : ℕ) → IsOnTheWay start at now left → now.rest ≡ []
    → IsPastLeft start at
ends_before start now at left way e = record {
  units = way.done;
  are_left = subst (AreLeft start) (append-nil way.done) (way.goes_on [] (nothing_left now e));
  past = omega (arith, way.at_is);
  long = omega (arith, way.place_is, way.same_end, ap length e);
}

-- ---- the result of the search

pub given_within : (s : SegmentsState) (at within : ℕ) (segment : Segment) → GivesByte s at segment within
    → segment_place segment within < segment.hi
given_within s at within segment g = place_below s.kind segment g.units within g.is_segment g.hi_is g.some g.inside

pub given_place : (s : SegmentsState) (at within : ℕ) (segment : Segment) → GivesByte s at segment within
    → IsLeftAt begins_in s at (segment_place segment within)
given_place s at within segment g =
    let past = place_past begins_in s.kind g.before (g.units ++ g.others) at within g.at_is in
    let inside = begins_in_segment s.kind segment.value g.units g.others within g.is_segment g.inside in
    record { units = g.before ++ (g.units ++ g.others); are_left = g.are_left; place_is = omega (arith, g.lo_is, past, inside) }

pub given_end : (s : SegmentsState) (at within : ℕ) (segment : Segment) → GivesByte s at segment within
    → IsLeftAt ends_in s at (segment_end segment within)
given_end s at within segment g =
    let past = place_past ends_in s.kind g.before (g.units ++ g.others) at within g.at_is in
    let inside = ends_in_segment s.kind segment.value g.units g.others segment.lo segment.hi within g.is_segment g.hi_is
    g.inside in
    record { units = g.before ++ (g.units ++ g.others); are_left = g.are_left; place_is = omega (arith, g.lo_is, past, inside) }

pub past_left : (inside : QuotedUnit → ℕ → ℕ) (s : SegmentsState) (at place : ℕ) → IsPastLeft s at → place
    ≡ s.at + length s.rest → IsLeftAt inside s at place
past_left inside s at place p e = record { units = p.units; are_left = p.are_left; place_is = omega (arith, e, p.long, place_at_end inside s.kind p.units at p.past) }

-- ---- tables

-- The offset that belongs to a byte of the value of some characters and escapes doesn't change if further characters and
-- escapes follow them.
pub place_before : (inside : QuotedUnit → ℕ → ℕ) (kind : Kind) (done more : List QuotedUnit) (at : ℕ)
    → at < length (units_bytes kind done) → unit_place inside kind (done ++ more) at ≡ unit_place inside kind done at
place_before inside kind [] more at h = absurd (omega (arith, h))
place_before inside kind (u ∷ done) more at h =
    let n = length (unit_bytes kind u) in
    let both = length-append (unit_bytes kind u) (units_bytes kind done) in
    go (ltb at n) refl (λ large. place_before inside kind done more (at - n) (omega (arith, h, both, large)))
  where
    go : (b : Bool) → ltb at (length (unit_bytes kind u)) ≡ b →
        (length (unit_bytes kind u) ≤ at → unit_place inside kind (done ++ more) (at - length (unit_bytes kind u))
        ≡ unit_place inside kind done (at - length (unit_bytes kind u)))
        → cond b (inside u at) (byte_len (unit_text u) + unit_place inside kind (done ++ more)
        (at - length (unit_bytes kind u))) ≡ cond b (inside u at)
        (byte_len (unit_text u) + unit_place inside kind done (at - length (unit_bytes kind u)))
    go true e ih = refl
    go false e ih = ap (λ z. byte_len (unit_text u) + z) (ih (ltb-false at (length (unit_bytes kind u)) e))

-- Returns the span of the range of a literal's text that encodes a byte of the literal's value.
abbrev pub unit_span : SegmentsState → Span → List QuotedUnit → ℕ → Span
unit_span s base units at = span_from base (s.at + unit_place begins_in s.kind units at)
    (s.at + unit_place ends_in s.kind units at)

pub record IsTabled (start now : SegmentsState) (base : Span) (table : List Span) : Type 0 where
  pub done : List QuotedUnit
  pub goes_on : (others : List QuotedUnit) → AreLeft now others → AreLeft start (done ++ others)
  pub long : length table ≡ length (units_bytes start.kind done)
  pub place_is : now.at ≡ start.at + byte_len (texts done)
  pub same_kind : now.kind ≡ start.kind
  pub same_end : now.at + length now.rest ≡ start.at + length start.rest
  pub spans : (at : ℕ) → at < length table → get_or table at nowhere ≡ unit_span start base done at

same_span : (base : Span) (lo hi first last : ℕ) → lo ≡ first → hi ≡ last → span_from base lo hi
    ≡ span_from base first last
same_span base lo hi first last e f = ap (λ z. span_from base z hi) e ∙ ap (λ z. span_from base first z) f

pub tabled_more : (start old new : SegmentsState) (base : Span) (table grown : List Span) (s : Segment)
    → IsTabled start old base table → TakesSegment old s new → length grown
    ≡ length table + length (value_bytes s.value) → ((k : ℕ) → k < length table → get_or grown k nowhere
    ≡ get_or table k nowhere) → ((i : ℕ) → i < length (value_bytes s.value) → get_or grown (length table + i) nowhere
    ≡ span_from base (segment_place s i) (segment_end s i)) → IsTabled start new base grown
tabled_more start old new base table grown s t takes long kept added =
    let kind = start.kind in
    let segment = subst (λ (k : Kind). IsSegmentOf k s.value takes.units) t.same_kind takes.is_segment in
    let bytes : length (value_bytes s.value) ≡ length (units_bytes kind takes.units) = ap length segment.bytes_are in
    let both : length (units_bytes kind (t.done ++ takes.units))
    ≡ length (units_bytes kind t.done) + length (units_bytes kind takes.units) = ap length
    (flat_map-append (unit_bytes kind) t.done takes.units) ∙ length-append (units_bytes kind t.done)
    (units_bytes kind takes.units) in
    let text : byte_len (texts (t.done ++ takes.units)) ≡ byte_len (texts t.done) + byte_len (texts takes.units) = ap
    byte_len (flat_map-append unit_text t.done takes.units) ∙ byte_len_append (texts t.done) (texts takes.units) in
    let all = t.done ++ takes.units in
    record {
      done = all;
      goes_on = λ others h. subst (AreLeft start) (sym (append_assoc t.done takes.units others))
          (t.goes_on (takes.units ++ others) (takes.goes_on others h));
      long = omega (arith, long, t.long, bytes, both);
      place_is = omega (arith, t.place_is, takes.lo_is, takes.hi_is, takes.long, text);
      same_kind = takes.same_kind ∙ t.same_kind;
      same_end = takes.same_end ∙ t.same_end;
      spans = λ at h.
          tested (λ (z : ℕ). get_or grown at nowhere ≡ unit_span start base all at) at (length table) 0 0
          (λ small.
          let near : at < length (units_bytes kind t.done) = omega (arith, small, t.long) in
          kept at small ∙ t.spans at small ∙ same_span base _ _ _ _
          (ap (λ z. start.at + z) (sym (place_before begins_in kind t.done takes.units at near)))
          (ap (λ z. start.at + z) (sym (place_before ends_in kind t.done takes.units at near))))
          (λ large.
          let i = at - length table in
          let is : at ≡ length table + i = omega (arith, large) in
          let small : i < length (value_bytes s.value) = omega (arith, h, long, large) in
          let from : at ≡ length (units_bytes kind t.done) + i = omega (arith, is, t.long) in
          let none = append-nil takes.units in
          let begins = place_past begins_in kind t.done takes.units at i from in
          let ends = place_past ends_in kind t.done takes.units at i from in
          let first = ap (λ z. unit_place begins_in kind z i) (sym none)
          ∙ begins_in_segment kind s.value takes.units [] i segment small in
          let last = ap (λ z. s.lo + unit_place ends_in kind z i) (sym none)
          ∙ ends_in_segment kind s.value takes.units [] s.lo s.hi i segment takes.long small in
          ap (λ z. get_or grown z nowhere) is ∙ added i small ∙ same_span base _ _ _ _
          (omega (arith, begins, first, t.place_is, takes.lo_is))
          (omega (arith, ends, last, t.place_is, takes.lo_is)));
    }

pub tabled_all : (start now : SegmentsState) (base : Span) (table grown : List Span) → IsTabled start now base table
    → now.rest ≡ [] → grown ≡ table ++ (span_from base now.at now.at ∷ []) → IsSpanTable start base grown
tabled_all start now base table grown t none is =
    let kind = start.kind in
    let last = span_from base now.at now.at in
    let long : length grown ≡ length table + 1 = ap length is ∙ length-append table (last ∷ []) in
    record {
      units = t.done;
      are_left = subst (AreLeft start) (append-nil t.done) (t.goes_on [] (nothing_left now none));
      long = omega (arith, long, t.long);
      spans = λ at h.
          tested (λ (z : ℕ). get_or grown at nowhere ≡ unit_span start base t.done at) at (length table) 0 0
          (λ small. ap (λ z. get_or z at nowhere) is ∙ get_or_append_left table (last ∷ []) nowhere at small
          ∙ t.spans at small)
          (λ large.
          let end : at ≡ length table = omega (arith, h, long, large) in
          let begins = place_at_end begins_in kind t.done at (omega (arith, large, t.long)) in
          let ends = place_at_end ends_in kind t.done at (omega (arith, large, t.long)) in
          ap (λ z. get_or grown z nowhere) end ∙ ap (λ z. get_or z (length table) nowhere) is
          ∙ get_or-append_seam table last [] nowhere ∙ same_span base _ _ _ _ (omega (arith, t.place_is, begins))
          (omega (arith, t.place_is, ends)));
    }

-- If the span `base` contains the whole text of a cursor, each segment that the cursor returns ends within `base`.
pub segment_fits : (start old new : SegmentsState) (base : Span) (table : List Span) (s : Segment)
    → IsTabled start old base table → TakesSegment old s new → base.lo + (start.at + length start.rest) ≤ base.hi
    → base.lo + s.hi ≤ base.hi
segment_fits start old new base table s t takes fits = omega (arith, t.same_end, takes.same_end, takes.hi_is, fits)
