-- The segments of a quoted literal, and the order of the offsets of their bytes. A segment is a sequence of plain characters, or
-- one other character or escape.
use Rattle.rl_syntax.proofs.Common.{◌≡◌, ◌⊎◌, inl, inr, ℕ, ◌+◌, ◌≤◌, ◌<◌, Bool, true, false, cond, ltb, List, [], ◌∷◌, ◌++◌, length, replicate, refl, sym, ap, subst, ◌∙◌, arith, append-nil, IsUtf8, encodes-chars, append_cancel_right}
use Rattle.rl_lenient.proofs.Names.{append_cancel_left, flat_map-append, Kind, byte_len, first_passes, QuotedUnit, Plain, CrLf, Named, Hex, Unicode, Continuation, Cooked, Raw, Single, IsUnit, is_plain, opener, raw_opener, texts, unit_text, unit_value, values, HasContents, ReadsQuoted, quoted_contents}
use Rattle.std.proofs.Common.{◌-◌, map}
use Rattle.std.specs.Str.{chars}
use Rattle.std.proofs.lemmas.Str.{length-le-encodes}
use Rattle.rl_lenient.specs.Decoded.{in_bytes}
use Rattle.rl_lenient.specs.declared.found.Body.{Body}
use Rattle.rl_cursors.specs.declared.segments.Segment.{Segment}
use Rattle.rl_lenient.specs.Founds.{IsQuotedAt, body_in}
use Rattle.rl_lenient.specs.Mirrors.UnitAt.{unit_at}
use Rattle.rl_lenient.specs.UnitRuns.{BeginsRun}
use Rattle.rl_cursors.specs.Segments.{AreLeft, AreUnitsIn, AreUnitsOf, IsByteEnd, IsGivenAt, IsBytePlace, IsUnitRun, IsSegmentsOf, SegmentsState, begins_in, ends_in, is_itself, unit_place, unit_bytes, units_bytes}
use Rattle.rl_cursors.specs.SegmentLaws.{MakeLiteral, Passes, PlacesKeepTheOrder, OffsetsAreIn, Tile, segments_bytes}
use Rattle.rl_lenient.proofs.BodyLemmas.{openers_differ, row_shrinks}
use Rattle.rl_lenient.proofs.ContentLemmas.{held_in_bytes, in_bytes_append, nothing_in_bytes}
use Rattle.rl_lenient.proofs.FormLemmas.{not_both, cooked_row}
use Rattle.rl_lenient.proofs.FoundLemmas.{body_text}
use Rattle.rl_lenient.proofs.FrontLenLemmas.{byte_len_append, byte_len_ascii, hashes_long}
use Rattle.rl_lenient.proofs.RawLemmas.{raw_same}
use Rattle.rl_lenient.proofs.RowLemmas.{ends_before, row_once}
use Rattle.rl_cursors.proofs.SegmentLemmas.{begins_plain, ends_plain, nothing_left, place_at_end, place_in_run, run_bytes, run_texts, tested}
use Rattle.rl_cursors.proofs.SegmentStarts.{quoted_kind, quoted_reads_as, segments_of}
use Rattle.rl_lenient.proofs.FoundLemmas.{body_long}
use Rattle.rl_lenient.proofs.UnitLemmas.{backslash_not_plain, quote_and_return, some_pair, unit_complete, unit_quote}

-- ---- the values of characters and escapes

pub values_bytes : (kind : Kind) (us : List QuotedUnit) → in_bytes kind (values kind us) ≡ units_bytes kind us
values_bytes kind [] = nothing_in_bytes kind
values_bytes kind (u ∷ us) = in_bytes_append kind (unit_value kind u) (values kind us)
    ∙ ap (λ z. unit_bytes kind u ++ z) (values_bytes kind us)

record UnitsRead (kind : Kind) (text : List ℕ) (units : List QuotedUnit) : Type 0 where
  pub value : List ℕ
  pub contents : HasContents kind text (quoted_contents kind value)
  pub bytes_are : units_bytes kind units ≡ in_bytes kind value

reads : (kind : Kind) (text value suffix : List ℕ) → Cooked kind text value suffix ⊎ Raw kind text value suffix
    ⊎ Single kind text value suffix → HasContents kind text (quoted_contents kind value)
reads kind text value suffix form =
    let r : ReadsQuoted text kind (quoted_contents kind value) suffix = record
    { value = value; form = form; contents_is = refl } in (
      suffix,
      quoted_reads_as kind text (quoted_contents kind value) suffix r
          (quoted_kind kind text (quoted_contents kind value) suffix r),
    )

units_read : (kind : Kind) (text : List ℕ) (units : List QuotedUnit) (lo : ℕ) → AreUnitsOf kind text units lo
    → UnitsRead kind text units
units_read kind text units lo (inl (v, x, c, are, at)) = record {
  value = v;
  contents = reads kind text v x (inl c);
  bytes_are = ap (units_bytes kind) are ∙ sym (values_bytes kind c.units) ∙ ap (in_bytes kind) (sym c.value_is);
}
units_read kind text units lo (inr (inl (v, x, r, are, at))) = record {
  value = v;
  contents = reads kind text v x (inr (inl r));
  bytes_are = ap (units_bytes kind) are ∙ run_bytes kind r.inside ∙ sym (held_in_bytes kind r.inside)
      ∙ ap (in_bytes kind) (sym r.value_is);
}
units_read kind text units lo (inr (inr (v, x, s, are, at))) = record {
  value = v;
  contents = reads kind text v x (inr (inr s));
  bytes_are = ap (units_bytes kind) are ∙ append-nil (unit_bytes kind s.unit) ∙ ap (in_bytes kind) (sym s.value_is);
}

-- ---- all segments

record Passed (old : SegmentsState) (ss : List Segment) (hi : ℕ) : Type 0 where
  pub units : List QuotedUnit
  pub are_left : AreLeft old units
  pub fill : Tile old.at ss hi
  pub long : hi ≡ old.at + byte_len (texts units)
  pub bytes_are : segments_bytes ss ≡ units_bytes old.kind units

passed : (old new : SegmentsState) (ss : List Segment) → Passes old ss new → new.rest ≡ [] → Passed old ss new.at
passed old new [] p none =
    let same : old.at ≡ new.at = ap (λ (s : SegmentsState). s.at) (sym p) in
    record {
      units = [];
      are_left = nothing_left old (ap (λ (s : SegmentsState). s.rest) (sym p) ∙ none);
      fill = same;
      long = omega (arith, same);
      bytes_are = refl;
    }
passed old new (s ∷ ss) (next, t, p) none =
    let more = passed next new ss p none in
    let text : byte_len (texts (t.units ++ more.units)) ≡ byte_len (texts t.units) + byte_len (texts more.units) = ap
    byte_len (flat_map-append unit_text t.units more.units) ∙ byte_len_append (texts t.units) (texts more.units) in
    record {
      units = t.units ++ more.units;
      are_left = t.goes_on more.units more.are_left;
      fill = (t.lo_is, subst (λ z. Tile z ss new.at) (sym t.hi_is) more.fill);
      long = omega (arith, more.long, t.lo_is, t.hi_is, t.long, text);
      bytes_are = ap (λ z. z ++ segments_bytes ss) t.is_segment.bytes_are
          ∙ ap (λ z. units_bytes old.kind t.units ++ z) (more.bytes_are
          ∙ ap (λ (k : Kind). units_bytes k more.units) t.same_kind)
          ∙ sym (flat_map-append (unit_bytes old.kind) t.units more.units);
    }

pub all_make : (kind : Kind) (text : List ℕ) (start end : SegmentsState) (ss : List Segment)
    → IsSegmentsOf kind text start → Passes start ss end → end.rest ≡ [] → MakeLiteral kind text ss
all_make kind text start end ss whole p none =
    let all = passed start end ss p none in
    let are = whole.units_are all.units all.are_left in
    let read = units_read kind text all.units start.at are in
    record {
      units = all.units;
      lo = start.at;
      units_are = are;
      fill = subst (Tile start.at ss) all.long all.fill;
      value = read.value;
      contents = read.contents;
      bytes_are = all.bytes_are ∙ ap (λ (k : Kind). units_bytes k all.units) whole.kind_is ∙ read.bytes_are;
    }

-- ---- offsets in order

-- A function that gives an offset in the text of a character or escape for each byte of its value. The offset is within the
-- text. A later byte doesn't have a smaller offset. If two characters or escapes have equal texts, and both or neither
-- represent themselves, their offsets are equal.
pub record IsPlacing (inside : QuotedUnit → ℕ → ℕ) : Type 0 where
  pub within : (kind : Kind) (u : QuotedUnit) (at : ℕ) → at < length (unit_bytes kind u)
      → inside u at ≤ byte_len (unit_text u)
  pub later : (u : QuotedUnit) (at next : ℕ) → at ≤ next → inside u at ≤ inside u next
  pub alike : (u w : QuotedUnit) (at : ℕ) → is_itself u ≡ is_itself w → unit_text u ≡ unit_text w → inside u at
      ≡ inside w at

-- A byte of a character that represents itself has an offset within the text of the character.
itself_within : (kind : Kind) (u : QuotedUnit) (at d : ℕ) → at < length (unit_bytes kind u) → d ≤ 1 → is_itself u ≡ true
    → at + d ≤ byte_len (unit_text u)
itself_within kind (Plain c) at d small one is = omega (arith, small, one, ap length (held_in_bytes kind (c ∷ [])))
itself_within kind CrLf at d small one is = absurd (cc)
itself_within kind (Named l) at d small one is = absurd (cc)
itself_within kind (Hex high low) at d small one is = absurd (cc)
itself_within kind (Unicode first more) at d small one is = absurd (cc)
itself_within kind (Continuation c run) at d small one is = absurd (cc)

-- If a property holds for each of two numbers, it holds for the one that a condition chooses.
chosen : (P : ℕ → Type 0) (b : Bool) (x y : ℕ) → (b ≡ true → P x) → P y → P (cond b x y)
chosen P true x y f g = f refl
chosen P false x y f g = g

cond_order : (b : Bool) (x y z w : ℕ) → x ≤ y → z ≤ w → cond b x z ≤ cond b y w
cond_order true x y z w h k = h
cond_order false x y z w h k = k

begins_placing : IsPlacing begins_in
begins_placing = record {
  within = λ kind u at small.
      chosen (λ z. z ≤ byte_len (unit_text u)) (is_itself u) at 0
      (λ is. omega (arith, itself_within kind u at 0 small (omega arith) is)) (omega arith);
  later = λ u at next h. cond_order (is_itself u) at next 0 0 h (omega arith);
  alike = λ u w at same text. ap (λ z. cond z at 0) same;
}

ends_placing : IsPlacing ends_in
ends_placing = record {
  within = λ kind u at small.
      chosen (λ z. z ≤ byte_len (unit_text u)) (is_itself u) (at + 1) (byte_len (unit_text u))
      (λ is. itself_within kind u at 1 small (omega arith) is) (omega arith);
  later = λ u at next h. cond_order (is_itself u) (at + 1) (next + 1) (byte_len (unit_text u)) (byte_len (unit_text u))
      (omega (arith, h)) (omega arith);
  alike = λ u w at same text. ap (λ z. cond z (at + 1) (byte_len (unit_text u))) same
      ∙ ap (λ z. cond (is_itself w) (at + 1) (byte_len z)) text;
}

order_in : (inside : QuotedUnit → ℕ → ℕ) → IsPlacing inside → (kind : Kind) (us : List QuotedUnit) (at next : ℕ)
    → at ≤ next → unit_place inside kind us at ≤ unit_place inside kind us next
order_in inside p kind [] at next h = omega arith
order_in inside p kind (u ∷ us) at next h =
    let n = length (unit_bytes kind u) in
    let long = byte_len (unit_text u) in
    tested (λ z. z ≤ unit_place inside kind (u ∷ us) next) at n _ _
    (λ small. tested (λ z. inside u at ≤ z) next n _ _
    (λ small_too. p.later u at next h)
    (λ large. omega (arith, p.within kind u at small)))
    (λ large. tested (λ z. long + unit_place inside kind us (at - n) ≤ z) next n _ _
    (λ small. absurd (omega (arith, h, large, small)))
    (λ large_too. omega (arith, order_in inside p kind us (at - n) (next - n) (omega (arith, h, large)))))

-- The range that encodes a byte of the value begins no later than it ends.
ends_after : (kind : Kind) (us : List QuotedUnit) (at : ℕ) → unit_place begins_in kind us at ≤ unit_place ends_in kind
    us at
ends_after kind [] at = omega arith
ends_after kind (u ∷ us) at =
    let more = ends_after kind us (at - length (unit_bytes kind u)) in
    go (ltb at (length (unit_bytes kind u))) more
  where
    go : (b : Bool) → unit_place begins_in kind us (at - length (unit_bytes kind u)) ≤ unit_place ends_in kind us
        (at - length (unit_bytes kind u)) → cond b (begins_in u at)
        (byte_len (unit_text u) + unit_place begins_in kind us (at - length (unit_bytes kind u))) ≤ cond b
        (ends_in u at) (byte_len (unit_text u) + unit_place ends_in kind us (at - length (unit_bytes kind u)))
    go true more = cond_order (is_itself u) at (at + 1) 0 (byte_len (unit_text u)) (omega arith) (omega arith)
    go false more = omega (arith, more)

-- ---- each byte of the value of a text between quotes has one offset

-- The first character of the text of a character or escape decides whether the text represents itself.
told : (kind : Kind) (u : QuotedUnit) → IsUnit kind u → is_itself u ≡ first_passes (is_plain kind) (unit_text u)
told kind (Plain c) h = sym h
told kind CrLf h = sym (quote_and_return kind h).1
told kind (Named l) h = sym (backslash_not_plain kind)
told kind (Hex high low) h = sym (backslash_not_plain kind)
told kind (Unicode first more) h = sym (backslash_not_plain kind)
told kind (Continuation c run) h = sym (backslash_not_plain kind)

abbrev step : ℕ → ℕ → ℕ → (ℕ → ℕ) → ℕ → ℕ
step n here long more at = cond (ltb at n) here (long + more (at - n))

step_same : (n m : ℕ) (i j : ℕ) (k l : ℕ) (f g : ℕ → ℕ) (at : ℕ) → n ≡ m → i ≡ j → k ≡ l → ((x : ℕ) → f x ≡ g x)
    → step n i k f at ≡ step m j l g at
step_same n m i j k l f g at a b c d =
    ap (λ z. step z i k f at) a ∙ ap (λ z. step m z k f at) b ∙ ap (λ z. step m j z f at) c
    ∙ ap (λ z. cond (ltb at m) j (l + z)) (d (at - m))

some_text : (u : QuotedUnit) (t : List ℕ) → [] ≡ unit_text u ++ t → ⊥
some_text (Plain c) t e = absurd (cc)
some_text CrLf t e = absurd (cc)
some_text (Named l) t e = absurd (cc)
some_text (Hex high low) t e = absurd (cc)
some_text (Unicode first more) t e = absurd (cc)
some_text (Continuation c run) t e = absurd (cc)

rows_place : (inside : QuotedUnit → ℕ → ℕ) → IsPlacing inside → (kind : Kind) (us ws : List QuotedUnit) (t : List ℕ)
    → IsUnitRun kind t us → IsUnitRun kind t ws → (at : ℕ) → unit_place inside kind us at ≡ unit_place inside kind ws at
rows_place inside p kind [] [] t a b at = refl
rows_place inside p kind [] (w ∷ ws) t a b at = absurd (some_text w (texts ws) (sym a.text_is ∙ b.text_is))
rows_place inside p kind (u ∷ us) [] t a b at = absurd (some_text u (texts us) (sym b.text_is ∙ a.text_is))
rows_place inside p kind (u ∷ us) (w ∷ ws) t a b at =
    let first = unit_complete kind u (texts us) a.each.0 a.ends.0 in
    let other = unit_complete kind w (texts ws) b.each.0 b.ends.0 in
    let same = some_pair (unit_value kind u, texts us) (unit_value kind w, texts ws)
    (sym first ∙ ap (unit_at kind) (sym a.text_is ∙ b.text_is) ∙ other) in
    let text : unit_text u ≡ unit_text w = append_cancel_right (unit_text u) (unit_text w) (texts ws)
    (ap (λ z. unit_text u ++ z) (sym same.1) ∙ sym a.text_is ∙ b.text_is) in
    let itself = told kind u a.each.0 ∙ ap (first_passes (is_plain kind)) text ∙ sym (told kind w b.each.0) in
    step_same _ _ _ _ _ _ (unit_place inside kind us) (unit_place inside kind ws) at
    (ap (λ z. length (in_bytes kind z)) same.0) (p.alike u w at itself text) (ap byte_len text)
    (rows_place inside p kind us ws (texts us) (record { each = a.each.1; ends = a.ends.1; text_is = refl })
    (record { each = b.each.1; ends = b.ends.1; text_is = same.1 }))

-- ---- each byte of a literal's value has one offset in the literal's text

abbrev Same : (QuotedUnit → ℕ → ℕ) → Kind → List QuotedUnit → List QuotedUnit → ℕ → ℕ → Type 0
Same inside kind us ws lo start = (lo ≡ start) × ((at : ℕ) → unit_place inside kind us at
    ≡ unit_place inside kind ws at)

cooked_same : (inside : QuotedUnit → ℕ → ℕ) → IsPlacing inside
    → (kind : Kind) (t v x w y : List ℕ) (c : Cooked kind t v x) (d : Cooked kind t w y) → (at : ℕ)
    → unit_place inside kind c.units at ≡ unit_place inside kind d.units at
cooked_same inside p kind t v x w y c d =
    let text : texts d.units ++ (34 ∷ y) ≡ texts c.units ++ (34 ∷ x) = append_cancel_left (opener kind) _ _
    (sym d.text_is ∙ c.text_is) in
    let other = subst (λ z. BeginsRun kind z w (34 ∷ y)) text (cooked_row kind t w y d) in
    let same = (row_once kind (texts c.units ++ (34 ∷ x)) v (34 ∷ x) w (34 ∷ y) (cooked_row kind t v x c) other
    (unit_quote kind x c.string) (unit_quote kind y d.string)).1 in
    let units_same : texts c.units ≡ texts d.units = append_cancel_right (texts c.units) (texts d.units) (34 ∷ y)
    (ap (λ z. texts c.units ++ z) (sym same) ∙ sym text) in
    rows_place inside p kind c.units d.units (texts c.units) (record { each = c.each; ends = c.ends; text_is = refl })
    (record { each = d.each; ends = d.ends; text_is = units_same })

single_same : (inside : QuotedUnit → ℕ → ℕ) → IsPlacing inside
    → (kind : Kind) (t v x w y : List ℕ) (c : Single kind t v x) (d : Single kind t w y) → (at : ℕ)
    → unit_place inside kind (c.unit ∷ []) at ≡ unit_place inside kind (d.unit ∷ []) at
single_same inside p kind t v x w y c d =
    let text : unit_text c.unit ++ (39 ∷ x) ≡ unit_text d.unit
    ++ (39 ∷ y) = append_cancel_left (opener kind) _ _ (sym c.text_is ∙ d.text_is) in
    let first = unit_complete kind c.unit (39 ∷ x) c.is_unit (ends_before c.unit (39 ∷ x) refl) in
    let other = unit_complete kind d.unit (39 ∷ y) d.is_unit (ends_before d.unit (39 ∷ y) refl) in
    let same = some_pair (unit_value kind c.unit, 39 ∷ x) (unit_value kind d.unit, 39 ∷ y)
    (sym first ∙ ap (unit_at kind) text ∙ other) in
    let unit_same : unit_text c.unit ≡ unit_text d.unit = append_cancel_right (unit_text c.unit) (unit_text d.unit)
    (39 ∷ y) (ap (λ z. unit_text c.unit ++ z) (sym same.1) ∙ text) in
    rows_place inside p kind (c.unit ∷ []) (d.unit ∷ []) (unit_text c.unit ++ [])
    (record { each = (c.is_unit, tt); ends = (ends_before c.unit [] refl, tt); text_is = refl })
    (record { each = (d.is_unit, tt); ends = (ends_before d.unit [] refl, tt); text_is = ap (λ z. z ++ []) unit_same })

one_place : (inside : QuotedUnit → ℕ → ℕ) → IsPlacing inside
    → (kind : Kind) (t : List ℕ) (us ws : List QuotedUnit) (lo start : ℕ) → AreUnitsOf kind t us lo
    → AreUnitsOf kind t ws start → Same inside kind us ws lo start
one_place inside p kind t us ws lo start (inl (v, x, c, are, at)) (inl (w, y, d, other, from)) = (
  at ∙ sym from,
  λ i. ap (λ z. unit_place inside kind z i) are ∙ cooked_same inside p kind t v x w y c d i
      ∙ ap (λ z. unit_place inside kind z i) (sym other),
)
one_place inside p kind t us ws lo start (inr (inl (v, x, c, are, at))) (inr (inl (w, y, d, other, from))) =
    let same = raw_same kind t v x w y c d in (
      at ∙ ap (λ n. length (raw_opener kind) + n + 1) same.0 ∙ sym from,
      λ i. ap (λ z. unit_place inside kind z i)
          (are ∙ ap (map Plain) same.1 ∙ sym other),
    )
one_place inside p kind t us ws lo start (inr (inr (v, x, c, are, at))) (inr (inr (w, y, d, other, from))) = (
  at ∙ sym from,
  λ i. ap (λ z. unit_place inside kind z i) are ∙ single_same inside p kind t v x w y c d i
      ∙ ap (λ z. unit_place inside kind z i) (sym other),
)
one_place inside p kind t us ws lo start (inl (v, x, c, are, at)) (inr (inl (w, y, d, other, from))) = absurd
    (openers_differ kind _ _ c.string (sym c.text_is ∙ d.text_is))
one_place inside p kind t us ws lo start (inr (inl (v, x, c, are, at))) (inl (w, y, d, other, from)) = absurd
    (openers_differ kind _ _ c.string (sym d.text_is ∙ c.text_is))
one_place inside p kind t us ws lo start (inl (v, x, c, are, at)) (inr (inr (w, y, d, other, from))) = absurd
    (not_both kind c.string d.single)
one_place inside p kind t us ws lo start (inr (inr (v, x, c, are, at))) (inl (w, y, d, other, from)) = absurd
    (not_both kind d.string c.single)
one_place inside p kind t us ws lo start (inr (inl (v, x, c, are, at))) (inr (inr (w, y, d, other, from))) = absurd
    (not_both kind c.string d.single)
one_place inside p kind t us ws lo start (inr (inr (v, x, c, are, at))) (inr (inl (w, y, d, other, from))) = absurd
    (not_both kind d.string c.single)

in_order : (inside : QuotedUnit → ℕ → ℕ) → IsPlacing inside → (kind : Kind) (text : List ℕ) (at next place other : ℕ)
    → IsGivenAt inside kind text at place → IsGivenAt inside kind text next other → at ≤ next → place ≤ other
in_order inside p kind text at next place other g q h =
    let same = one_place inside p kind text g.units q.units g.lo q.lo g.units_are q.units_are in
    omega (arith, g.place_is, q.place_is, same.0, same.1 next, order_in inside p kind g.units at next h)

pub keep_order : (kind : Kind) (text : List ℕ) → PlacesKeepTheOrder kind text
keep_order kind text = record {
  places = in_order begins_in begins_placing kind text;
  ends = in_order ends_in ends_placing kind text;
  apart = λ at place end g q.
      let same = one_place ends_in ends_placing kind text g.units q.units g.lo q.lo g.units_are q.units_are in
      omega (arith, g.place_is, q.place_is, same.0, same.1 at, ends_after kind g.units at);
}

-- ---- offsets in the body

place_within : (inside : QuotedUnit → ℕ → ℕ) → IsPlacing inside → (kind : Kind) (us : List QuotedUnit) (at : ℕ)
    → unit_place inside kind us at ≤ byte_len (texts us)
place_within inside p kind [] at = omega arith
place_within inside p kind (u ∷ us) at =
    let n = length (unit_bytes kind u) in
    let long = byte_len_append (unit_text u) (texts us) in
    tested (λ z. z ≤ byte_len (texts (u ∷ us))) at n _ _
    (λ small. omega (arith, long, p.within kind u at small))
    (λ large. omega (arith, long, place_within inside p kind us (at - n)))

-- The values of the characters and escapes of a body are no longer than the body.
units_long : (kind : Kind) (plain : Bool) (body : List ℕ) (us : List QuotedUnit) → AreUnitsIn kind plain body us
    → (byte_len (texts us) ≡ byte_len body) × (length (units_bytes kind us) ≤ byte_len body)
units_long kind true body us are = (
  ap (λ z. byte_len (texts z)) are ∙ ap byte_len (run_texts body),
  omega
      (arith, ap (λ z. length (units_bytes kind z)) are, ap length (run_bytes kind body)),
)
units_long kind false body us are =
    let text = ap byte_len are.text_is in
    (sym text, omega (arith, text, ap length (values_bytes kind us), (row_shrinks kind us are.each).no_longer))

-- If a body is its own value, the offset of a byte of the value in the body's text is its offset in the value, plus `d`. For
-- the offset where the byte begins, `d` is 0. For the offset where it ends, `d` is 1.
itself_places : (inside : QuotedUnit → ℕ → ℕ) (d : ℕ) → ((c i : ℕ) → inside (Plain c) i ≡ i + d)
    → (kind : Kind) (plain : Bool) (body : List ℕ) (us : List QuotedUnit) (at : ℕ) → plain ≡ true
    → AreUnitsIn kind plain body us → at < byte_len body → unit_place inside kind us at ≡ at + d
itself_places inside d itself kind false body us at is are h = absurd (cc)
itself_places inside d itself kind true body us at is are h =
    ap (λ z. unit_place inside kind z at) (are ∙ sym (append-nil (map Plain body)))
    ∙ place_in_run inside d kind body [] at itself h

-- The offset of a byte of the value in a literal's text is its offset in the body, plus the offset where the body begins.
of_body : (inside : QuotedUnit → ℕ → ℕ) → IsPlacing inside → (kind : Kind) (t : List ℕ) (body : Body) (at place : ℕ)
    → IsUtf8 t → IsQuotedAt kind t body → IsGivenAt inside kind (chars t) at place → (us : List QuotedUnit)
    × AreUnitsIn kind body.plain (chars (body_in t body)) us × (place ≡ body.lo + unit_place inside kind us at)
of_body inside w kind t body at place u q p =
    let s = segments_of kind t (body_in t body) body u refl q in
    let us = s.has.0 in
    let lo : body.hi - length (body_in t body) ≡ body.lo = omega (arith, body_long t body q.stands) in
    let same = one_place inside w kind (chars t) us p.units _ p.lo (s.units_are us s.has.1) p.units_are in
    (us, s.has.1, omega (arith, p.place_is, same.0, same.1 at, lo))

record PartsStandIn (inside : QuotedUnit → ℕ → ℕ) (kind : Kind) (text : List ℕ) (body : Body) : Type 0 where
  pub end : (at place : ℕ) → IsGivenAt inside kind (chars text) at place → length (body_in text body) ≤ at → place
      ≡ body.hi
  pub within : (at place : ℕ) → IsGivenAt inside kind (chars text) at place → (body.lo ≤ place) × (place ≤ body.hi)

stand_in : (inside : QuotedUnit → ℕ → ℕ) → IsPlacing inside → (kind : Kind) (t : List ℕ) (body : Body) → IsUtf8 t
    → IsQuotedAt kind t body → PartsStandIn inside kind t body
stand_in inside w kind t body u q =
    let whole : byte_len (chars (body_in t body)) ≡ length (body_in t body) = ap length
    (encodes-chars (body_in t body) (body_text t body u q.stands)) in
    let hi = body_long t body q.stands in
    record {
      end = λ at place p far.
          let o = of_body inside w kind t body at place u q p in
          let long = units_long kind body.plain (chars (body_in t body)) o.0 o.1 in
          omega (arith, o.2, hi, whole, long.0, place_at_end inside kind o.0 at (omega (arith, far, whole, long.1)));
      within = λ at place p.
          let o = of_body inside w kind t body at place u q p in
          let long = units_long kind body.plain (chars (body_in t body)) o.0 o.1 in
          (omega (arith, o.2), omega (arith, o.2, hi, whole, long.0, place_within inside w kind o.0 at));
    }

-- If a body is its own value, the offset of a byte in the body is its offset in the value.
itself_in : (inside : QuotedUnit → ℕ → ℕ) → IsPlacing inside → (d : ℕ) → ((c i : ℕ) → inside (Plain c) i ≡ i + d)
    → (kind : Kind) (t : List ℕ) (body : Body) → IsUtf8 t → IsQuotedAt kind t body → (at place : ℕ)
    → IsGivenAt inside kind (chars t) at place → body.plain ≡ true → at < length (body_in t body) → place
    ≡ body.lo + (at + d)
itself_in inside w d itself kind t body u q at place p plain near =
    let whole : byte_len (chars (body_in t body)) ≡ length (body_in t body) = ap length
    (encodes-chars (body_in t body) (body_text t body u q.stands)) in
    let o = of_body inside w kind t body at place u q p in
    omega (
      arith,
      o.2,
      itself_places inside d itself kind body.plain (chars (body_in t body)) o.0 at plain o.1
          (omega (arith, near, whole)),
    )

pub stands_in : (kind : Kind) (t : List ℕ) (body : Body) → IsUtf8 t → IsQuotedAt kind t body → OffsetsAreIn kind t body
stands_in kind t body u q =
    let begins = stand_in begins_in begins_placing kind t body u q in
    let ends = stand_in ends_in ends_placing kind t body u q in
    record {
      end = begins.end;
      plain = λ at place p plain near. itself_in begins_in begins_placing 0 begins_plain kind t body u q at place p
          plain near ∙ omega arith;
      plain_end = λ at place p plain near. itself_in ends_in ends_placing 1 ends_plain kind t body u q at place p plain
          near;
      within = begins.within;
      within_end = ends.within;
    }

-- The offset in a literal's text that belongs to a byte of the value is within the text.
in_text : (inside : QuotedUnit → ℕ → ℕ) → IsPlacing inside → (kind : Kind) (t : List ℕ) (at place : ℕ)
    → IsGivenAt inside kind t at place → place ≤ byte_len t
in_text inside w kind t at place p = go p.units_are
  where
    go : AreUnitsOf kind t p.units p.lo → place ≤ byte_len t
    go (inl (v, x, c, are, from)) =
        omega (
          arith,
          p.place_is,
          from,
          place_within inside w kind p.units at,
          ap (λ z. byte_len (texts z)) are,
          ap
              byte_len c.text_is,
          byte_len_append (opener kind) (texts c.units ++ (34 ∷ x)),
          byte_len_append
              (texts c.units) (34 ∷ x),
          length-le-encodes (opener kind),
        )
    go (inr (inl (v, x, r, are, from))) =
        let hashes = replicate r.hashes 35 in
        let closed = 34 ∷ (hashes ++ x) in
        omega (
          arith,
          p.place_is,
          from,
          place_within inside w kind p.units at,
          ap (λ z. byte_len (texts z)) are,
          ap byte_len (run_texts r.inside),
          ap byte_len r.text_is,
          byte_len_append (raw_opener kind) (hashes ++ (34 ∷ (r.inside ++ closed))),
          byte_len_append hashes (34 ∷ (r.inside ++ closed)),
          byte_len_ascii 34 (r.inside ++ closed) (omega arith),
          byte_len_append r.inside closed,
          hashes_long r.hashes,
          length-le-encodes (raw_opener kind),
        )
    go (inr (inr (v, x, s, are, from))) =
        omega (
          arith,
          p.place_is,
          from,
          place_within inside w kind p.units at,
          ap (λ z. byte_len (texts z)) are,
          ap
              byte_len (append-nil (unit_text s.unit)),
          ap byte_len s.text_is,
          byte_len_append (opener kind)
              (unit_text s.unit ++ (39 ∷ x)),
          byte_len_append (unit_text s.unit) (39 ∷ x),
          length-le-encodes
              (opener kind),
        )

pub place_in_text : (kind : Kind) (t : List ℕ) (at place : ℕ) → IsBytePlace kind t at place → place ≤ byte_len t
place_in_text = in_text begins_in begins_placing

pub end_in_text : (kind : Kind) (t : List ℕ) (at place : ℕ) → IsByteEnd kind t at place → place ≤ byte_len t
end_in_text = in_text ends_in ends_placing
