-- Sequences of characters and escapes, parsed one at a time.
use Rattle.rl_syntax.proofs.Common.{◌≡◌, ℕ, Bool, true, false, cond, List, [], ◌∷◌, ◌++◌, None, refl, sym, ap, subst, ◌∙◌, append_assoc, append-nil, Some, encode_utf8, encode_utf8_all, AllByRecursion, list_all, and_parts}
use Rattle.rl_lenient.proofs.Names.{flat_map-append, Kind, first_passes, QuotedUnit, Plain, CrLf, Named, Hex, Unicode, Continuation, unit_text, unit_value, is_blank, content_of, decodes_to_chars, is_plain, IsUnit, EndsBefore, texts, values}
use Rattle.rl_syntax.specs.Quoted.{ContinuationsEnd}
use Rattle.rl_lenient.specs.Mirrors.UnitAt.{found, unit_at}
use Rattle.rl_lenient.specs.UnitRuns.{RunEnds, BeginsRun}
use Rattle.rl_lenient.proofs.UnitLemmas.{some_pair, unit_sound, unit_complete}

-- ---- the ends of escaped line ends

-- If the text `r` doesn't begin with white space, the text `t` begins with white space exactly if `t ++ r` does.
passes_on : (t r : List ℕ) → first_passes is_blank r ≡ false → first_passes is_blank (t ++ r) ≡ first_passes is_blank t
passes_on [] r h = h
passes_on (c ∷ t) r h = refl

ends_on : (u : QuotedUnit) (t r : List ℕ) → first_passes is_blank r ≡ false → EndsBefore u t → EndsBefore u (t ++ r)
ends_on (Continuation c run) t r h e = passes_on t r h ∙ e
ends_on (Plain c) t r h e = e
ends_on CrLf t r h e = e
ends_on (Named l) t r h e = e
ends_on (Hex high low) t r h e = e
ends_on (Unicode first more) t r h e = e

ends_off : (u : QuotedUnit) (t r : List ℕ) → first_passes is_blank r ≡ false → EndsBefore u (t ++ r) → EndsBefore u t
ends_off (Continuation c run) t r h e = sym (passes_on t r h) ∙ e
ends_off (Plain c) t r h e = e
ends_off CrLf t r h e = e
ends_off (Named l) t r h e = e
ends_off (Hex high low) t r h e = e
ends_off (Unicode first more) t r h e = e

-- A text that doesn't begin with white space may follow any character or escape.
pub ends_before : (u : QuotedUnit) (r : List ℕ) → first_passes is_blank r ≡ false → EndsBefore u r
ends_before (Continuation c run) r h = h
ends_before (Plain c) r h = tt
ends_before CrLf r h = tt
ends_before (Named l) r h = tt
ends_before (Hex high low) r h = tt
ends_before (Unicode first more) r h = tt

pub row_ends_on : (us : List QuotedUnit) (r : List ℕ) → first_passes is_blank r ≡ false → ContinuationsEnd us
    → RunEnds us r
row_ends_on [] r h e = tt
row_ends_on (u ∷ us) r h e = (ends_on u (texts us) r h e.0, row_ends_on us r h e.1)

pub row_ends_off : (us : List QuotedUnit) (r : List ℕ) → first_passes is_blank r ≡ false → RunEnds us r
    → ContinuationsEnd us
row_ends_off [] r h e = tt
row_ends_off (u ∷ us) r h e = (ends_off u (texts us) r h e.0, row_ends_off us r h e.1)

-- ---- one more character or escape

texts_more : (us : List QuotedUnit) (u : QuotedUnit) (r : List ℕ) → texts (us ++ (u ∷ [])) ++ r ≡ texts us
    ++ (unit_text u ++ r)
texts_more us u r =
    ap (λ z. z ++ r) (flat_map-append unit_text us (u ∷ []))
    ∙ append_assoc (texts us) (unit_text u ++ []) r
    ∙ ap (λ z. texts us ++ (z ++ r)) (append-nil (unit_text u))

values_more : (kind : Kind) (us : List QuotedUnit) (u : QuotedUnit) → values kind (us ++ (u ∷ [])) ≡ values kind us
    ++ unit_value kind u
values_more kind us u = flat_map-append (unit_value kind) us (u ∷ [])
    ∙ ap (λ z. values kind us ++ z) (append-nil (unit_value kind u))

each_more : (kind : Kind) (us : List QuotedUnit) (u : QuotedUnit) → AllByRecursion (IsUnit kind) us → IsUnit kind u
    → AllByRecursion (IsUnit kind) (us ++ (u ∷ []))
each_more kind [] u each h = (h, tt)
each_more kind (w ∷ us) u each h = (each.0, each_more kind us u each.1 h)

ends_more : (us : List QuotedUnit) (u : QuotedUnit) (r : List ℕ) → RunEnds us (unit_text u ++ r) → EndsBefore u r
    → RunEnds (us ++ (u ∷ [])) r
ends_more [] u r ends h = (h, tt)
ends_more (w ∷ us) u r ends h = (subst (EndsBefore w) (sym (texts_more us u r)) ends.0, ends_more us u r ends.1 h)

pub row_start : (kind : Kind) (a : List ℕ) → BeginsRun kind a [] a
row_start kind a = record { units = []; each = tt; ends = tt; text_is = refl; value_is = refl }

pub row_step : (kind : Kind) (a v b : List ℕ) (p : List ℕ × List ℕ) → BeginsRun kind a v b → unit_at kind b ≡ Some p
    → BeginsRun kind a (v ++ p.0) p.1
row_step kind a v b p row h =
    let begun = unit_sound kind b p h in
    let us = row.units in
    let u = begun.unit in
    record {
      units = us ++ (u ∷ []);
      each = each_more kind us u row.each begun.allowed;
      ends = ends_more us u p.1 (subst (RunEnds us) begun.text_is row.ends) begun.ends;
      text_is = row.text_is ∙ ap (λ z. texts us ++ z) begun.text_is ∙ sym (texts_more us u p.1);
      value_is = ap (λ z. z ++ p.0) row.value_is ∙ ap (λ z. values kind us ++ z) begun.value_is
          ∙ sym (values_more kind us u);
    }

-- ---- a sequence of plain characters

held_nil : (kind : Kind) → content_of kind [] ≡ []
held_nil kind = go (decodes_to_chars kind)
  where
    go : (b : Bool) → cond b [] (encode_utf8_all []) ≡ []
    go true = refl
    go false = refl

held_more : (kind : Kind) (c : ℕ) (cs : List ℕ) → content_of kind (c ∷ []) ++ content_of kind cs
    ≡ content_of kind (c ∷ cs)
held_more kind c cs = go (decodes_to_chars kind)
  where
    go : (b : Bool) → cond b (c ∷ []) (encode_utf8_all (c ∷ [])) ++ cond b cs (encode_utf8_all cs)
        ≡ cond b (c ∷ cs) (encode_utf8_all (c ∷ cs))
    go true = refl
    go false = ap (λ z. z ++ encode_utf8_all cs) (append-nil (encode_utf8 c))

-- If plain characters follow a sequence of characters and escapes, they are part of the sequence, and their values are appended
-- to its value.
pub row_run : (kind : Kind) (a v run b : List ℕ) → list_all (is_plain kind) run ≡ true → BeginsRun kind a v (run ++ b)
    → BeginsRun kind a (v ++ content_of kind run) b
row_run kind a v [] b plain row = subst (λ w. BeginsRun kind a w b)
    (sym (ap (λ z. v ++ z) (held_nil kind) ∙ append-nil v)) row
row_run kind a v (c ∷ run) b plain row =
    let parts = and_parts (is_plain kind c) (list_all (is_plain kind) run) plain in
    let one = row_step kind a v (c ∷ (run ++ b)) (content_of kind (c ∷ []), run ++ b) row
    (unit_complete kind (Plain c) (run ++ b) parts.0 tt) in
    let value = append_assoc v (content_of kind (c ∷ [])) (content_of kind run)
    ∙ ap (λ z. v ++ z) (held_more kind c run) in
    subst (λ w. BeginsRun kind a w b) value (row_run kind a (v ++ content_of kind (c ∷ [])) run b parts.1 one)

-- If plain characters precede a sequence of characters and escapes, all of them together are a sequence of characters and
-- escapes.
pub row_after : (kind : Kind) (run b v r : List ℕ) → list_all (is_plain kind) run ≡ true → BeginsRun kind b v r
    → (w : List ℕ) × BeginsRun kind (run ++ b) w r
row_after kind [] b v r plain row = (v, row)
row_after kind (c ∷ run) b v r plain row =
    let parts = and_parts (is_plain kind c) (list_all (is_plain kind) run) plain in
    let (w, more) = row_after kind run b v r parts.1 row in (
      content_of kind (c ∷ []) ++ w,
      record {
        units = Plain c ∷ more.units;
        each = (parts.0, more.each);
        ends = (tt, more.ends);
        text_is = ap (λ z. c ∷ z) more.text_is;
        value_is = ap (λ z. content_of kind (c ∷ []) ++ z) more.value_is;
      },
    )

-- ---- a sequence that is as long as possible is unique

-- `unit_at` returns the first character or escape of a sequence of characters and escapes, with the text after it.
first_unit : (kind : Kind) (u : QuotedUnit) (us : List QuotedUnit) (r : List ℕ) → AllByRecursion (IsUnit kind) (u ∷ us)
    → RunEnds (u ∷ us) r → unit_at kind (texts (u ∷ us) ++ r) ≡ found (unit_value kind u) (texts us ++ r)
first_unit kind u us r each ends =
    ap (unit_at kind) (append_assoc (unit_text u) (texts us) r) ∙ unit_complete kind u (texts us ++ r) each.0 ends.0

rows_same : (kind : Kind) (us ws : List QuotedUnit) (r s : List ℕ) → AllByRecursion (IsUnit kind) us → RunEnds us r
    → AllByRecursion (IsUnit kind) ws → RunEnds ws s → unit_at kind r ≡ None → unit_at kind s ≡ None → texts us ++ r
    ≡ texts ws ++ s → (values kind us ≡ values kind ws) × (r ≡ s)
rows_same kind [] [] r s eu cu ew cw hr hs e = (refl, e)
rows_same kind [] (w ∷ ws) r s eu cu ew cw hr hs e =
    let h : None ≡ found (unit_value kind w) (texts ws ++ s) = sym hr ∙ ap (unit_at kind) e
    ∙ first_unit kind w ws s ew cw in absurd (cc)
rows_same kind (u ∷ us) [] r s eu cu ew cw hr hs e =
    let h : None ≡ found (unit_value kind u) (texts us ++ r) = sym hs ∙ ap (unit_at kind) (sym e)
    ∙ first_unit kind u us r eu cu in absurd (cc)
rows_same kind (u ∷ us) (w ∷ ws) r s eu cu ew cw hr hs e =
    let f = some_pair (unit_value kind u, texts us ++ r) (unit_value kind w, texts ws ++ s)
    (sym (first_unit kind u us r eu cu) ∙ ap (unit_at kind) e ∙ first_unit kind w ws s ew cw) in
    let more = rows_same kind us ws r s eu.1 cu.1 ew.1 cw.1 hr hs f.1 in
    (ap (λ z. z ++ values kind us) f.0 ∙ ap (λ z. unit_value kind w ++ z) more.0, more.1)

pub row_once : (kind : Kind) (a v b w d : List ℕ) → BeginsRun kind a v b → BeginsRun kind a w d → unit_at kind b ≡ None
    → unit_at kind d ≡ None → (v ≡ w) × (b ≡ d)
row_once kind a v b w d p q hb hd =
    let same = rows_same kind p.units q.units b d p.each p.ends q.each q.ends hb hd (sym p.text_is ∙ q.text_is) in
    (p.value_is ∙ same.0 ∙ sym q.value_is, same.1)
