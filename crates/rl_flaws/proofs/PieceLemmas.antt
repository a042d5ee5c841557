-- The valid content of a quoted literal, and its segments.
use Rattle.rl_flaws.proofs.Names.{◌≡◌, ◌≤◌, ◌+◌, ◌-◌, ℕ, Bool, Bor, true, false, List, [], ◌∷◌, ◌++◌, map, length, length-append, refl, sym, ap, subst, ◌∙◌, inl, inr, arith, and_from, append_cancel_right, append-nil, encodes-chars, flat_map, list_all, IsUtf8, IsUtf8-nil, chars-nil, chars, byte_len, is_dropped_blank, Kind, Plain, StrictUnit, Itself, QuoteEscape, PlainEscape, AsciiEscape, ByteEscape, UnicodeEscape, LineBreak, strict_text, is_strict_unit, BlanksEnd, BreaksEnd, QuotedForm, CookedForm, RawForm, SingleForm, is_raw_form, IsInsideUpTo, LineEnds, Text, File, IsRestOf, lf_text, read_of, IsLeft, IsSameLiteral, StaysOpen, IsOpened, opened_front, ArePiecesLeft, IsGoodLeft, IsOpenAs, Left, Inside, Closed, Nothing, Opened, passes_front}
use Rattle.rl_flaws.proofs.FilePieces.{HasUnitsIn, file_units, no_text, no_units}
use Rattle.rl_syntax.proofs.StrictQuoted.{stand_row}
use Rattle.rl_cursors.specs.Segments.{IsSegmentsState}
use Rattle.rl_strict.specs.LineEnds.{is_seam_of}
use Rattle.rl_strict.proofs.FileTextLemmas.{seam_text}
use Rattle.rl_strict.proofs.StrictUnitRows.{breaks_to}

-- ---- an escaped line end skips no white space beyond the valid content

blanks_end : (us : List StrictUnit) (rest : List ℕ) → BreaksEnd us rest → BlanksEnd us
blanks_end [] rest b = tt
blanks_end (LineBreak blanks ∷ us) rest b =
    (passes_front is_dropped_blank (flat_map strict_text us) rest b.0, blanks_end us rest b.1)
blanks_end (Itself c ∷ us) rest b = blanks_end us rest b.1
blanks_end (QuoteEscape c ∷ us) rest b = blanks_end us rest b.1
blanks_end (PlainEscape c ∷ us) rest b = blanks_end us rest b.1
blanks_end (AsciiEscape high low ∷ us) rest b = blanks_end us rest b.1
blanks_end (ByteEscape high low ∷ us) rest b = blanks_end us rest b.1
blanks_end (UnicodeEscape digits ∷ us) rest b = blanks_end us rest b.1

-- ---- the valid content consists of characters and escapes

content_units : (how : LineEnds) (kind : Kind) (us : List StrictUnit) (good rest : List ℕ)
    → list_all (is_strict_unit kind) us ≡ true → BreaksEnd us rest → read_of how good ≡ flat_map strict_text us
    → HasUnitsIn kind false good
content_units Text kind us good rest each ends e =
    let run = stand_row kind us each (blanks_end us rest ends) in
    (run.units, record { each = run.each; ends = run.ends; text_is = e ∙ sym run.text_is })
content_units File kind us good rest each ends e =
    file_units kind us good each (breaks_to us rest [] (λ h. refl) ends) (e ∙ sym (append-nil (flat_map strict_text us)))

good_read : (how : LineEnds) (t good closing front : List ℕ) → t ≡ good ++ closing → front ≡ read_of how good → is_seam_of how good closing ≡ true
    → read_of how t ≡ front ++ read_of how closing
good_read Text t good closing front e same seam = e ∙ ap (λ z. z ++ closing) (sym same)
good_read File t good closing front e same seam = ap lf_text e ∙ seam_text good closing seam
    ∙ ap (λ z. z ++ lf_text closing) (sym same)

no_content : (how : LineEnds) (good : List ℕ) → read_of how good ≡ [] → good ≡ []
no_content Text good e = e
no_content File good e = no_text good e

pub good_units : (how : LineEnds) (form : QuotedForm) (kind : Kind) (hashes t good closing : List ℕ)
    → IsInsideUpTo form kind hashes (read_of how t) (read_of how closing) → t ≡ good ++ closing
    → is_seam_of how good closing ≡ true → HasUnitsIn kind (is_raw_form form) good
good_units how form kind hashes t good closing up_to e seam = go form up_to
  where
    cut : read_of how good ++ read_of how closing ≡ read_of how t
    cut = sym (good_read how t good closing (read_of how good) e refl seam)

    content : (text : List ℕ) → read_of how t ≡ text ++ read_of how closing → read_of how good ≡ text
    content text is = append_cancel_right (read_of how good) text (read_of how closing) (cut ∙ is)

    go : (form : QuotedForm) → IsInsideUpTo form kind hashes (read_of how t) (read_of how closing)
        → HasUnitsIn kind (is_raw_form form) good
    go CookedForm (r, none) = content_units how kind r.units good (read_of how closing) r.each r.ends
        (content (flat_map strict_text r.units) r.text_is)
    go RawForm s = (map Plain good, refl)
    go SingleForm (inl (u, q)) = content_units how kind (u.unit ∷ []) good (read_of how closing)
        (and_from (is_strict_unit kind u.unit) true u.is_unit refl) (u.ends, tt)
        (content (strict_text u.unit) u.text_is ∙ sym (append-nil (strict_text u.unit)))
    go SingleForm (inr (same, none)) =
        subst (HasUnitsIn kind false) (sym (no_content how good (content [] (sym same)))) (no_units kind false)

-- ---- the valid content before a flaw

pub good_left : (how : LineEnds) (o : Opened) (rest : Bor (List ℕ)) (len end : ℕ) (good closing : List ℕ) → IsOpened o
    → byte_len (opened_front o) + length rest.now ≤ len → IsUtf8 good → IsUtf8 closing → rest.now ≡ good ++ closing
    → chars rest.now ≡ chars good ++ chars closing → IsInsideUpTo o.form o.kind (chars o.hashes.now)
    (read_of how (chars rest.now)) (read_of how (chars closing)) → IsRestOf how (chars rest.now) (chars closing)
    → end ≡ len - length closing → IsGoodLeft how len (Inside o rest) good end
good_left how o rest len end good closing opens room ug uc bytes text up_to rest_in is =
    let long : length rest.now ≡ length good + length closing = ap length bytes ∙ length-append good closing in
    let front : rest_in.front ≡ chars good =
    append_cancel_right rest_in.front (chars good) (chars closing) (sym rest_in.text_is ∙ text) in
    let seam = subst (λ z. is_seam_of how z (chars closing) ≡ true) front rest_in.seam in
    let units = good_units how o.form o.kind (chars o.hashes.now) (chars rest.now) (chars good) (chars closing) up_to text seam
    in (
      record {
        form = o.form;
        hashes = chars o.hashes.now;
        opens = opens;
        front_is = refl;
        closing = chars closing;
        text_is = text;
        up_to = up_to;
        seam = seam;
        place = omega (arith, room, long, is, ap length (encodes-chars closing uc));
        kind_is = refl;
        plain_is = refl;
        units = units;
      },
      record { room = omega (arith, room, long, is); is_text = ug; has = units },
    )

pub nothing_good : (kind : Kind) (plain : Bool) (end : ℕ) (good : List ℕ) → good ≡ []
    → IsSegmentsState kind plain end good
nothing_good kind plain end good e = subst (IsSegmentsState kind plain end) (sym e)
    (record { room = omega arith; is_text = IsUtf8-nil; has = subst (HasUnitsIn kind plain) (sym chars-nil) (no_units kind plain) })

-- ---- the next piece of the cursor

of_kind : (kind : Kind) (plain : Bool) (o : Opened) (new : Left) → o.kind ≡ kind → is_raw_form o.form ≡ plain
    → StaysOpen o new → IsOpenAs kind plain new
of_kind kind plain o (Inside p q) k f same =
    (ap (λ (z : Opened). z.kind) same ∙ k, ap (λ (z : Opened). is_raw_form z.form) same ∙ f)
of_kind kind plain o (Closed q t) k f same = tt
of_kind kind plain o Nothing k f same = tt

pub pieces_left : (how : LineEnds) (kind : Kind) (plain : Bool) (len end : ℕ) (good : List ℕ) (left new : Left)
    → IsOpenAs kind plain left
    → IsSameLiteral left new → IsGoodLeft how len left good end → IsLeft len new → ArePiecesLeft kind plain end good len new
pieces_left how kind plain len end good (Inside o r) new same literal fine l = record {
  segments = subst (λ k. IsSegmentsState k plain end good) same.0
      (subst (λ b. IsSegmentsState o.kind b end good) same.1 fine.1);
  is_left = l;
  same = of_kind kind plain o new same.0 same.1 literal;
}
pieces_left how kind plain len end good (Closed k t) new same literal fine l = record {
  segments = nothing_good kind plain end good fine;
  is_left = l;
  same = subst (IsOpenAs kind plain) (sym literal) tt;
}
pieces_left how kind plain len end good Nothing new same literal fine l = record {
  segments = nothing_good kind plain end good fine;
  is_left = l;
  same = subst (IsOpenAs kind plain) (sym literal) tt;
}
