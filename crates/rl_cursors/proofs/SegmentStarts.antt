-- The segments of a whole literal. A segment is a sequence of plain characters, or one other character or escape.
use Rattle.rl_syntax.proofs.Common.{◌≡◌, ◌⊎◌, inl, inr, ℕ, ◌+◌, ◌≤◌, Bool, true, false, List, [], ◌∷◌, ◌++◌, length, refl, sym, ap, subst, ◌∙◌, arith, append-nil, both_ways, list_all, IsUtf8}
use Rattle.rl_lenient.proofs.Names.{Kind, Str, ByteStr, CStr, Byte, Char, QuotedUnit, Plain, CrLf, Named, Hex, Unicode, Continuation, is_plain, is_single, is_string, opener, texts, unit_text, unit_value, values, Reads, Contents, ReadsQuoted}
use Rattle.std.proofs.Common.{◌-◌, map}
use Rattle.std.specs.Str.{chars}
use Rattle.rl_syntax.proofs.OneReading.{one_reading}
use Rattle.rl_lenient.specs.declared.found.Body.{Body}
use Rattle.rl_lenient.specs.declared.quoted_forms.QuotedForm.{QuotedForm}
use Rattle.rl_lenient.specs.declared.quoted_forms.QuotedForm.TheVariants.{Cooked as CookedForm, Raw as RawForm, Single as SingleForm}
use Rattle.rl_lenient.specs.Forms.{PartsAre, front_len, is_plain_body}
use Rattle.rl_lenient.specs.Founds.{IsQuotedAt, IsBodyWithin, body_in, suffix_in, is_quoted}
use Rattle.rl_lenient.specs.Mirrors.UnitAt.{found, unit_at}
use Rattle.rl_cursors.specs.Segments.{AreUnitsIn, AreUnitsOf, IsGivenAt, IsLeftAt, IsUnitRun, IsSegmentsOf, IsSegmentsState, SegmentsState, unit_place}
use Rattle.rl_lenient.specs.Shapes.{HasNoQuoted}
use Rattle.rl_lenient.proofs.FoundLemmas.{body_long, body_text}
use Rattle.rl_lenient.proofs.RowLemmas.{ends_before}
use Rattle.rl_cursors.proofs.SegmentLemmas.{StateOf, run_joined}
use Rattle.rl_lenient.proofs.UnitLemmas.{some_pair, unit_complete}

-- ---- the characters and escapes of each form

nothing_row : (kind : Kind) → IsUnitRun kind [] []
nothing_row kind = record { each = tt; ends = tt; text_is = refl }

-- Plain characters are a sequence of characters and escapes.
pub plain_row : (kind : Kind) (cs : List ℕ) → list_all (is_plain kind) cs ≡ true → IsUnitRun kind cs (map Plain cs)
plain_row kind cs plain = subst (IsUnitRun kind cs) (append-nil (map Plain cs))
    (subst (λ z. IsUnitRun kind z (map Plain cs ++ [])) (append-nil cs)
    (run_joined kind cs [] [] plain (nothing_row kind)))

-- If a sequence of characters and escapes has the body of a string literal as its text, it is the sequence of the literal's
-- characters and escapes.
cooked_units : (kind : Kind) (t v body x : List ℕ) (units : List QuotedUnit) (lo : ℕ)
    → PartsAre CookedForm kind t v body x → IsUnitRun kind body units → lo ≡ length (opener kind)
    → AreUnitsOf kind t units lo
cooked_units kind t v body x units lo p row at =
    inl (
      values kind units,
      x,
      record {
        units = units;
        string = p.0.string;
        each = row.each;
        ends = row.ends;
        text_is = p.0.text_is ∙ ap (λ z. opener kind ++ (z ++ (34 ∷ x))) (sym p.1 ∙ row.text_is);
        value_is = refl;
      },
      refl,
      at,
    )

pub no_text : (u : QuotedUnit) → unit_text u ≡ [] → ⊥
no_text (Plain c) e = absurd (cc)
no_text CrLf e = absurd (cc)
no_text (Named l) e = absurd (cc)
no_text (Hex high low) e = absurd (cc)
no_text (Unicode first more) e = absurd (cc)
no_text (Continuation c run) e = absurd (cc)

append_nothing : (a b : List ℕ) → a ++ b ≡ [] → a ≡ []
append_nothing [] b e = refl
append_nothing (c ∷ a) b e = absurd (cc)

-- If a sequence of characters and escapes has the body of a character or byte literal as its text, it has one element: the
-- literal's character or escape.
single_units : (kind : Kind) (t v body x : List ℕ) (units : List QuotedUnit) (lo : ℕ)
    → PartsAre SingleForm kind t v body x → IsUnitRun kind body units → lo ≡ length (opener kind)
    → AreUnitsOf kind t units lo
single_units kind t v body x units lo p row at =
    let s = p.0 in
    let one : unit_at kind body ≡ found (unit_value kind s.unit) [] = ap (unit_at kind)
    (p.1 ∙ sym (append-nil (unit_text s.unit))) ∙ unit_complete kind s.unit [] s.is_unit
    (ends_before s.unit [] refl) in
    go units row one
  where
    go : (units : List QuotedUnit) → IsUnitRun kind body units → unit_at kind body ≡ found (unit_value kind p.0.unit) []
        → AreUnitsOf kind t units lo
    go [] row one = absurd (no_text p.0.unit (sym p.1 ∙ row.text_is))
    go (u ∷ []) row one = inr (inr (
      unit_value kind u,
      x,
      record {
        unit = u;
        single = p.0.single;
        is_unit = row.each.0;
        text_is = p.0.text_is ∙ ap (λ z. opener kind ++ (z ++ (39 ∷ x)))
            (sym p.1 ∙ row.text_is ∙ append-nil (unit_text u));
        value_is = refl;
      },
      refl,
      at,
    ))
    go (u ∷ w ∷ us) row one =
        let first : unit_at kind body ≡ found (unit_value kind u) (texts (w ∷ us)) = ap (unit_at kind) row.text_is
        ∙ unit_complete kind u (texts (w ∷ us)) row.each.0 row.ends.0 in
        let same = some_pair (unit_value kind u, texts (w ∷ us)) (unit_value kind p.0.unit, []) (sym first ∙ one) in
        absurd (no_text w (append_nothing (unit_text w) (texts us) same.1))

-- ---- a cursor before the first segment

has_units : (form : QuotedForm) (kind : Kind) (t v body x : List ℕ) (plain : Bool) → PartsAre form kind t v body x
    → plain ≡ is_plain_body form kind body → (units : List QuotedUnit) × AreUnitsIn kind plain body units
has_units form kind t v body x true p is = (map Plain body, refl)
has_units RawForm kind t v body x false p is = absurd (cc)
has_units CookedForm kind t v body x false p is = (
  p.0.units,
  record
      { each = p.0.each; ends = p.0.ends; text_is = p.1 },
)
has_units SingleForm kind t v body x false p is = (
  p.0.unit ∷ [],
  record
      { each = (p.0.is_unit, tt); ends = (ends_before p.0.unit [] refl, tt); text_is = p.1 ∙ sym (append-nil (unit_text p.0.unit)) },
)

are_units : (form : QuotedForm) (kind : Kind) (t v body x : List ℕ) (plain : Bool) (lo : ℕ)
    (p : PartsAre form kind t v body x) → plain ≡ is_plain_body form kind body → lo ≡ front_len form kind t v body x p
    → (units : List QuotedUnit) → AreUnitsIn kind plain body units → AreUnitsOf kind t units lo
are_units CookedForm kind t v body x true lo p is at units are =
    cooked_units kind t v body x units lo p (subst (IsUnitRun kind body) (sym are) (plain_row kind body (sym is))) at
are_units CookedForm kind t v body x false lo p is at units are = cooked_units kind t v body x units lo p are at
are_units RawForm kind t v body x true lo p is at units are = inr (inl (v, x, p.0, are ∙ ap (map Plain) p.1, at))
are_units RawForm kind t v body x false lo p is at units are = absurd (cc)
are_units SingleForm kind t v body x true lo p is at units are = absurd (cc)
are_units SingleForm kind t v body x false lo p is at units are = single_units kind t v body x units lo p are at

-- The body of a literal ends within the literal's text.
pub ends_in_text : (t rest : List ℕ) (body : Body) → rest ≡ body_in t body → IsBodyWithin t body
    → (body.hi - length rest) + length rest ≤ length t
ends_in_text t rest body is s = omega (arith, ap length is, body_long t body s, s.ends.0)

pub starts : (kind : Kind) (t rest : List ℕ) (body : Body) → IsUtf8 t → rest ≡ body_in t body → IsQuotedAt kind t body
    → IsSegmentsState kind body.plain body.hi rest
starts kind t rest body u is q = subst (IsSegmentsState kind body.plain body.hi) (sym is) (record {
  room = omega (arith, body_long t body q.stands);
  is_text = body_text t body u q.stands;
  has = has_units q.form kind (chars t) q.value (chars (body_in t body)) (chars (suffix_in t body)) body.plain q.parts
      q.plain_is;
})

pub segments_of : (kind : Kind) (t rest : List ℕ) (body : Body) → IsUtf8 t → rest ≡ body_in t body
    → IsQuotedAt kind t body → IsSegmentsOf kind (chars t) (StateOf kind body.plain body.hi rest)
segments_of kind t rest body u is q = subst (λ z. IsSegmentsOf kind (chars t) (StateOf kind body.plain body.hi z))
    (sym is) (record {
      kind_is = refl;
      has = has_units q.form kind (chars t) q.value (chars (body_in t body)) (chars (suffix_in t body)) body.plain
          q.parts
          q.plain_is;
      units_are = λ units are.
          let lo : body.hi - length (body_in t body) ≡ body.lo = omega (arith, body_long t body q.stands) in
          are_units q.form kind (chars t) q.value (chars (body_in t body)) (chars (suffix_in t body)) body.plain
          (body.hi - length (body_in t body)) q.parts q.plain_is (lo ∙ q.lo_is) units are;
    })

-- ---- offsets in the whole literal

pub given_in_whole : (inside : QuotedUnit → ℕ → ℕ) (kind : Kind) (t : List ℕ) (s : SegmentsState) (at place : ℕ)
    → IsSegmentsOf kind t s → IsLeftAt inside s at place → IsGivenAt inside kind t at place
given_in_whole inside kind t s at place whole left = record {
  units = left.units;
  lo = s.at;
  units_are = whole.units_are left.units left.are_left;
  place_is = left.place_is ∙ ap (λ (k : Kind). s.at + unit_place inside k left.units at) whole.kind_is;
}

-- ---- literals that aren't quoted

pub quoted_reads_as : (kind : Kind) (t : List ℕ) (v : Contents) (x : List ℕ) → ReadsQuoted t kind v x → is_quoted kind
    ≡ true → Reads t kind v x
quoted_reads_as Str t v x r q = r
quoted_reads_as ByteStr t v x r q = r
quoted_reads_as CStr t v x r q = r
quoted_reads_as Byte t v x r q = r
quoted_reads_as Char t v x r q = r
quoted_reads_as kind t v x r q = absurd (cc)

has_quotes : (kind : Kind) → (is_string kind ≡ true) ⊎ (is_single kind ≡ true) → is_quoted kind ≡ true
has_quotes kind (inl e) = cc
has_quotes kind (inr e) = go kind e
  where
    go : (k : Kind) → is_single k ≡ true → is_quoted k ≡ true
    go Str e = absurd (cc)
    go ByteStr e = absurd (cc)
    go CStr e = absurd (cc)
    go Byte e = refl
    go Char e = refl
    go kind e = absurd (cc)

pub quoted_kind : (kind : Kind) (t : List ℕ) (v : Contents) (x : List ℕ) → ReadsQuoted t kind v x → is_quoted kind
    ≡ true
quoted_kind kind t v x r = elim r.form [
  | inl c ↦ has_quotes kind (inl c.string)
  | inr o ↦ elim o [ inl w ↦ has_quotes kind (inl w.string) | inr s ↦ has_quotes kind (inr s.single) ]
]

-- A text that is a literal of an unquoted kind isn't a quoted literal.
pub no_quoted : (t : List ℕ) (kind : Kind) → ((v : Contents) × (x : List ℕ) × Reads t kind v x) → is_quoted kind ≡ false
    → HasNoQuoted t
no_quoted t kind reads other k v x r =
    let q = quoted_kind k t v x r in
    let same = (one_reading t kind k reads.0 v reads.1 x reads.2 (quoted_reads_as k t v x r q)).0 in
    both_ways (is_quoted kind) other (ap is_quoted same ∙ q)

pub none_quoted : (t : List ℕ) → ((kind : Kind) (v : Contents) (x : List ℕ) → Reads t kind v x → ⊥) → HasNoQuoted t
none_quoted t none k v x r = none k v x (quoted_reads_as k t v x r (quoted_kind k t v x r))
