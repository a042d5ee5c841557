-- The start of a text decides the form and the kind of a quoted literal, and a quoted literal has only one parse result.
use Rattle.rl_syntax.proofs.Common.{◌≡◌, ◌≢◌, ℕ, true, false, eqb, List, [], ◌∷◌, ◌++◌, length, Some, None, refl, sym, ap, subst, ◌∙◌, inl, inr, append_assoc, append-nil, list_all, both_ways, cases_Bool, eqb-true, append_cancel_right}
use Rattle.rl_lenient.proofs.Names.{append_cancel_left, Kind, Str, ByteStr, CStr, Byte, Char, Int, Float, BoolKind, Cooked, Single, is_string, is_single, is_plain, opener, raw_opener, texts, unit_text, Contents, ReadsQuoted, quoted_contents}
use Rattle.rl_lenient.specs.declared.quoted_forms.QuotedForm.{QuotedForm}
use Rattle.rl_lenient.specs.declared.quoted_forms.QuotedForm.TheVariants.{Cooked as CookedForm, Raw as RawForm, Single as SingleForm}
use Rattle.rl_lenient.specs.Mirrors.UnitAt.{found, unit_at}
use Rattle.rl_lenient.specs.UnitRuns.{BeginsRun, RunEnds}
use Rattle.rl_lenient.specs.Forms.{has_form, form_opener, front_len, PartsAre, HasNoParts, is_plain_body}
use Rattle.rl_lenient.specs.Mirrors.OpenerAt.{found_opener, string_opener_at, byte_opener_at, opener_at}
use Rattle.rl_lenient.specs.Shapes.{HasNoQuoted}
use Rattle.rl_lenient.proofs.UnitLemmas.{some_pair, unit_sound, unit_complete, unit_quote}
use Rattle.rl_lenient.proofs.RowLemmas.{ends_before, row_after, row_ends_on, row_ends_off, row_once}
use Rattle.rl_lenient.proofs.RawLemmas.{raw_once}

-- ---- the start of a quoted literal

-- The text begins with the opening delimiter of a form and a kind that can occur together, for example a raw byte string.
pub record Reports (t : List ℕ) (p : QuotedForm × Kind × List ℕ) : Type 0 where
  pub has : has_form p.0 p.1 ≡ true
  pub text_is : t ≡ form_opener p.0 p.1 ++ p.2

string_tells : (kind : Kind) (pre t : List ℕ) (p : QuotedForm × Kind × List ℕ) → is_string kind ≡ true → opener kind
    ≡ pre ++ (34 ∷ []) → raw_opener kind ≡ pre ++ (114 ∷ []) → string_opener_at kind t ≡ Some p → Reports (pre ++ t) p
string_tells kind pre [] p s o r h = absurd (cc)
string_tells kind pre (c ∷ cs) p s o r h =
    let following : (q : ℕ) → eqb c q ≡ true → pre ++ (c ∷ cs) ≡ (pre ++ (q ∷ []))
    ++ cs = λ q e. ap (λ z. pre ++ (z ∷ cs)) (eqb-true c q e) ∙ sym (append_assoc pre (q ∷ []) cs) in
    elim (cases_Bool (eqb c 34)) [
      | inl a ↦
          let same : (CookedForm, kind, cs) ≡ p = let e = rw a at h in cc in
          subst (Reports (pre ++ (c ∷ cs))) same (record { has = s; text_is = following 34 a ∙ ap (λ z. z ++ cs) (sym o) })
      | inr a ↦
          let h1 = rw a at h in
          elim (cases_Bool (eqb c 114)) [
            | inl b ↦
                let same : (RawForm, kind, cs) ≡ p = let e = rw b at h1 in cc in
                subst (Reports (pre ++ (c ∷ cs))) same (record { has = s; text_is = following 114 b ∙ ap (λ z. z ++ cs) (sym r) })
            | inr b ↦ let h2 = rw b at h1 in absurd (cc)
          ]
    ]

byte_tells : (t : List ℕ) (p : QuotedForm × Kind × List ℕ) → byte_opener_at t ≡ Some p → Reports (98 ∷ t) p
byte_tells [] p h = absurd (cc)
byte_tells (c ∷ cs) p h =
    elim (cases_Bool (eqb c 39)) [
      | inl a ↦
          let same : (SingleForm, Byte, cs) ≡ p = let e = rw a at h in cc in
          subst (Reports (98 ∷ c ∷ cs)) same (record { has = refl; text_is = ap (λ z. 98 ∷ z ∷ cs) (eqb-true c 39 a) })
      | inr a ↦ string_tells ByteStr (98 ∷ []) (c ∷ cs) p refl refl refl (rw a at h)
    ]

pub front_sound : (t : List ℕ) (p : QuotedForm × Kind × List ℕ) → opener_at t ≡ Some p → Reports t p
unfolding opener_at
front_sound [] p h = absurd (cc)
front_sound (c ∷ cs) p h =
    elim (cases_Bool (eqb c 39)) [
      | inl a ↦
          let same : (SingleForm, Char, cs) ≡ p = let e = rw a at h in cc in
          subst (Reports (c ∷ cs)) same (record { has = refl; text_is = ap (λ z. z ∷ cs) (eqb-true c 39 a) })
      | inr a ↦
          let h1 = rw a at h in
          elim (cases_Bool (eqb c 98)) [
            | inl b ↦ subst (λ z. Reports (z ∷ cs) p) (sym (eqb-true c 98 b)) (byte_tells cs p (rw b at h1))
            | inr b ↦
                let h2 = rw b at h1 in
                elim (cases_Bool (eqb c 99)) [
                  | inl d ↦ subst (λ z. Reports (z ∷ cs) p) (sym (eqb-true c 99 d))
                      (string_tells CStr (99 ∷ []) cs p refl refl refl (rw d at h2))
                  | inr d ↦ string_tells Str [] (c ∷ cs) p refl refl refl (rw d at h2)
                ]
          ]
    ]

pub front_complete : (form : QuotedForm) (kind : Kind) (r : List ℕ) → has_form form kind ≡ true
    → opener_at (form_opener form kind ++ r) ≡ found_opener form kind r
unfolding opener_at
front_complete CookedForm Str r h = refl
front_complete CookedForm ByteStr r h = refl
front_complete CookedForm CStr r h = refl
front_complete RawForm Str r h = refl
front_complete RawForm ByteStr r h = refl
front_complete RawForm CStr r h = refl
front_complete SingleForm Byte r h = refl
front_complete SingleForm Char r h = refl
front_complete CookedForm kind r h = absurd (cc)
front_complete RawForm kind r h = absurd (cc)
front_complete SingleForm kind r h = absurd (cc)

-- ---- cooked strings

-- The text after a string's opening quote begins with the string's characters and escapes, and the closing quote follows
-- them.
pub cooked_row : (kind : Kind) (t v x : List ℕ) (c : Cooked kind t v x)
    → BeginsRun kind (texts c.units ++ (34 ∷ x)) v (34 ∷ x)
cooked_row kind t v x c = record { units = c.units; each = c.each; ends = row_ends_on c.units (34 ∷ x) refl c.ends; text_is = refl; value_is = c.value_is }

cooked_row_of : (kind : Kind) (a v x : List ℕ) → Cooked kind (opener kind ++ a) v x → BeginsRun kind a v (34 ∷ x)
cooked_row_of kind a v x c =
    let same : a ≡ texts c.units ++ (34 ∷ x) = append_cancel_left (opener kind) a (texts c.units ++ (34 ∷ x)) c.text_is
    in
    subst (λ z. BeginsRun kind z v (34 ∷ x)) (sym same) (cooked_row kind (opener kind ++ a) v x c)

cooked_once : (kind : Kind) (a v x w y : List ℕ) → Cooked kind (opener kind ++ a) v x
    → Cooked kind (opener kind ++ a) w y → (v ≡ w) × (x ≡ y)
cooked_once kind a v x w y c d =
    let same = row_once kind a v (34 ∷ x) w (34 ∷ y) (cooked_row_of kind a v x c) (cooked_row_of kind a w y d)
    (unit_quote kind x c.string) (unit_quote kind y c.string) in
    (same.0, let e = same.1 in cc)

-- If a sequence of characters and escapes follows plain characters, all of them together are a sequence of characters and
-- escapes.
pub cooked_units : (kind : Kind) (a run following v rest : List ℕ) → a ≡ run ++ following → list_all (is_plain kind) run
    ≡ true → BeginsRun kind following v rest → (w : List ℕ) × BeginsRun kind a w rest
cooked_units kind a run following v rest cut plain row =
    let (w, whole) = row_after kind run following v rest plain row in
    (w, subst (λ t. BeginsRun kind t w rest) (sym cut) whole)

-- If a closing quote follows the characters and escapes of a string, these are the string's body, and the text after the quote is
-- its suffix.
pub cooked_found : (kind : Kind) (a v rest b x : List ℕ) → is_string kind ≡ true → BeginsRun kind a v rest → a ≡ b
    ++ rest → rest ≡ 34 ∷ x → PartsAre CookedForm kind (opener kind ++ a) v b x
cooked_found kind a v rest b x s row cut quote =
    let us = row.units in (
      record {
        units = us;
        string = s;
        each = row.each;
        ends = row_ends_off us (34 ∷ x) refl (subst (RunEnds us) quote row.ends);
        text_is = ap (λ z. opener kind ++ z) (row.text_is ∙ ap (λ z. texts us ++ z) quote);
        value_is = row.value_is;
      },
      append_cancel_right b (texts us) rest (sym cut ∙ row.text_is),
    )

pub cooked_none : (kind : Kind) (a v rest : List ℕ) → BeginsRun kind a v rest → unit_at kind rest ≡ None
    → ((x : List ℕ) → rest ≢ 34 ∷ x) → HasNoParts CookedForm kind (opener kind ++ a)
cooked_none kind a v rest row stuck h w b x p = h x (row_once kind a v rest w (34 ∷ x) row
    (cooked_row_of kind a w x p.0) stuck (unit_quote kind x p.0.string)).1

-- ---- the body of a character or byte literal

single_at : (kind : Kind) (a v x : List ℕ) → Single kind (opener kind ++ a) v x → unit_at kind a ≡ Some (v, 39 ∷ x)
single_at kind a v x s =
    let same : a ≡ unit_text s.unit ++ (39 ∷ x) = append_cancel_left (opener kind) a (unit_text s.unit ++ (39 ∷ x))
    s.text_is in
    ap (unit_at kind) same ∙ unit_complete kind s.unit (39 ∷ x) s.is_unit (ends_before s.unit (39 ∷ x) refl)
    ∙ ap (λ z. Some (z, 39 ∷ x)) (sym s.value_is)

single_once : (kind : Kind) (a v x w y : List ℕ) → Single kind (opener kind ++ a) v x
    → Single kind (opener kind ++ a) w y → (v ≡ w) × (x ≡ y)
single_once kind a v x w y s q =
    let same = some_pair (v, 39 ∷ x) (w, 39 ∷ y) (sym (single_at kind a v x s) ∙ single_at kind a w y q) in
    (same.0, let e : 39 ∷ x ≡ 39 ∷ y = same.1 in cc)

-- If a closing quote follows the character or escape of a character or byte literal, the character or escape is the
-- literal's body, and the text after the quote is its suffix.
pub single_found : (kind : Kind) (a : List ℕ) (q : List ℕ × List ℕ) (b x : List ℕ) → is_single kind ≡ true
    → unit_at kind a ≡ Some q → a ≡ b ++ q.1 → q.1 ≡ 39 ∷ x → PartsAre SingleForm kind (opener kind ++ a) q.0 b x
single_found kind a q b x s h cut quote =
    let begun = unit_sound kind a q h in
    let u = begun.unit in (
      record {
        unit = u;
        single = s;
        is_unit = begun.allowed;
        text_is = ap (λ z. opener kind ++ z) (begun.text_is ∙ ap (λ z. unit_text u ++ z) quote);
        value_is = begun.value_is;
      },
      append_cancel_right b (unit_text u) q.1 (sym cut ∙ begun.text_is),
    )

pub single_none : (kind : Kind) (a : List ℕ) (q : List ℕ × List ℕ) → unit_at kind a ≡ Some q
    → ((x : List ℕ) → q.1 ≢ 39 ∷ x) → HasNoParts SingleForm kind (opener kind ++ a)
single_none kind a q h ne v b x p = ne x (some_pair q (v, 39 ∷ x) (sym h ∙ single_at kind a v x p.0)).1

pub single_stuck : (kind : Kind) (a : List ℕ) → unit_at kind a ≡ None → HasNoParts SingleForm kind (opener kind ++ a)
single_stuck kind a h v b x p = let e : None ≡ found v (39 ∷ x) = sym h ∙ single_at kind a v x p.0 in absurd (cc)

-- ---- a quoted literal has one parse result

pub parts_once : (form : QuotedForm) (kind : Kind) (a v b x w d y : List ℕ)
    → PartsAre form kind (form_opener form kind ++ a) v b x → PartsAre form kind (form_opener form kind ++ a) w d y
    → (v ≡ w) × (x ≡ y)
parts_once CookedForm kind a v b x w d y p q = cooked_once kind a v x w y p.0 q.0
parts_once RawForm kind a v b x w d y p q = raw_once kind a v x w y p.0 q.0
parts_once SingleForm kind a v b x w d y p q = single_once kind a v x w y p.0 q.0

pub parts_read : (form : QuotedForm) (kind : Kind) (t v b x : List ℕ) → PartsAre form kind t v b x
    → ReadsQuoted t kind (quoted_contents kind v) x
parts_read CookedForm kind t v b x p = record { value = v; form = inl p.0; contents_is = refl }
parts_read RawForm kind t v b x p = record { value = v; form = inr (inl p.0); contents_is = refl }
parts_read SingleForm kind t v b x p = record { value = v; form = inr (inr p.0); contents_is = refl }

-- A quoted literal: its form, its body, and the text after its opening delimiter.
pub record Formed (t : List ℕ) (kind : Kind) (value suffix : List ℕ) : Type 0 where
  pub form : QuotedForm
  pub inside : List ℕ
  pub body : List ℕ
  pub has : has_form form kind ≡ true
  pub text_is : t ≡ form_opener form kind ++ inside
  pub parts : PartsAre form kind t value body suffix

pub parts_formed : (form : QuotedForm) (k : Kind) (t v b x : List ℕ) → PartsAre form k t v b x → Formed t k v x
parts_formed CookedForm k t v b x p = record { form = CookedForm; inside = _; body = b; has = p.0.string; text_is = p.0.text_is; parts = p }
parts_formed RawForm k t v b x p = record { form = RawForm; inside = _; body = b; has = p.0.string; text_is = p.0.text_is; parts = p }
parts_formed SingleForm k t v b x p = record { form = SingleForm; inside = _; body = b; has = p.0.single; text_is = p.0.text_is; parts = p }

pub formed : (t : List ℕ) (k : Kind) (v : Contents) (x : List ℕ) (r : ReadsQuoted t k v x) → Formed t k r.value x
formed t k v x r =
    elim r.form [
      | inl a ↦ parts_formed CookedForm k t r.value (texts a.units) x (a, refl)
      | inr b ↦ elim b [
        | inl a ↦ parts_formed RawForm k t r.value a.inside x (a, refl)
        | inr a ↦ parts_formed SingleForm k t r.value (unit_text a.unit) x (a, refl)
      ]
    ]

-- The text is a quoted literal of some form. The record has the literal's value, body and suffix.
pub record HasParts (kind : Kind) (t value body suffix : List ℕ) : Type 0 where
  pub form : QuotedForm
  pub parts : PartsAre form kind t value body suffix
  pub front : front_len form kind t value body suffix parts ≡ length (opener kind)
  pub single : is_single kind ≡ true → (b : List ℕ) → is_plain_body form kind b ≡ false

pub cooked_has : (kind : Kind) (t v x : List ℕ) (c : Cooked kind t v x) → is_single kind ≡ false
    → HasParts kind t v (texts c.units) x
cooked_has kind t v x c other = record { form = CookedForm; parts = (c, refl); front = refl; single = λ s b. absurd (both_ways (is_single kind) other s) }

pub single_has : (kind : Kind) (t v x : List ℕ) (s : Single kind t v x) → HasParts kind t v (unit_text s.unit) x
single_has kind t v x s = record { form = SingleForm; parts = (s, refl); front = refl; single = λ h b. refl }

-- The start of a quoted literal decides its form, its kind, and the text after the opening delimiter.
formed_front : (t : List ℕ) (k : Kind) (v x : List ℕ) (r : Formed t k v x) → opener_at t
    ≡ found_opener r.form k r.inside
formed_front t k v x r = ap opener_at r.text_is ∙ front_complete r.form k r.inside r.has

told_same : (f g : QuotedForm) (k l : Kind) (a b : List ℕ) → found_opener f k a ≡ found_opener g l b → (f ≡ g) × (k ≡ l)
    × (a ≡ b)
told_same f g k l a b e =
    let Triple : Type 0 = QuotedForm × Kind × List ℕ in
    let p : Triple = (f, k, a) in
    let q : Triple = (g, l, b) in
    let same : p ≡ q = cc in
    (ap (λ z. z.0) same, ap (λ z. z.1) same, ap (λ z. z.2) same)

-- The kind and the form that the start of a quoted literal shows are those of its parse result: the kind k of the parse
-- result is `kind`, and the literal has the parts of the form `form`.
pub record AtFront (form : QuotedForm) (kind : Kind) (inside : List ℕ) (k : Kind) (v x : List ℕ) : Type 0 where
  pub kind_is : kind ≡ k
  pub body : List ℕ
  pub parts : PartsAre form kind (form_opener form kind ++ inside) v body x

pub at_front : (t : List ℕ) (form : QuotedForm) (kind : Kind) (inside : List ℕ) (k : Kind) (v x : List ℕ) → opener_at t
    ≡ found_opener form kind inside → Formed t k v x → AtFront form kind inside k v x
at_front t form kind inside k v x h r =
    let same = told_same form r.form kind k inside r.inside (sym h ∙ formed_front t k v x r) in
    let tells = front_sound t (form, kind, inside) h in
    let Parts : QuotedForm → Kind → List ℕ → Type 0 = λ f l z. PartsAre f l z v r.body x in
    record {
      kind_is = same.1;
      body = r.body;
      parts = subst (Parts form kind) tells.text_is (subst (λ f. Parts f kind t) (sym same.0)
          (subst (λ l. Parts r.form l t) (sym same.1) r.parts));
    }

pub formed_once : (t : List ℕ) (k l : Kind) (v w x y : List ℕ) → Formed t k v x → Formed t l w y → (k ≡ l) × (v ≡ w)
    × (x ≡ y)
formed_once t k l v w x y r s =
    let front = formed_front t k v x r in
    let a = at_front t r.form k r.inside k v x front r in
    let b = at_front t r.form k r.inside l w y front s in
    let same = parts_once r.form k r.inside v a.body x w b.body y a.parts b.parts in
    (b.kind_is, same.0, same.1)

-- ---- texts that aren't quoted literals, by the tests of the code

pub no_front : (t : List ℕ) → opener_at t ≡ None → HasNoQuoted t
no_front t h k v x p =
    let r = formed t k v x p in
    let e : None ≡ found_opener r.form k r.inside = sym h ∙ formed_front t k p.value x r in
    absurd (cc)

pub no_parts : (t : List ℕ) (form : QuotedForm) (kind : Kind) (inside : List ℕ) → opener_at t
    ≡ found_opener form kind inside → HasNoParts form kind (form_opener form kind ++ inside) → HasNoQuoted t
no_parts t form kind inside h none k v x p =
    let a = at_front t form kind inside k p.value x h (formed t k v x p) in
    none p.value a.body x a.parts

-- ---- character and byte literals

pub not_both : (kind : Kind) → is_string kind ≡ true → is_single kind ≡ true → ⊥
not_both Str s h = absurd (cc)
not_both ByteStr s h = absurd (cc)
not_both CStr s h = absurd (cc)
not_both Byte s h = absurd (cc)
not_both Char s h = absurd (cc)
not_both Int s h = absurd (cc)
not_both Float s h = absurd (cc)
not_both BoolKind s h = absurd (cc)

-- A string literal that isn't raw has the form with escapes.
pub string_parts : (form : QuotedForm) (kind : Kind) (t v b x : List ℕ) → is_string kind ≡ true → (form ≡ RawForm → ⊥)
    → PartsAre form kind t v b x → PartsAre CookedForm kind t v b x
string_parts CookedForm kind t v b x h not p = p
string_parts RawForm kind t v b x h not p = absurd (not refl)
string_parts SingleForm kind t v b x h not p = absurd (not_both kind h p.0.single)

pub cooked_row_of_body : (kind : Kind) (t v b x : List ℕ) → PartsAre CookedForm kind t v b x → BeginsRun kind b v []
cooked_row_of_body kind t v b x p =
    let c = p.0 in
    record {
      units = c.units;
      each = c.each;
      ends = row_ends_on c.units [] refl c.ends;
      text_is = p.1 ∙ sym (append-nil (texts c.units));
      value_is = c.value_is;
    }
