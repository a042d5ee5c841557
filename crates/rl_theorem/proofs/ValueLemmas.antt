-- The code's parse result of a text has the value of the text's parse result.
use Rattle.rl_syntax.proofs.Common.{◌≡◌, ℕ, true, false, List, [], ◌∷◌, ◌++◌, refl, sym, ◌∙◌, ap, subst}
use Rattle.std.specs.Prelude.{codes, if◌then◌else◌}
use Rattle.std.proofs.lemmas.Bool.{false_from_ne_true}
use Rattle.std.specs.Str.{chars}
use Rattle.std.specs.Fmt.{decimal}
use Rattle.rl_syntax.specs.declared.kind.Kind.{Kind}
use Rattle.rl_syntax.specs.declared.kind.Kind.TheVariants.{Str, ByteStr, CStr, Byte, Char, Int, Float, Bool as BoolKind}
use Rattle.rl_syntax.specs.Texts.{begins, begins_char}
use Rattle.rl_syntax.specs.Numbers.{Sign, NoSign, Minus, sign_text, IntReads}
use Rattle.rl_syntax.specs.Quoted.{is_string, opener, raw_opener, content_of}
use Rattle.rl_syntax.specs.Reading.{Digits, Truth, Reads, HasSuffix, quoted_contents}
use Rattle.rl_syntax.specs.Readings.{Reading, IsTheReading}
use Rattle.rl_syntax.proofs.Dec.{dec_is_decimal}
use Rattle.rl_syntax.proofs.SignLemmas.{minus_tells_the_sign}
use Rattle.rl_lenient.specs.declared.found.Found.{Found}
use Rattle.rl_lenient.specs.declared.quoted_forms.QuotedForm.{QuotedForm}
use Rattle.rl_lenient.specs.declared.quoted_forms.QuotedForm.TheVariants.{Cooked as CookedForm, Raw as RawForm, Single as SingleForm}
use Rattle.rl_lenient.specs.Forms.{PartsAre}
use Rattle.rl_lenient.specs.Founds.{IsFound, IsQuotedAt, body_in, suffix_in, is_quoted}
use Rattle.rl_lenient.proofs.FormLemmas.{not_both, parts_read}
use Rattle.rl_lenient.proofs.FoundContents.{unit_of}
use Rattle.rust_literals.proofs.LitLemmas.{truth_reads}
use Rattle.rl_theorem.specs.Notation.{Rule, One, Many, Means}
use Rattle.rl_theorem.specs.SynRules.{str_inside, byte_str_inside, c_str_inside}
use Rattle.rl_theorem.specs.Lists.{body_rule, GivesContents}
use Rattle.rl_theorem.proofs.RuleParts.{run_to, all_pass}
use Rattle.rl_theorem.proofs.HeadlineLemmas.{one_value}
use Rattle.rl_theorem.proofs.SynQuotedRules.{UnitRule, inside_to, str_unit, byte_str_unit, c_str_unit}

signed : (t x : List ℕ) (s : Sign) (m : ℕ) → IntReads t s m x
    → sign_text s ≡ (if begins_char 45 t then codes "-" else [])
signed t x Minus m r = ap (λ b. if b then codes "-" else []) (sym ((minus_tells_the_sign t Minus m x r).0 refl))
signed t x NoSign m r =
    ap (λ b. if b then codes "-" else [])
    (sym (false_from_ne_true (begins_char 45 t) (λ h. no_minus ((minus_tells_the_sign t NoSign m x r).1 h))))
  where
    no_minus : ◌≡◌ {A = Sign} NoSign Minus → ⊥
    no_minus e = absurd (cc)

-- A string with escapes doesn't begin like a raw string of its kind.
begins_raw : (k : Kind) (t : List ℕ) → is_string k ≡ true → begins (raw_opener k) (raw_opener k ++ t) ≡ true
begins_raw Str t s = refl
begins_raw ByteStr t s = refl
begins_raw CStr t s = refl
begins_raw k t s = absurd (cc)

begins_cooked : (k : Kind) (t : List ℕ) → is_string k ≡ true → begins (raw_opener k) (opener k ++ t) ≡ false
begins_cooked Str t s = refl
begins_cooked ByteStr t s = refl
begins_cooked CStr t s = refl
begins_cooked k t s = absurd (cc)

raw_body : (k : Kind) (body after value : List ℕ) → is_string k ≡ true → value ≡ content_of k body
    → Means (body_rule true k) body after value
raw_body Str body after value s e =
    subst (λ v. Means (Many (One (λ c. true))) body after v) (sym e) (run_to (λ c. true) body after (all_pass body))
raw_body ByteStr body after value s e = (body, run_to (λ c. true) body after (all_pass body), e)
raw_body CStr body after value s e = (body, run_to (λ c. true) body after (all_pass body), e)
raw_body k body after value s e = absurd (cc)

decoded : (k : Kind) (a : Rule) → UnitRule k a → is_string k ≡ true
    → ((body value : List ℕ) → Means (Many a) body (34 ∷ []) value → Means (body_rule false k) body (34 ∷ []) value)
    → (form : QuotedForm) (t value body x : List ℕ) → PartsAre form k t value body x
    → Means (body_rule (begins (raw_opener k) t) k) body (34 ∷ []) value
decoded k a rule string same CookedForm t value body x (c, body_is) =
    subst (λ b. Means (body_rule b k) body (34 ∷ []) value) (sym (ap (begins (raw_opener k)) c.text_is ∙ begins_cooked k _ string))
    (same body value (subst (λ z. Means (Many a) z (34 ∷ []) value) (sym body_is) (inside_to k a rule t value x c [])))
decoded k a rule string same RawForm t value body x (r, body_is) =
    subst (λ b. Means (body_rule b k) body (34 ∷ []) value) (sym (ap (begins (raw_opener k)) r.text_is ∙ begins_raw k _ string))
    (raw_body k body (34 ∷ []) value string (r.value_is ∙ ap (content_of k) (sym body_is)))
decoded k a rule string same SingleForm t value body x (s, body_is) = absurd (not_both k string s.single)

string_gives : (k : Kind) (a : Rule) → UnitRule k a → is_string k ≡ true → is_quoted k ≡ true
    → ((body value : List ℕ) → Means (Many a) body (34 ∷ []) value → Means (body_rule false k) body (34 ∷ []) value)
    → ((t x : List ℕ) (v : List ℕ) (form : QuotedForm) (body : List ℕ) → PartsAre form k t v body x → Reads t k (quoted_contents k v) x)
    → (text : List ℕ) (f : Found) (r : Reading) → IsFound text f → f.kind ≡ k → IsTheReading (chars text) r
    → (value : List ℕ) × (r.contents ≡ quoted_contents k value)
    × Means (body_rule (begins (raw_opener k) (chars text)) k) (chars (body_in text f.body)) (34 ∷ []) value
string_gives k a rule string quoted same reads text f r found e is =
    let q : IsQuotedAt k text f.body = subst (λ z. IsQuotedAt z text f.body) e (found.quoted (ap is_quoted e ∙ quoted)) in (
      q.value,
      sym (one_value (chars text) k (quoted_contents k q.value) r
          (chars (suffix_in text f.body), reads (chars text) (chars (suffix_in text f.body)) q.value q.form (chars (body_in text f.body)) q.parts) is),
      decoded k a rule string same q.form (chars text) q.value (chars (body_in text f.body)) (chars (suffix_in text f.body)) q.parts,
    )

pub gives : (k : Kind) (text : List ℕ) (f : Found) (r : Reading) → IsFound text f → f.kind ≡ k → IsTheReading (chars text) r
    → GivesContents k text f r.contents
gives Int text f r found e is =
    let m = found.integer e in
    let x = chars (suffix_in text f.body) in
    let here : Reads (chars text) Int (Digits (sign_text m.sign ++ decimal f.magnitude)) x = record {
      sign = m.sign;
      magnitude = f.magnitude;
      reads = m.reads;
      within = m.within;
      contents_is = refl;
    } in
    sym (one_value (chars text) Int (Digits (sign_text m.sign ++ decimal f.magnitude)) r (x, here) is)
    ∙ ap (λ z. Digits (z ++ decimal f.magnitude)) (signed (chars text) x m.sign f.magnitude m.reads)
    ∙ ap (λ z. Digits ((if begins_char 45 (chars text) then codes "-" else []) ++ z)) (sym (dec_is_decimal f.magnitude m.within))
gives Float text f r found e is =
    let x = chars (suffix_in text f.body) in
    let (v, fl) : HasSuffix Float (chars text) x = subst (λ k. HasSuffix k (chars text) x) e found.reads in
    (fl.numeral, fl.reads.text_is, sym (one_value (chars text) Float v r (x, fl) is) ∙ fl.contents_is)
gives BoolKind text f r found e is =
    sym (one_value (chars text) BoolKind (Truth f.truth) r ([], truth_reads text f.truth (found.truth e)) is)
gives Byte text f r found e is =
    sym (one_value (chars text) Byte (quoted_contents Byte (f.unit ∷ [])) r (unit_of Byte text f e refl found).reads is)
gives Char text f r found e is =
    sym (one_value (chars text) Char (quoted_contents Char (f.unit ∷ [])) r (unit_of Char text f e refl found).reads is)
gives Str text f r found e is = string_gives Str str_inside str_unit refl refl (λ b v m. m) (λ t x v form b p. parts_read form Str t v b x p) text f r found e is
gives ByteStr text f r found e is = string_gives ByteStr byte_str_inside byte_str_unit refl refl (λ b v m. m) (λ t x v form b p. parts_read form ByteStr t v b x p) text f r found e is
gives CStr text f r found e is = string_gives CStr c_str_inside c_str_unit refl refl (λ b v m. m) (λ t x v form b p. parts_read form CStr t v b x p) text f r found e is
