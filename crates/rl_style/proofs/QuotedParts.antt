-- The parse result of a quoted literal token has the token's body and suffix.
use Rattle.rl_syntax.proofs.Common.{◌≡◌, ◌≢◌, ℕ, ◌<◌, ◌||◌, Bool, true, false, not, ◌==◌, List, [], ◌∷◌, ◌++◌, length, replicate, Some, None, refl, sym, ap, subst, ◌∙◌, inl, inr, append_assoc, append_cancel_right, both_ways, or_left, or_right, is_ascii_digit, flat_map, list_all}
use Rattle.std.specs.Str.{chars}
use Rattle.rl_syntax.proofs.Basics.{apart, hashes_all}
use Rattle.rl_lenient.proofs.Names.{Kind, Str, ByteStr, CStr, Byte, Char, Int, Float, BoolKind, NoSign, Contents, Reads, ReadsQuoted, Truth, first_passes, is_single, is_string, opener, quoted_contents, raw_opener, strict_content_of, strict_contents, strict_text, truth_text}
use Rattle.rl_syntax.specs.Strict.{IsRawInside, IsStrictSuffix, StrictCooked, StrictRaw, strict_closer, strict_opener, strict_raw_opener}
use Rattle.rl_syntax.proofs.OneNumber.{begins_number, float_front, int_front}
use Rattle.rl_syntax.proofs.OneReading.{one_reading}
use Rattle.rl_syntax.proofs.StrictNumbers.{digit_front, float_strict_reads, same_run, strict_float, strict_int}
use Rattle.rl_syntax.specs.Numbers.{exponent_text, fraction_text}
use Rattle.rl_syntax.proofs.StrictQuoted.{between, quoted_strict_reads}
use Rattle.rl_lenient.specs.declared.found.Body.{Body}
use Rattle.rl_lenient.specs.declared.quoted_forms.QuotedForm.{QuotedForm}
use Rattle.rl_lenient.specs.declared.quoted_forms.QuotedForm.TheVariants.{Cooked as CookedForm, Raw as RawForm, Single as SingleForm}
use Rattle.rl_lenient.specs.Forms.{PartsAre, form_opener, has_form}
use Rattle.rl_lenient.specs.Founds.{IsFound, IsQuotedAt, body_in, is_quoted, suffix_in}
use Rattle.rl_lenient.specs.Mirrors.OpenerAt.{found_opener, opener_at}
use Rattle.rl_lenient.proofs.FormLemmas.{front_complete, front_sound, parts_read}
use Rattle.rl_lenient.proofs.TestLemmas.{passes_more}
use Rattle.std.specs.Prelude.{codes, if◌then◌else◌}
use Rattle.rl_lenient.proofs.OpenerLemmas.{word_has_none}
use Rattle.rl_strict.specs.StrictShapes.{ClosesForm, ClosesRaw, ClosesUnits, IsToken}
use Rattle.rl_lenient.specs.declared.found.Found.{Found}
use Rattle.rl_strict.specs.declared.strict_reading.Reading.{Reading}
use Rattle.rl_strict.specs.declared.strict_reading.Reading.TheVariants.{Text, Unit, Integer, Float as FloatRead, Truth as TruthRead}
use Rattle.rl_strict.specs.StrictRead.{IsStrictReading}
use Rattle.rl_strict.proofs.StrictLemmas.{IsStrictNumber, Opened, seen}
use Rattle.rl_style.specs.Mirrors.{OpensAs, CookedParts, RawParts}
use Rattle.rl_style.specs.Rewriting.{KeepsTruth}
use Rattle.rl_style.proofs.SameRaw.{length_hashes, raw_joined}
use Rattle.rl_style.proofs.WrittenQuoted.{opens_so}

-- ---- the opening delimiter identifies the form of a token

number_front : (t : List ℕ) → begins_number t ≡ true → opener_at t ≡ None
unfolding opener_at
number_front [] h = absurd (cc)
number_front (c ∷ cs) h =
    let test : ℕ → Bool = λ c. is_ascii_digit c || (c == 45) in
    let a = apart test c 39 h refl in
    let b = apart test c 98 h refl in
    let d = apart test c 99 h refl in
    let e = apart test c 34 h refl in
    let f = apart test c 114 h refl in
    rw (a, b, d, e, f) refl

number_none : (t : List ℕ) → IsStrictNumber t → opener_at t ≡ None
number_none t (v, x, inl s) = let i = strict_int t x v s in number_front t (int_front t x NoSign i.magnitude i.reads)
number_none t (v, x, inr s) = let f = float_strict_reads t x v s in number_front t (float_front t f.numeral x f.reads)

opened_told : (t : List ℕ) (form : QuotedForm) (k : Kind) (r : List ℕ) (o : Opened t) → opener_at t
    ≡ found_opener form k r
    → ClosesForm form k r
opened_told t form k r o h =
    let front : Some (form, k, r) ≡ Some (o.form, o.kind, o.inside) = sym h ∙ ap opener_at o.text_is
    ∙ front_complete o.form o.kind o.inside o.has in
    let same : (o.form, o.kind, o.inside) ≡ (form, k, r) = cc in
    subst (λ (q : QuotedForm × Kind × List ℕ). ClosesForm q.0 q.1 q.2) same o.closes

token_closes : (t : List ℕ) (form : QuotedForm) (k : Kind) (r : List ℕ) → opener_at t ≡ found_opener form k r
    → IsToken t → ClosesForm form k r
token_closes t form k r h c =
    let none : opener_at t ≡ None → ⊥ = λ e. let f : found_opener form k r ≡ None = sym h ∙ e in absurd (cc) in
    elim (seen t c.kind c.contents c.suffix c.strict) [
      | inl o ↦ opened_told t form k r o h
      | inr w ↦ elim w [
        | inl n ↦ absurd (none (number_none t n))
        | inr v ↦ absurd (none (ap opener_at v.1 ∙ word_has_none v.0))
      ]
    ]

form_same : (f g : QuotedForm) (k l : Kind) (a b : List ℕ) → found_opener f k a ≡ found_opener g l b → f ≡ g
form_same f g k l a b e =
    let same : ◌≡◌ {A = QuotedForm × Kind × List ℕ} (f, k, a) (g, l, b) = cc in
    ap (λ (p : QuotedForm × Kind × List ℕ). p.0) same

-- ---- the delimiters of quoted literals of each kind

raw_opener_same : (k : Kind) → raw_opener k ≡ strict_raw_opener k
raw_opener_same Str = refl
raw_opener_same ByteStr = refl
raw_opener_same CStr = refl
raw_opener_same Byte = refl
raw_opener_same Char = refl
raw_opener_same Int = refl
raw_opener_same Float = refl
raw_opener_same BoolKind = refl

string_closer : (k : Kind) → is_string k ≡ true → strict_closer k ≡ 34 ∷ []
string_closer Str h = refl
string_closer ByteStr h = refl
string_closer CStr h = refl
string_closer kind h = absurd (cc)

single_closer : (k : Kind) → is_single k ≡ true → strict_closer k ≡ 39 ∷ []
single_closer Byte h = refl
single_closer Char h = refl
single_closer kind h = absurd (cc)

as_reads : (t : List ℕ) (k : Kind) (v : Contents) (x : List ℕ) → is_quoted k ≡ true → ReadsQuoted t k v x
    → Reads t k v x
as_reads t Str v x h r = r
as_reads t ByteStr v x h r = r
as_reads t CStr v x h r = r
as_reads t Byte v x h r = r
as_reads t Char v x h r = r
as_reads t kind v x h r = absurd (cc)

-- ---- the body and the suffix of a literal with escapes

units_tree : (k : Kind) (t r : List ℕ) → t ≡ strict_opener k ++ r → (c : ClosesUnits k r)
    → StrictCooked t k (quoted_contents k (flat_map (strict_contents (strict_content_of k)) c.units)) c.suffix
units_tree k t r e c = record {
  units = c.units;
  count = c.count;
  each = c.each;
  blanks_end = c.blanks_end;
  suffix = c.is_suffix;
  text = e ∙ ap (λ z. strict_opener k ++ z) c.text_is
      ∙ sym (between (strict_opener k) (flat_map strict_text c.units) (strict_closer k) c.suffix);
  contents = refl;
}

cooked_from : (k : Kind) (t b x : List ℕ) (v : Contents) → t ≡ strict_opener k ++ (b ++ (strict_closer k ++ x))
    → ClosesUnits k (b ++ (strict_closer k ++ x)) → Reads t k v x → CookedParts k t b x
cooked_from k t b x v e c reads =
    let tree = units_tree k t (b ++ (strict_closer k ++ x)) e c in
    let suffix : c.suffix ≡ x = (one_reading t k k _ v c.suffix x (quoted_strict_reads k t c.suffix _ (inl tree))
    reads).2 in
    let inside : b ≡ flat_map strict_text c.units = append_cancel_right b (flat_map strict_text c.units)
    (strict_closer k ++ x) (c.text_is ∙ ap (λ z. flat_map strict_text c.units ++ (strict_closer k ++ z)) suffix) in
    record {
      units = c.units;
      count = c.count;
      are = record { each = c.each; blanks_end = c.blanks_end; inside_is = inside };
      is_suffix = subst IsStrictSuffix suffix c.is_suffix;
      text_is = e;
    }

-- ---- the content and the suffix of a raw string

inside_tree : (k : Kind) (t r : List ℕ) → t ≡ strict_raw_opener k ++ r → (c : ClosesRaw k r)
    → StrictRaw t k (quoted_contents k (strict_content_of k c.closes.inside)) c.closes.suffix
inside_tree k t r e c =
    let i = c.closes in
    let n : List ℕ = replicate c.hashes 35 in
    record {
      hashes = c.hashes;
      inside = i.inside;
      few = c.few;
      allowed = i.allowed;
      no_carriage_return = i.no_carriage_return;
      first_close = λ front rest q. i.first_close front rest (q ∙ append_assoc front (34 ∷ n) rest);
      suffix = i.is_suffix;
      text = e ∙ ap (λ z. strict_raw_opener k ++ z) (c.text_is ∙ ap (λ z. n ++ (34 ∷ z)) i.text_is)
          ∙ sym (raw_joined (strict_raw_opener k) n i.inside i.suffix);
      contents = refl;
    }

raw_from : (k : Kind) (t b x : List ℕ) (h : ℕ) (v : Contents) → t ≡ strict_raw_opener k
    ++ (replicate h 35 ++ (34 ∷ (b ++ (34 ∷ (replicate h 35 ++ x)))))
    → ClosesRaw k (replicate h 35 ++ (34 ∷ (b ++ (34 ∷ (replicate h 35 ++ x))))) → Reads t k v x → RawParts k t b x
raw_from k t b x h v e c reads =
    let i = c.closes in
    let n : List ℕ = replicate c.hashes 35 in
    let tree = inside_tree k t (replicate h 35 ++ (34 ∷ (b ++ (34 ∷ (replicate h 35 ++ x))))) e c in
    let suffix : i.suffix ≡ x = (one_reading t k k _ v i.suffix x (quoted_strict_reads k t i.suffix _ (inr tree))
    reads).2 in
    let run = same_run (λ c. c == 35) (replicate h 35) n _ _ (hashes_all h) (hashes_all c.hashes) refl refl
    (c.text_is ∙ ap (λ z. n ++ (34 ∷ z)) i.text_is) in
    let count : c.hashes ≡ h = sym (length_hashes c.hashes) ∙ ap length (sym run.0) ∙ length_hashes h in
    let rest : 34 ∷ (b ++ (34 ∷ (replicate h 35 ++ x))) ≡ 34 ∷ (i.inside ++ (34 ∷ (n ++ i.suffix))) = run.1 in
    let tail : b ++ (34 ∷ (replicate h 35 ++ x)) ≡ i.inside ++ (34 ∷ (n ++ i.suffix)) = cc in
    let inside : i.inside ≡ b = append_cancel_right i.inside b (34 ∷ (replicate h 35 ++ x))
    (ap (λ z. i.inside ++ (34 ∷ (z ++ x))) (ap (λ z. replicate z 35) (sym count))
    ∙ ap (λ z. i.inside ++ (34 ∷ (n ++ z))) (sym suffix) ∙ sym tail) in
    let Few : ℕ → Type 0 = λ z. z < 256 in
    let NoReturn : List ℕ → Type 0 = λ z. list_all (λ c. not (c == 13)) z ≡ true in
    record {
      hashes = h;
      few = subst Few count c.few;
      allowed = subst (IsRawInside k) inside i.allowed;
      no_carriage_return = subst NoReturn inside i.no_carriage_return;
      stays_open = λ front rest q. i.first_close front rest (inside ∙ q
          ∙ ap (λ z. front ++ (34 ∷ (replicate z 35 ++ rest))) (sym count));
      is_suffix = subst IsStrictSuffix suffix i.is_suffix;
      text_is = e;
    }

-- ---- a quoted literal that is closed has a parse result

form_quoted : (form : QuotedForm) (k : Kind) → has_form form k ≡ true → is_quoted k ≡ true
form_quoted CookedForm k h = or_left (is_string k) (is_single k) h
form_quoted RawForm k h = or_left (is_string k) (is_single k) h
form_quoted SingleForm k h = or_right (is_string k) (is_single k) h

units : (k : Kind) (t r : List ℕ) → t ≡ strict_opener k ++ r → ClosesUnits k r → (v : Contents) × (x : List ℕ)
    × Reads t k v x
units k t r e c = let tree = units_tree k t r e c in (_, c.suffix, quoted_strict_reads k t c.suffix _ (inl tree))

inside : (k : Kind) (t r : List ℕ) → t ≡ strict_raw_opener k ++ r → ClosesRaw k r → (v : Contents) × (x : List ℕ)
    × Reads t k v x
inside k t r e c = let tree = inside_tree k t r e c in (
  _,
  c.closes.suffix,
  quoted_strict_reads k t c.closes.suffix _
      (inr tree),
)

-- ---- the body and the suffix of a quoted literal of any form

record Told (form : QuotedForm) (kind : Kind) (t r : List ℕ) : Type 0 where
  has : has_form form kind ≡ true
  text_is : t ≡ form_opener form kind ++ r

told_front : (form : QuotedForm) (kind : Kind) (t r : List ℕ) → Told form kind t r → opener_at t
    ≡ found_opener form kind r
told_front form kind t r o = ap opener_at o.text_is ∙ front_complete form kind r o.has

cooked_told : (kind : Kind) (t v b x : List ℕ) → PartsAre CookedForm kind t v b x
    → Told CookedForm kind t (b ++ (strict_closer kind ++ x))
cooked_told kind t v b x (c, e) = record {
  has = c.string;
  text_is = c.text_is ∙ ap (λ z. opener kind ++ (z ++ (34 ∷ x))) (sym e)
      ∙ ap (λ z. opener kind ++ (b ++ (z ++ x))) (sym (string_closer kind c.string));
}

single_told : (kind : Kind) (t v b x : List ℕ) → PartsAre SingleForm kind t v b x
    → Told SingleForm kind t (b ++ (strict_closer kind ++ x))
single_told kind t v b x (s, e) = record {
  has = s.single;
  text_is = s.text_is ∙ ap (λ z. opener kind ++ (z ++ (39 ∷ x))) (sym e)
      ∙ ap (λ z. opener kind ++ (b ++ (z ++ x))) (sym (single_closer kind s.single));
}

raw_told : (kind : Kind) (t v b x : List ℕ) → (p : PartsAre RawForm kind t v b x)
    → Told RawForm kind t (replicate p.0.hashes 35 ++ (34 ∷ (b ++ (34 ∷ (replicate p.0.hashes 35 ++ x)))))
raw_told kind t v b x (r, e) = record {
  has = r.string;
  text_is = r.text_is ∙ ap (λ z. raw_opener kind ++ (replicate r.hashes 35
      ++ (34 ∷ (z ++ (34 ∷ (replicate r.hashes 35 ++ x))))))
      (sym e);
}

cooked_by : (form : QuotedForm) (kind : Kind) (t v b x : List ℕ) → IsToken t → PartsAre form kind t v b x
    → form ≢ RawForm
    → CookedParts kind t b x
cooked_by CookedForm kind t v b x token p none =
    let o = cooked_told kind t v b x p in
    let r : List ℕ = b ++ (strict_closer kind ++ x) in
    cooked_from kind t b x (quoted_contents kind v) (o.text_is ∙ ap (λ z. z ++ r) (opens_so kind))
    (token_closes t CookedForm kind r (told_front CookedForm kind t r o) token)
    (as_reads t kind (quoted_contents kind v) x (or_left (is_string kind) (is_single kind) o.has)
    (parts_read CookedForm kind t v b x p))
cooked_by SingleForm kind t v b x token p none =
    let o = single_told kind t v b x p in
    let r : List ℕ = b ++ (strict_closer kind ++ x) in
    cooked_from kind t b x (quoted_contents kind v) (o.text_is ∙ ap (λ z. z ++ r) (opens_so kind))
    (token_closes t SingleForm kind r (told_front SingleForm kind t r o) token)
    (as_reads t kind (quoted_contents kind v) x (or_right (is_string kind) (is_single kind) o.has)
    (parts_read SingleForm kind t v b x p))
cooked_by RawForm kind t v b x token p none = absurd (none refl)

not_cooked : CookedForm ≡ RawForm → ⊥
not_cooked e = absurd (cc)

not_single : SingleForm ≡ RawForm → ⊥
not_single e = absurd (cc)

raw_by : (form : QuotedForm) (kind : Kind) (t v b x : List ℕ) → IsToken t → PartsAre form kind t v b x → form ≡ RawForm
    → RawParts kind t b x
raw_by CookedForm kind t v b x token p is = absurd (not_cooked is)
raw_by SingleForm kind t v b x token p is = absurd (not_single is)
raw_by RawForm kind t v b x token p is =
    let o = raw_told kind t v b x p in
    let h : ℕ = p.0.hashes in
    let r : List ℕ = replicate h 35 ++ (34 ∷ (b ++ (34 ∷ (replicate h 35 ++ x)))) in
    raw_from kind t b x h (quoted_contents kind v) (o.text_is ∙ ap (λ z. z ++ r) (raw_opener_same kind))
    (token_closes t RawForm kind r (told_front RawForm kind t r o) token)
    (as_reads t kind (quoted_contents kind v) x (or_left (is_string kind) (is_single kind) o.has)
    (parts_read RawForm kind t v b x p))

-- If a text has the parts of a quoted literal, it begins with the opening delimiter of this literal's kind and form.
parts_begin : (form : QuotedForm) (kind : Kind) (t v b x : List ℕ) → PartsAre form kind t v b x → OpensAs form kind t
parts_begin CookedForm kind t v b x p = (_, told_front CookedForm kind t _ (cooked_told kind t v b x p))
parts_begin SingleForm kind t v b x p = (_, told_front SingleForm kind t _ (single_told kind t v b x p))
parts_begin RawForm kind t v b x p = (_, told_front RawForm kind t _ (raw_told kind t v b x p))

begin_same : (f g : QuotedForm) (k l : Kind) (t : List ℕ) → OpensAs f k t → OpensAs g l t → f ≡ g
begin_same f g k l t a b = form_same f g k l a.0 b.0 (sym a.1 ∙ b.1)

pub cooked_parts : (form : QuotedForm) (kind : Kind) (t inside suffix : List ℕ) (body : Body) → IsToken (chars t)
    → OpensAs form kind (chars t) → IsQuotedAt kind t body → form ≢ RawForm → inside ≡ body_in t body
    → suffix ≡ suffix_in t body → CookedParts kind (chars t) (chars inside) (chars suffix)
cooked_parts form kind t inside suffix body token begins q other b x =
    let same = begin_same form q.form kind kind (chars t) begins (parts_begin q.form kind (chars t) q.value
    (chars (body_in t body)) (chars (suffix_in t body)) q.parts) in
    subst (λ z. CookedParts kind (chars t) (chars z) (chars suffix)) (sym b)
    (subst (λ z. CookedParts kind (chars t) (chars (body_in t body)) (chars z)) (sym x)
    (cooked_by q.form kind (chars t) q.value (chars (body_in t body)) (chars (suffix_in t body)) token q.parts
    (λ e. other (same ∙ e))))

pub raw_parts : (form : QuotedForm) (kind : Kind) (t inside suffix : List ℕ) (body : Body) → IsToken (chars t)
    → OpensAs form kind (chars t) → IsQuotedAt kind t body → form ≡ RawForm → inside ≡ body_in t body
    → suffix ≡ suffix_in t body → RawParts kind (chars t) (chars inside) (chars suffix)
raw_parts form kind t inside suffix body token begins q is b x =
    let same = begin_same form q.form kind kind (chars t) begins (parts_begin q.form kind (chars t) q.value
    (chars (body_in t body)) (chars (suffix_in t body)) q.parts) in
    subst (λ z. RawParts kind (chars t) (chars z) (chars suffix)) (sym b)
    (subst (λ z. RawParts kind (chars t) (chars (body_in t body)) (chars z)) (sym x)
    (raw_by q.form kind (chars t) q.value (chars (body_in t body)) (chars (suffix_in t body)) token q.parts
    (sym same ∙ is)))

-- ---- a quoted token has one parse result, of the kind that its opening delimiter identifies

-- A token parses as a literal of the kind that its opening delimiter identifies.
token_reads : (form : QuotedForm) (kind : Kind) (t r : List ℕ) → opener_at t ≡ found_opener form kind r → IsToken t
    → (v : Contents) × (x : List ℕ) × Reads t kind v x
token_reads form kind t r h token =
    let c = token_closes t form kind r h token in
    let told = front_sound t (form, kind, r) h in
    go form told.has told.text_is c
  where
    go : (form : QuotedForm) → has_form form kind ≡ true → t ≡ form_opener form kind ++ r → ClosesForm form kind r
        → (v : Contents) × (x : List ℕ) × Reads t kind v x
    go CookedForm has e c = units kind t r (e ∙ ap (λ z. z ++ r) (opens_so kind)) c
    go SingleForm has e c = units kind t r (e ∙ ap (λ z. z ++ r) (opens_so kind)) c
    go RawForm has e c = inside kind t r (e ∙ ap (λ z. z ++ r) (raw_opener_same kind)) c

quoted_found : (form : QuotedForm) (kind : Kind) (t : List ℕ) (found : Found) → IsToken (chars t)
    → OpensAs form kind (chars t) → IsFound t found → IsQuotedAt kind t found.body
quoted_found form kind t found token begins f =
    let own = token_reads form kind (chars t) begins.0 begins.1 token in
    let same : kind ≡ found.kind = (one_reading (chars t) kind found.kind own.0 f.reads.0 own.1
    (chars (suffix_in t found.body)) own.2 f.reads.1).0 in
    let told = front_sound (chars t) (form, kind, begins.0) begins.1 in
    subst (λ k. IsQuotedAt k t found.body) (sym same) (f.quoted
    (ap is_quoted (sym same) ∙ form_quoted form kind told.has))

pub text_found : (form : QuotedForm) (kind k : Kind) (t : List ℕ) (body : Body) (r : Reading) → IsToken (chars t)
    → OpensAs form kind (chars t) → IsStrictReading t r → r ≡ Text k body → IsQuotedAt kind t body
text_found form kind k t body r token begins reads e = quoted_found form kind t _ token begins
    (subst (IsStrictReading t) e reads)

pub unit_found : (form : QuotedForm) (kind k : Kind) (t : List ℕ) (body : Body) (n : ℕ) (r : Reading)
    → IsToken (chars t)
    → OpensAs form kind (chars t) → IsStrictReading t r → r ≡ Unit k body n → IsQuotedAt kind t body
unit_found form kind k t body n r token begins reads e = quoted_found form kind t _ token begins
    (subst (IsStrictReading t) e reads)

no_number : (form : QuotedForm) (kind : Kind) (t : List ℕ) → OpensAs form kind t → IsStrictNumber t → ⊥
no_number form kind t begins n = let e : None ≡ found_opener form kind begins.0 = sym (number_none t n)
    ∙ begins.1 in absurd (cc)

no_word : (form : QuotedForm) (kind : Kind) (t : List ℕ) (b : Bool) → OpensAs form kind t → t ≡ truth_text b → ⊥
no_word form kind t b begins e =
    let none : None ≡ found_opener form kind begins.0 = sym (ap opener_at e ∙ word_has_none b) ∙ begins.1 in absurd (cc)

-- The parse result of a quoted literal is `Text`, for a string, or `Unit`, for a character or byte.
pub no_other : (form : QuotedForm) (kind : Kind) (t : List ℕ) (r : Reading) → OpensAs form kind (chars t)
    → IsStrictReading t r → ((k : Kind) (body : Body) → r ≡ Text k body → ⊥)
    → ((k : Kind) (body : Body) (n : ℕ) → r ≡ Unit k body n → ⊥) → ⊥
no_other form kind t (Text k body) begins reads a b = a k body refl
no_other form kind t (Unit k body n) begins reads a b = b k body n refl
no_other form kind t (Integer m at) (rest, h) (place, (n, s, is)) a b = no_number form kind (chars t) (rest, h)
    (_, _, inl s)
no_other form kind t (FloatRead at) (rest, h) (place, (v, s)) a b = no_number form kind (chars t) (rest, h)
    (_, _, inr s)
no_other form kind t (TruthRead truth) begins reads a b = no_word form kind (chars t) truth begins reads

-- ---- the tokens `true` and `false`

number_digit : (t : List ℕ) → IsStrictNumber t → first_passes is_ascii_digit t ≡ true
number_digit t (v, x, inl s) =
    let r = (strict_int t x v s).reads in
    ap (first_passes is_ascii_digit) r.text_is ∙ digit_front r.base r.digits x r.front
number_digit t (v, x, inr s) =
    let f = strict_float t x v s in
    let more : List ℕ = fraction_text f.fraction ++ exponent_text f.exponent in
    ap (first_passes is_ascii_digit) f.text_is
    ∙ passes_more is_ascii_digit (f.whole ++ more) x (passes_more is_ascii_digit f.whole more f.first)

truth_is : (b : Bool) → truth_text b ≡ (if b then codes "true" else codes "false")
truth_is true = refl
truth_is false = refl

pub word_kept : (t u : List ℕ) → IsToken t → first_passes is_ascii_digit t ≡ false → opener_at t ≡ None → u ≡ t
    → KeepsTruth t u
word_kept t u c digit opener e =
    elim (seen t c.kind c.contents c.suffix c.strict) [
      | inl o ↦ absurd (let f : None ≡ Some (o.form, o.kind, o.inside) = sym opener ∙ ap opener_at o.text_is
          ∙ front_complete o.form o.kind o.inside o.has in cc)
      | inr w ↦ elim w [
        | inl n ↦ absurd (both_ways (first_passes is_ascii_digit t) digit (number_digit t n))
        | inr v ↦ record {
          contents = Truth v.0;
          suffix = [];
          truth = record { truth = v.0; text = v.1 ∙ truth_is v.0; contents = refl; suffix = refl };
          new_is = e;
        }
      ]
    ]
