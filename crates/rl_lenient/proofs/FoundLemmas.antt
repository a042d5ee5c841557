-- The parse result of a text is computed from the parts of the literal.
use Rattle.rl_syntax.proofs.Common.{◌≡◌, ℕ, ◌+◌, ◌≤◌, ◌⊎◌, inl, inr, Bool, true, false, List, [], ◌++◌, length, take, drop, refl, sym, ap, ap₂, subst, ◌∙◌, arith, rules, both_ways, append_cancel_right, IsCharBoundary-start, IsUtf8-drop, chars-append, chars-nil, IsUtf8, IsCharBoundary}
use Rattle.rl_lenient.proofs.Names.{drop-append_seam, Kind, Str, ByteStr, CStr, Byte, Char, Int, Float, BoolKind, IsTail, FloatReads, float_digits, is_string, is_single, Digits, Truth, HasNoInteger, HasSuffix, ReadsAs, ReadsQuoted, quoted_contents, truth_text}
use Rattle.std.proofs.Common.{◌-◌, length-drop}
use Rattle.std.proofs.Math.Seq.{take-append_seam}
use Rattle.std.proofs.lemmas.List.{length-take-le}
use Rattle.std.proofs.lemmas.Str.{IsCharBoundary-at_seam, IsCharBoundary-end, IsUtf8-between}
use lib.Seq.{drop-length, take-length}
use Rattle.std.specs.Str.{chars}
use denote.Enum.Bare.{sameb, same_true, true_same}
use Rattle.rl_syntax.specs.contracts.kind.Kind.{the_type}
use Rattle.rl_lenient.specs.declared.quoted_forms.QuotedForm.{QuotedForm}
use Rattle.rl_lenient.specs.declared.quoted_forms.QuotedForm.TheVariants.{Cooked as CookedForm, Raw as RawForm, Single as SingleForm}
use Rattle.rl_lenient.specs.declared.found.Body.{Body}
use Rattle.rl_lenient.specs.declared.found.Found.{Found}
use Rattle.rl_lenient.specs.Bodies.{IsUnitValue}
use Rattle.rl_lenient.specs.Forms.{PartsAre, form_opener, front_len, is_plain_body}
use Rattle.rl_lenient.specs.Mirrors.OpenerAt.{found_opener, opener_at}
use Rattle.rl_lenient.specs.Founds.{IsFound, IsFoundFloat, IsQuotedAt, IsUnitOf, IsBodyWithin, body_in, suffix_in, is_quoted}
use Rattle.rl_lenient.specs.NumberShapes.{HasMagnitude}
use Rattle.rl_lenient.specs.Mirrors.PlainAt.{is_plain_integer, is_plain_float}
use Rattle.rl_lenient.specs.Shapes.{IsQuotedSplit}
use Rattle.rl_lenient.specs.WholeShapes.{IsSplit, IsPlain}
use Rattle.rl_lenient.proofs.BodyLemmas.{plain_parts, parts_plain}
use Rattle.rl_lenient.proofs.FormLemmas.{front_sound, not_both, parts_read}
use Rattle.rl_lenient.proofs.IntegerLemmas.{within_reads}
use Rattle.rl_lenient.proofs.PlainNumberLemmas.{IsSplitInteger, whether_integer, whether_float}
use Rattle.rl_lenient.proofs.ShapeLemmas.{parts_cut}
use Rattle.rl_lenient.proofs.SingleBodies.{unit_reads}

-- ---- quoted literals

-- The body of a literal is UTF-8.
pub body_text : (t : List ℕ) (body : Body) → IsUtf8 t → IsBodyWithin t body → IsUtf8 (body_in t body)
body_text t body u s = IsUtf8-between t body.lo body.hi u s.ordered s.begins s.ends

-- The length of a literal's body is the difference of its offsets.
pub body_long : (t : List ℕ) (body : Body) → IsBodyWithin t body → length (body_in t body) + body.lo ≡ body.hi
body_long t body s =
    let within : body.hi ≤ length t = s.ends.0 in
    omega (
      arith,
      s.ordered,
      within,
      length-take-le (body.hi - body.lo) (drop body.lo t)
          (omega (arith, within, s.ordered, length-drop body.lo t)),
    )

pub suffix_text : (t : List ℕ) (body : Body) → IsUtf8 t → IsBodyWithin t body → IsUtf8 (suffix_in t body)
suffix_text t body u s = IsUtf8-drop t body.suffix_at u s.following

pub quoted_cut : (kind : Kind) (t : List ℕ) (body : Body) → IsUtf8 t → IsQuotedAt kind t body
    → IsQuotedSplit kind t (body_in t body) (suffix_in t body)
quoted_cut kind t body u q = parts_cut q.form kind t q.value (body_in t body) (suffix_in t body) u
    (body_text t body u q.stands) (suffix_text t body u q.stands) q.parts

pub quoted_reads : (kind : Kind) (t : List ℕ) (body : Body) (q : IsQuotedAt kind t body)
    → ReadsQuoted (chars t) kind (quoted_contents kind q.value) (chars (suffix_in t body))
quoted_reads kind t body q = parts_read q.form kind (chars t) q.value (chars (body_in t body))
    (chars (suffix_in t body)) q.parts

abbrev pub Whether : Bool → Kind → List ℕ → Type 0
Whether b k t = (b ≡ true → IsPlain k t) × (IsPlain k t → b ≡ true)

string_plain : (kind : Kind) (t : List ℕ) (body : Body) → is_string kind ≡ true → IsUtf8 t → IsQuotedAt kind t body
    → Whether body.plain kind t
string_plain kind t body s u q =
    let ub = body_text t body u q.stands in
    let ux = suffix_text t body u q.stands in (
      (λ e. plain_parts q.form kind t q.value (body_in t body) (suffix_in t body) s (sym q.plain_is ∙ e) u ub ux
          q.parts),
      (λ p. q.plain_is ∙ (parts_plain q.form kind kind t q.value (body_in t body) (suffix_in t body) s u ub ux q.parts
          p).1),
    )

-- The body of a character or byte literal fails the test `is_plain_body`.
single_form : (form : QuotedForm) (kind : Kind) (t v b x : List ℕ) → is_single kind ≡ true → PartsAre form kind t v b x
    → is_plain_body form kind b ≡ false
single_form CookedForm kind t v b x s p = absurd (not_both kind p.0.string s)
single_form RawForm kind t v b x s p = absurd (not_both kind p.0.string s)
single_form SingleForm kind t v b x s p = refl

single_plain : (kind : Kind) (t : List ℕ) (body : Body) → is_single kind ≡ true → (IsPlain kind t → ⊥)
    → IsQuotedAt kind t body → Whether body.plain kind t
single_plain kind t body s none q =
    let other = q.plain_is ∙ single_form q.form kind (chars t) q.value (chars (body_in t body))
    (chars (suffix_in t body)) s q.parts in
    ((λ e. absurd (both_ways body.plain other e)), (λ p. absurd (none p)))

form_quoted : (form : QuotedForm) (kind : Kind) (t v b x : List ℕ) → PartsAre form kind t v b x
    → (is_string kind ≡ true) ⊎ (is_single kind ≡ true)
form_quoted CookedForm kind t v b x p = inl p.0.string
form_quoted RawForm kind t v b x p = inl p.0.string
form_quoted SingleForm kind t v b x p = inr p.0.single

no_form : (kind : Kind) (t : List ℕ) (body : Body) → is_string kind ≡ false → is_single kind ≡ false
    → IsQuotedAt kind t body → ⊥
no_form kind t body s o q = elim (form_quoted q.form kind (chars t) q.value (chars (body_in t body))
    (chars (suffix_in t body)) q.parts) [
      | inl e ↦ both_ways (is_string kind) s e
      | inr e ↦ both_ways (is_single kind) o e
    ]

abbrev pub Of : Kind → Body → ℕ → Found
Of kind body magnitude = record { kind = kind; body = body; magnitude = magnitude; truth = false; unit = 0 }

abbrev pub OfUnit : Kind → Body → ℕ → Found
OfUnit kind body n = record { kind = kind; body = body; magnitude = 0; truth = false; unit = n }

-- Facts about a quoted literal that follow from its parts: its kind and suffix, its split into body and suffix, and whether
-- its body is its value byte for byte.
pub record Whole (t : List ℕ) (kind : Kind) (body : Body) : Type 0 where
  pub reads : HasSuffix kind (chars t) (chars (suffix_in t body))
  pub cut : IsSplit kind t (body_in t body) (suffix_in t body)
  pub plain : Whether body.plain kind t

pub quoted_whole : (t : List ℕ) (kind : Kind) (body : Body) → IsUtf8 t → IsQuotedAt kind t body → Whole t kind body
quoted_whole t Str body u q = record { reads = (_, quoted_reads Str t body q); cut = quoted_cut Str t body u q; plain = string_plain Str t body refl u q }
quoted_whole t ByteStr body u q = record { reads = (_, quoted_reads ByteStr t body q); cut = quoted_cut ByteStr t body u q; plain = string_plain ByteStr t body refl u q }
quoted_whole t CStr body u q = record { reads = (_, quoted_reads CStr t body q); cut = quoted_cut CStr t body u q; plain = string_plain CStr t body refl u q }
quoted_whole t Byte body u q = record { reads = (_, quoted_reads Byte t body q); cut = quoted_cut Byte t body u q; plain = single_plain Byte t body refl (λ p. p.reads) q }
quoted_whole t Char body u q = record { reads = (_, quoted_reads Char t body q); cut = quoted_cut Char t body u q; plain = single_plain Char t body refl (λ p. p.reads) q }
quoted_whole t kind body u q = absurd (no_form kind t body refl refl q)

pub quoted_found_of : (t : List ℕ) (kind : Kind) (body : Body) (n : ℕ) (found : Found) → IsUtf8 t
    → (q : IsQuotedAt kind t body) → (is_single kind ≡ true → IsUnitOf kind (chars t) n)
    → ((kind ≡ Byte → ⊥) → (kind ≡ Char → ⊥) → n ≡ 0) → found ≡ OfUnit kind body n → IsFound t found
quoted_found_of t kind body n found u q unit none is =
    let w = quoted_whole t kind body u q in
    subst (IsFound t) (sym is) (record {
      reads = w.reads;
      cut = w.cut;
      stands = q.stands;
      plain = w.plain;
      quoted = λ e. q;
      integer = λ e. absurd (no_form kind t body (ap is_string e) (ap is_single e) q);
      no_magnitude = λ e. refl;
      truth = λ e. absurd (no_form kind t body (ap is_string e) (ap is_single e) q);
      no_truth = λ e. refl;
      unit = unit;
      no_unit = none;
    })

pub quoted_found : (t : List ℕ) (kind : Kind) (body : Body) (n : ℕ) (found : Found) → IsUtf8 t
    → (q : IsQuotedAt kind t body) → IsUnitValue kind q.value n → found ≡ OfUnit kind body n → IsFound t found
quoted_found t kind body n found u q h is = quoted_found_of t kind body n found u q (λ s. unit_reads q.form kind
    (chars t) q.value (chars (body_in t body)) (chars (suffix_in t body)) n s q.parts h) h.none is

-- The parse result of a quoted literal (`IsQuotedAt`), from the parts of the literal and its opening delimiter.
abbrev pub form_at : (form : QuotedForm) (kind : Kind) (t inside v suffix : List ℕ) (body : Body) → opener_at (chars t)
    ≡ found_opener form kind (chars inside) → (parts : PartsAre form kind (form_opener form kind ++ chars inside) v
    (chars (body_in t body)) (chars suffix)) → suffix_in t body ≡ suffix → IsBodyWithin t body → body.plain
    ≡ is_plain_body form kind (chars (body_in t body)) → body.lo
    ≡ front_len form kind (form_opener form kind ++ chars inside) v (chars (body_in t body)) (chars suffix) parts
    → IsQuotedAt kind t body
form_at form kind t inside v suffix body front parts suffix_is stands plain lo =
    let b = chars (body_in t body) in
    let At : List ℕ → List ℕ → Type 0 = λ z x. (p : PartsAre form kind z v b (chars x))
    × (body.lo ≡ front_len form kind z v b (chars x) p) in
    let whole = subst (λ z. At z suffix) (sym (front_sound (chars t) (form, kind, chars inside) front).text_is)
    (parts, lo) in
    let placed = subst (At (chars t)) (sym suffix_is) whole in
    record { form = form; value = v; parts = placed.0; plain_is = plain; lo_is = placed.1; stands = stands }

-- A text with a parse result is a literal of the kind that the parse result has.
pub found_reads : (t : List ℕ) (f : Found) → IsFound t f → ReadsAs f.kind (chars t)
found_reads t f h = (h.reads.0, chars (suffix_in t f.body), h.reads.1)

-- ---- numbers

abbrev pub NumberBody : ℕ → Bool → Body
NumberBody n plain = record { lo = 0; hi = n; suffix_at = n; plain = plain }

-- A text is split at the byte offset n into the body b and the suffix x of a number.
record Cut (t b x : List ℕ) (n : ℕ) : Type 0 where
  pub body_is : take (n - 0) (drop 0 t) ≡ b
  pub suffix_is : drop n t ≡ x
  pub boundary : IsCharBoundary t n
  pub chars_cut : chars t ≡ chars b ++ chars x

number_cut : (t b x : List ℕ) (n : ℕ) → IsUtf8 b → IsTail t x → t ≡ b ++ x → n ≡ length b → Cut t b x n
number_cut t b x n ub following e n_is =
    let long : n - 0 ≡ length b = omega (arith, n_is) in
    record {
      body_is = ap (λ k. take k (drop 0 t)) long ∙ ap (λ z. take (length b) (drop 0 z)) e ∙ take-append_seam b x;
      suffix_is = ap (λ k. drop k t) n_is ∙ ap (drop (length b)) e ∙ drop-append_seam b x;
      boundary = subst (λ k. IsCharBoundary t k) (sym n_is) (IsCharBoundary-at_seam t b x e following.is_text);
      chars_cut = ap chars e ∙ chars-append b x ub;
    }

number_stands : (t : List ℕ) (n : ℕ) (plain : Bool) → IsUtf8 t → IsCharBoundary t n → IsBodyWithin t (NumberBody n plain)
number_stands t n plain u h = record { ordered = omega arith; begins = IsCharBoundary-start t u; ends = h; following = h }

integer_body : (t b x : List ℕ) (m n : ℕ) (plain : Bool) → IsUtf8 t → IsUtf8 b → HasMagnitude (chars t) m (chars x)
    → IsTail t x → t ≡ b ++ x → n ≡ length b → plain ≡ is_plain_integer (chars b)
    → IsFound t (Of Int (NumberBody n plain) m)
integer_body t b x m n plain ut ub within following e n_is plain_is =
    let c = number_cut t b x n ub following e n_is in
    let at : HasMagnitude (chars t) m (chars (drop n t)) = subst (λ z. HasMagnitude (chars t) m (chars z))
    (sym c.suffix_is) within in
    let cut : IsSplitInteger (chars t) m (chars b) = record { suffix = chars x; within = within; cut = c.chars_cut } in
    record {
      reads = within_reads (chars t) (chars (drop n t)) m at;
      cut = e ∙ sym (ap₂ (λ y z. y ++ z) c.body_is c.suffix_is);
      stands = number_stands t n plain ut c.boundary;
      plain = whether_integer t b m plain ut ub cut plain_is;
      quoted = λ h. absurd (cc);
      integer = λ h. at;
      no_magnitude = λ h. absurd (h refl);
      truth = λ e. absurd (cc);
      no_truth = λ n. refl;
      unit = λ s. absurd (cc);
      no_unit = λ b c. refl;
    }

pub integer_found : (t b x : List ℕ) (m n : ℕ) (plain : Bool) (body : Body) → body ≡ NumberBody n plain → IsUtf8 t
    → IsUtf8 b → HasMagnitude (chars t) m (chars x) → IsTail t x → t ≡ b ++ x → n ≡ length b → plain
    ≡ is_plain_integer (chars b) → IsFound t (Of Int body m)
integer_found t b x m n plain body body_is ut ub within following e n_is plain_is = subst (λ z. IsFound t (Of Int z m))
    (sym body_is) (integer_body t b x m n plain ut ub within following e n_is plain_is)

float_body : (t b x numeral : List ℕ) (n : ℕ) (plain : Bool) → IsUtf8 t → IsUtf8 b
    → FloatReads (chars t) numeral (chars x) → IsTail t x → t ≡ b ++ x → n ≡ length b → plain ≡ is_plain_float (chars b)
    → IsFoundFloat t (Of Float (NumberBody n plain) 0)
float_body t b x numeral n plain ut ub reads following e n_is plain_is =
    let c = number_cut t b x n ub following e n_is in
    let same : numeral ≡ chars b = append_cancel_right numeral (chars b) (chars x) (sym reads.text_is ∙ c.chars_cut) in
    let r : FloatReads (chars t) (chars b) (chars x) = subst (λ z. FloatReads (chars t) z (chars x)) same reads in
    record {
      kind = refl;
      reads = subst (λ z. FloatReads (chars t) (chars z) (chars (drop n t))) (sym c.body_is)
          (subst (λ z. FloatReads (chars t) (chars b) (chars z)) (sym c.suffix_is) r);
      cut = e ∙ sym (ap₂ (λ y z. y ++ z) c.body_is c.suffix_is);
      stands = number_stands t n plain ut c.boundary;
      plain = whether_float t b (chars x) plain ut ub r plain_is;
      no_magnitude = refl;
      no_truth = refl;
      no_unit = refl;
    }

pub float_found : (t b x numeral : List ℕ) (n : ℕ) (plain : Bool) (body : Body) → body ≡ NumberBody n plain → IsUtf8 t
    → IsUtf8 b → FloatReads (chars t) numeral (chars x) → IsTail t x → t ≡ b ++ x → n ≡ length b → plain
    ≡ is_plain_float (chars b) → IsFoundFloat t (Of Float body 0)
float_found t b x numeral n plain body body_is ut ub reads following e n_is plain_is = subst
    (λ z. IsFoundFloat t (Of Float z 0)) (sym body_is) (float_body t b x numeral n plain ut ub reads following e n_is
    plain_is)

-- If a text is a float literal and not an integer, its parse result as a float is its parse result as a literal.
pub float_alone : (t : List ℕ) (f : Found) → HasNoInteger (chars t) → IsFoundFloat t f → IsFound t f
float_alone t f none h =
    let back = sym h.kind in
    record {
      reads = subst (λ k. HasSuffix k (chars t) (chars (suffix_in t f.body))) back (
        Digits (float_digits (chars (body_in t f.body))),
        record
            { numeral = chars (body_in t f.body); reads = h.reads; no_integer = none; contents_is = refl },
      );
      cut = subst (λ k. IsSplit k t (body_in t f.body) (suffix_in t f.body)) back h.cut;
      stands = h.stands;
      plain = subst (λ k. Whether f.body.plain k t) back h.plain;
      quoted = λ q. absurd (both_ways (is_quoted f.kind) (ap is_quoted h.kind) q);
      integer = λ e. absurd (cc);
      no_magnitude = λ n. h.no_magnitude;
      truth = λ e. absurd (cc);
      no_truth = λ n. h.no_truth;
      unit = λ s. absurd (both_ways (is_single f.kind) (ap is_single h.kind) s);
      no_unit = λ b c. h.no_unit;
    }

-- ---- `true` and `false`

abbrev pub OfTruth : Body → Bool → Found
OfTruth body b = record { kind = BoolKind; body = body; magnitude = 0; truth = b; unit = 0 }

pub truth_found : (t : List ℕ) (b : Bool) → IsUtf8 t → chars t ≡ truth_text b → t ≡ truth_text b
    → IsFound t (OfTruth (NumberBody (length t) false) b)
truth_found t b u e bytes =
    let nothing : drop (length t) t ≡ [] = drop-length t in
    record {
      reads = (Truth b, record { truth = b; text_is = e; suffix_is = ap chars nothing ∙ chars-nil; contents_is = refl });
      cut = (take_all t, nothing);
      stands = number_stands t (length t) false u (IsCharBoundary-end t);
      plain = ((λ h. absurd (cc)), (λ p. absurd p.reads));
      quoted = λ h. absurd (cc);
      integer = λ h. absurd (cc);
      no_magnitude = λ h. refl;
      truth = λ h. bytes;
      no_truth = λ h. absurd (h refl);
      unit = λ h. absurd (cc);
      no_unit = λ b c. refl;
    }
  where
    take_all : (xs : List ℕ) → take (length xs - 0) (drop 0 xs) ≡ xs
    take_all xs =
        let n : length xs - 0 ≡ length xs = omega arith in
        ap (λ k. take k (drop 0 xs)) n ∙ take-length xs

-- Two kinds that compare as equal are equal.
pub kinds_same : (a b : Kind) (r : Bool) → r ≡ sameb the_type a b → r ≡ true → a ≡ b
kinds_same a b r is true_r = same_true the_type (search rules) a b (sym is ∙ true_r)

-- Two kinds that compare as different aren't equal.
pub kinds_differ : (a b : Kind) (r : Bool) → r ≡ sameb the_type a b → r ≡ false → a ≡ b → ⊥
kinds_differ a b r is false_r same = let true_r : r ≡ true = is ∙ true_same the_type a b same in absurd (cc)
