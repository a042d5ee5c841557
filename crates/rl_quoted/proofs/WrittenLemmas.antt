-- Lemmas about the byte offsets of the parts of a literal that was written from its value.
use Rattle.rl_lenient.proofs.Names.{Byte, ByteStr, CStr, Char, Contents, Cooked, Float, Int, Kind, Reads, ReadsQuoted, Single, Str, is_single, is_string, opener, quoted_contents, texts, unit_text}
use Rattle.rl_syntax.proofs.Common.{Bool, IsCharBoundary, IsTrue, IsUtf8, List, [], ap, append_assoc, arith, both_ways, chars, chars-nil, drop, encodes-append, encodes-chars, false, inl, inr, length, length-append, length-encode, refl, subst, sym, take, take-append_seam, true, ℕ, ◌++◌, ◌+◌, ◌-◌, ◌<◌, ◌∙◌, ◌∷◌, ◌≡◌, ◌≤◌}
use Rattle.std.proofs.Math.Seq.{drop-append_seam, drop-length}
use Rattle.std.proofs.Math.Utf8.{scalars}
use Rattle.std.specs.Prelude.{◌↔◌, encode_utf8_all}
use Rattle.std.proofs.lemmas.Str.{IsCharBoundary-at_seam, IsCharBoundary-end, IsUtf8-append, chars-encodes, scalars-chars, len_utf8_ascii}
use Rattle.rl_syntax.specs.declared.kind.Kind.TheVariants.{Bool as BoolKind}
use Rattle.rl_syntax.specs.Written.{IsWrittenForm}
use Rattle.rl_syntax.proofs.Basics.{scalars_parts}
use Rattle.rl_lenient.specs.declared.found.Body.{Body}
use Rattle.rl_lenient.specs.Decoded.{in_bytes}
use Rattle.rl_lenient.specs.Founds.{IsQuotedAt, IsBodyWithin, body_in, suffix_in, is_quoted}
use Rattle.rl_lenient.specs.Forms.{PartsAre, front_len, is_plain_body}
use Rattle.rl_lenient.proofs.BodyLemmas.{openers_differ, cooked_other, cooked_shortens}
use Rattle.rl_lenient.proofs.ContentLemmas.{plain_bytes}
use Rattle.rl_lenient.proofs.FormLemmas.{HasParts, cooked_has, single_has}
use Rattle.rl_lenient.proofs.FoundLemmas.{body_text, quoted_whole}
use Rattle.rl_quoted.specs.Places.{IsWrittenAs, HasPartsAt}

-- ---- lemmas about the characters of a written literal

quoted_reading : (kind : Kind) (t : List ℕ) (v : Contents) (x : List ℕ) → is_quoted kind ≡ true → Reads t kind v x
    → ReadsQuoted t kind v x
quoted_reading Str t v x q r = r
quoted_reading ByteStr t v x q r = r
quoted_reading CStr t v x q r = r
quoted_reading Byte t v x q r = r
quoted_reading Char t v x q r = r
quoted_reading kind t v x q r = absurd (cc)

one_value : (kind : Kind) (v w : List ℕ) → quoted_contents kind v ≡ quoted_contents kind w → v ≡ w
one_value Str v w e = cc
one_value ByteStr v w e = cc
one_value CStr v w e = cc
one_value Byte v w e = cc
one_value Char v w e = cc
one_value Int v w e = cc
one_value Float v w e = cc
one_value BoolKind v w e = cc

-- A written literal consists of its opening delimiter, the text inside, and a closing quote of one byte.
record Enclosed (kind : Kind) (t value : List ℕ) : Type 0 where
  pub inside : List ℕ
  pub quote : ℕ
  pub ascii : quote < 128
  pub text_is : t ≡ opener kind ++ (inside ++ (quote ∷ []))
  pub reads : ReadsQuoted t kind (quoted_contents kind value) []
  pub value_is : reads.value ≡ value
  pub has : HasParts kind t value inside []

not_single : (kind : Kind) → is_string kind ≡ true → is_single kind ≡ false
not_single Str s = refl
not_single ByteStr s = refl
not_single CStr s = refl
not_single Byte s = absurd (cc)
not_single Char s = absurd (cc)
not_single Int s = refl
not_single Float s = refl
not_single BoolKind s = refl

of_cooked : (kind : Kind) (t v : List ℕ) → Cooked kind t v [] → Enclosed kind t v
of_cooked kind t v c = record {
  inside = texts c.units;
  quote = 34;
  ascii = omega arith;
  text_is = c.text_is;
  reads = record { value = v; form = inl c; contents_is = refl };
  value_is = refl;
  has = cooked_has kind t v [] c (not_single kind c.string);
}

of_single : (kind : Kind) (t v : List ℕ) → Single kind t v [] → Enclosed kind t v
of_single kind t v s = record {
  inside = unit_text s.unit;
  quote = 39;
  ascii = omega arith;
  text_is = s.text_is;
  reads = record { value = v; form = inr (inr s); contents_is = refl };
  value_is = refl;
  has = single_has kind t v [] s;
}

enclosed : (kind : Kind) (t v : List ℕ) → is_quoted kind ≡ true → IsWrittenForm kind v t → Enclosed kind t v
enclosed kind t v q w =
    let r = quoted_reading kind t (quoted_contents kind v) [] q w.reads in
    let same : v ≡ r.value = one_value kind v r.value r.contents_is in
    elim r.form [
      | inl c ↦ of_cooked kind t v (subst (λ z. Cooked kind t z []) (sym same) c)
      | inr other ↦ elim other [
        | inl raw ↦ absurd (openers_differ kind _ _ raw.string (sym w.text_is ∙ raw.text_is))
        | inr s ↦ of_single kind t v (subst (λ z. Single kind t z []) (sym same) s)
      ]
    ]

-- ---- lemmas about the bytes of a written literal

opener_long : (kind : Kind) → length (encode_utf8_all (opener kind)) ≡ length (opener kind)
unfolding lib.Utf8.encode
opener_long Str = refl
opener_long ByteStr = refl
opener_long CStr = refl
opener_long Byte = refl
opener_long Char = refl
opener_long Int = refl
opener_long Float = refl
opener_long BoolKind = refl

one_long : (c : ℕ) → c < 128 → length (encode_utf8_all (c ∷ [])) ≡ 1
one_long c h = omega (arith, length-append {A = ℕ}, length-encode c, len_utf8_ascii c h)

-- The byte offsets of a written literal's parts: the body is between the opening delimiter and the last byte, and the
-- suffix is empty.
record AtEnds (kind : Kind) (t : List ℕ) (body : Body) : Type 0 where
  pub at : body.lo ≡ length (opener kind)
  pub end_at : body.hi ≡ length t - 1
  pub suffix_at : body.suffix_at ≡ length t

record Between (t inside : List ℕ) (body : Body) : Type 0 where
  pub body_is : chars (body_in t body) ≡ inside
  pub suffix_is : chars (suffix_in t body) ≡ []
  pub stands : IsBodyWithin t body

-- The bytes of a written literal are those of its opening delimiter, its body, and one byte for the closing quote.
record Lengths (kind : Kind) (t : List ℕ) : Type 0 where
  pub front : List ℕ
  pub body : List ℕ
  pub back : List ℕ
  pub whole : t ≡ front ++ (body ++ back)
  pub front_long : length front ≡ length (opener kind)
  pub back_long : length back ≡ 1

abbrev lengths : (kind : Kind) (t v : List ℕ) (e : Enclosed kind (chars t) v) → IsUtf8 t → Lengths kind t
lengths kind t v e u =
    let quote = e.quote ∷ [] in
    record {
      front = encode_utf8_all (opener kind);
      body = encode_utf8_all e.inside;
      back = encode_utf8_all quote;
      whole = sym (encodes-chars t u) ∙ ap encode_utf8_all e.text_is ∙ encodes-append (opener kind) (e.inside ++ quote)
          ∙ ap (λ z. encode_utf8_all (opener kind) ++ z) (encodes-append e.inside quote);
      front_long = opener_long kind;
      back_long = one_long e.quote e.ascii;
    }

between : (kind : Kind) (t v : List ℕ) (e : Enclosed kind (chars t) v) (body : Body) → IsUtf8 t → AtEnds kind t body
    → Between t e.inside body
between kind t v e body u ends =
    let l = lengths kind t v e u in
    let quote = e.quote ∷ [] in
    let all : scalars (opener kind ++ (e.inside ++ quote)) ≡ true = subst (λ z. scalars z ≡ true) e.text_is
    (scalars-chars t u) in
    let inner = scalars_parts e.inside quote (scalars_parts (opener kind) (e.inside ++ quote) all).1 in
    let u_body : IsUtf8 l.body = (e.inside, (inner.0, refl)) in
    let u_back : IsUtf8 l.back = (quote, (inner.1, refl)) in
    let total : length t ≡ length l.front + (length l.body + length l.back) = omega
    (arith, ap length l.whole, length-append l.front (l.body ++ l.back), length-append l.body l.back) in
    let at : body.lo ≡ length l.front = omega (arith, ends.at, l.front_long) in
    let end_at : body.hi ≡ length (l.front ++ l.body) = omega (
      arith,
      ends.end_at,
      total,
      l.back_long,
      length-append
          l.front l.body,
    ) in
    let long : body.hi - body.lo ≡ length l.body = omega (arith, at, end_at, length-append l.front l.body) in
    let from_body : drop body.lo t ≡ l.body ++ l.back = ap (λ z. drop body.lo z) l.whole
    ∙ ap (λ n. drop n (l.front ++ (l.body ++ l.back))) at ∙ drop-append_seam l.front (l.body ++ l.back) in
    let inside : body_in t body ≡ l.body = ap (λ z. take (body.hi - body.lo) z) from_body
    ∙ ap (λ n. take n (l.body ++ l.back)) long ∙ take-append_seam l.body l.back in
    let following : suffix_in t body ≡ [] = ap (λ n. drop n t) ends.suffix_at ∙ drop-length t in
    record {
      body_is = ap chars inside ∙ chars-encodes e.inside inner.0;
      suffix_is = ap chars following ∙ chars-nil;
      stands = record {
        ordered = omega (arith, at, end_at, length-append l.front l.body);
        begins = subst (IsCharBoundary t) (sym at) (IsCharBoundary-at_seam t l.front (l.body ++ l.back) l.whole
            (IsUtf8-append l.body l.back u_body u_back));
        ends = subst (IsCharBoundary t) (sym end_at) (IsCharBoundary-at_seam t (l.front ++ l.body) l.back
            (l.whole ∙ sym (append_assoc l.front l.body l.back)) u_back);
        following = subst (IsCharBoundary t) (sym ends.suffix_at) (IsCharBoundary-end t);
      };
    }

-- ---- lemmas for the contract of the function `written_body`

-- A written literal is at least as long as its opening delimiter and its closing quote.
pub written_long : (kind : Kind) (t bytes : List ℕ) → IsUtf8 t → is_quoted kind ≡ true
    → IsWrittenAs kind bytes (chars t) → length (opener kind) + 1 ≤ length t
written_long kind t bytes u q w =
    let l = lengths kind t w.value (enclosed kind (chars t) w.value q w.written) u in
    omega (
      arith,
      ap length l.whole,
      length-append l.front (l.body ++ l.back),
      length-append l.body l.back,
      l.front_long,
      l.back_long,
    )

-- The flag `plain` is `true` exactly if the literal is of a kind of strings and the bytes of its body equal the bytes
-- of its value.
abbrev Whole : Kind → Bool → List ℕ → List ℕ → Type 0
Whole kind plain body bytes = IsTrue plain ↔ (IsTrue (is_string kind) × (body ≡ bytes))

same_bools : (p q : Bool) → (p ≡ true → q ≡ true) → (q ≡ true → p ≡ true) → p ≡ q
same_bools true q f g = sym (f refl)
same_bools false true f g = g refl
same_bools false false f g = refl

not_false : (z : Bool) → (z ≡ false → ⊥) → z ≡ true
not_false true n = refl
not_false false n = absurd (n refl)

single_of : (kind : Kind) → is_quoted kind ≡ true → is_string kind ≡ false → is_single kind ≡ true
single_of kind q s = cc

-- The parts of a written literal are at the byte offsets that `written_body` returns.
pub written_at : (kind : Kind) (t bytes : List ℕ) (body : Body) → IsUtf8 t → is_quoted kind ≡ true
    → IsWrittenAs kind bytes (chars t) → body.lo ≡ length (opener kind) → body.hi ≡ length t - 1 → body.suffix_at
    ≡ length t → Whole kind body.plain (body_in t body) bytes → HasPartsAt kind t body
written_at kind t bytes body u q w at end_at suffix_at whole =
    let e = enclosed kind (chars t) w.value q w.written in
    let b = between kind t w.value e body u (record { at = at; end_at = end_at; suffix_at = suffix_at }) in
    let f = e.has in
    let inside = body_in t body in
    let following = suffix_in t body in
    let At : List ℕ → List ℕ → Type 0 = λ y x. (p : PartsAre f.form kind (chars t) w.value y x)
    × (body.lo ≡ front_len f.form kind (chars t) w.value y x p) in
    let placed : At (chars inside) (chars following) = subst (λ z. At z (chars following)) (sym b.body_is)
    (subst (At e.inside) (sym b.suffix_is) (f.parts, at ∙ sym f.front)) in
    let parts = placed.0 in
    let told : body.plain ≡ is_plain_body f.form kind (chars inside) = go e parts (body_text t body u b.stands)
    (is_string kind) refl in
    let quoted : IsQuotedAt kind t body = record { form = f.form; value = w.value; parts = parts; plain_is = told; lo_is = placed.1; stands = b.stands } in
    let all = quoted_whole t kind body u quoted in
    record { reads = all.reads; stands = quoted.stands; plain = all.plain; quoted = λ h. quoted }
  where
    go : (e : Enclosed kind (chars t) w.value) → PartsAre e.has.form kind (chars t) w.value (chars (body_in t body))
        (chars (suffix_in t body)) → IsUtf8 (body_in t body) → (s : Bool) → is_string kind ≡ s → body.plain
        ≡ is_plain_body e.has.form kind (chars (body_in t body))
    go e p ub true s = same_bools _ _
        (λ h. not_false _ (λ other. let (cooked, fails) = cooked_other e.has.form kind (chars t) w.value _ _ s other p
        in omega (
          arith,
          cooked_shortens kind (chars t) w.value _ _ fails ub cooked,
          ap length
              ((whole.0 h).1 ∙ w.bytes_are),
        )))
        (λ h. whole.1 (
          s,
          plain_bytes (chars t) e.has.form kind w.value _ _ h ub p kind _ _ s e.reads
              ∙ ap (in_bytes kind) e.value_is ∙ sym w.bytes_are,
        ))
    go e p ub false s = same_bools _ _
        (λ h. absurd (both_ways (is_string kind) s (whole.0 h).0))
        (λ h. absurd (both_ways (is_plain_body e.has.form kind (chars (body_in t body)))
        (e.has.single (single_of kind q s) _) h))
