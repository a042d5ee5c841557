-- A literal token is a number, `true` or `false`, or a quoted literal: an opening delimiter and the text after it.
use Rattle.rl_strict.proofs.Names.{◌≡◌, ℕ, ◌⊎◌, ◌||◌, Bool, true, false, ◌==◌, List, [], ◌∷◌, ◌++◌, Some, None, refl, sym, ap, subst, ◌∙◌, inl, inr, append_assoc, is_ascii_digit, flat_map, IsTrue, ◌↔◌, Kind, Str, ByteStr, CStr, Byte, Char, Int, Float, BoolKind, NoSign, opener, raw_opener, Contents, truth_text, strict_text, strict_contents, strict_content_of, replicate, codes, if◌then◌else◌, StrictCooked, StrictRaw, StrictInt, StrictFloat, Strict, strict_opener, strict_raw_opener, strict_closer, apart, begins_number, float_front, int_front, strict_int, float_strict_reads, between, QuotedForm, CookedForm, RawForm, SingleForm, has_form, form_opener, opener_at, IsToken, ClosesUnits, ClosesRaw, ClosesForm, front_complete, front_sound, HasStrictUnits, word_has_none, quoted_contents}
use Rattle.rl_lenient.proofs.Names.{Truth}
use Rattle.rl_strict.proofs.StrictRowLemmas.{quoted_string, quoted_single}

-- The text is a number of Rust's grammar.
abbrev pub IsStrictNumber : List ℕ → Type 0
IsStrictNumber text =
    (contents : Contents) × (suffix : List ℕ)
    × (StrictInt text contents suffix ⊎ StrictFloat text contents suffix)

-- ---- the opening delimiters are equal in both grammars

-- The opening delimiter of each kind of literal is equal in both grammars, Rust's and `syn`'s.
opener_is : (k : Kind) → opener k ≡ strict_opener k
opener_is Str = refl
opener_is other = refl

-- The prefix of each kind of raw string is equal in both grammars, Rust's and `syn`'s.
raw_opener_is : (k : Kind) → raw_opener k ≡ strict_raw_opener k
raw_opener_is Str = refl
raw_opener_is other = refl

-- ---- a quoted literal that is closed is a literal token

-- A quoted literal is a literal token of its kind.
quoted_strict : (t : List ℕ) (k : Kind) (v : Contents) (x : List ℕ) → HasStrictUnits k → StrictCooked t k v x
    ⊎ StrictRaw t k v x → Strict t k v x
quoted_strict t Str v x q s = s
quoted_strict t ByteStr v x q s = s
quoted_strict t CStr v x q s = s
quoted_strict t Byte v x q s = s
quoted_strict t Char v x q s = s
quoted_strict t kind v x q s = absurd q

-- An opening delimiter, characters and escapes, a closing quote and a suffix are a literal token.
units_token : (k : Kind) (t inside : List ℕ) → HasStrictUnits k → t ≡ opener k ++ inside → ClosesUnits k inside
    → IsToken t
units_token k t inside q text c =
    let v : Contents = quoted_contents k (flat_map (strict_contents (strict_content_of k)) c.units) in
    record {
      kind = k;
      contents = v;
      suffix = c.suffix;
      strict = quoted_strict t k v c.suffix q (inl (record {
        units = c.units;
        count = c.count;
        each = c.each;
        blanks_end = c.blanks_end;
        suffix = c.is_suffix;
        text = text ∙ ap (λ z. z ++ inside) (opener_is k) ∙ ap (λ z. strict_opener k ++ z) c.text_is
            ∙ sym (between (strict_opener k) (flat_map strict_text c.units) (strict_closer k) c.suffix);
        contents = refl;
      }));
    }

-- Concatenating the parts of a raw string from the left gives the text that concatenating them from the right gives.
raw_text : (o h i x : List ℕ) → ((((o ++ h) ++ (34 ∷ i)) ++ (34 ∷ h)) ++ x) ≡ o ++ (h ++ (34 ∷ (i ++ (34 ∷ (h ++ x)))))
raw_text o h i x = simp append_assoc

-- An opening delimiter, hashes, the content, the closing delimiter and a suffix are a literal token.
raw_token : (k : Kind) (t inside : List ℕ) → HasStrictUnits k → t ≡ raw_opener k ++ inside → ClosesRaw k inside
    → IsToken t
raw_token k t inside q text c =
    let i = c.closes in
    let h : List ℕ = replicate c.hashes 35 in
    let v : Contents = quoted_contents k (strict_content_of k i.inside) in
    record {
      kind = k;
      contents = v;
      suffix = i.suffix;
      strict = quoted_strict t k v i.suffix q (inr (record {
        hashes = c.hashes;
        inside = i.inside;
        few = c.few;
        allowed = i.allowed;
        no_carriage_return = i.no_carriage_return;
        first_close = λ f r e. i.first_close f r (e ∙ append_assoc f (34 ∷ h) r);
        suffix = i.is_suffix;
        text = text ∙ ap (λ z. z ++ inside) (raw_opener_is k) ∙ ap (λ z. strict_raw_opener k ++ z)
            (c.text_is ∙ ap (λ z. h ++ (34 ∷ z)) i.text_is) ∙ sym (raw_text (strict_raw_opener k) h i.inside i.suffix);
        contents = refl;
      }));
    }

-- The opening delimiter of any form and the text that ends the literal are a literal token.
pub close_token : (form : QuotedForm) (k : Kind) (t inside : List ℕ) → has_form form k ≡ true → t ≡ form_opener form k
    ++ inside → ClosesForm form k inside → IsToken t
close_token CookedForm k t inside h text c = units_token k t inside (quoted_string k h) text c
close_token SingleForm k t inside h text c = units_token k t inside (quoted_single k h) text c
close_token RawForm k t inside h text c = raw_token k t inside (quoted_string k h) text c

-- ---- the cases of a literal token

-- A quoted literal: its opening delimiter, and the text after it.
pub record Opened (t : List ℕ) : Type 0 where
  pub form : QuotedForm
  pub kind : Kind
  pub inside : List ℕ
  pub has : has_form form kind ≡ true
  pub text_is : t ≡ form_opener form kind ++ inside
  pub closes : ClosesForm form kind inside

-- The text is a quoted literal, a number, `true` or `false`.
abbrev pub Seen : List ℕ → Type 0
Seen t = Opened t ⊎ (IsStrictNumber t ⊎ ((b : Bool) × (t ≡ truth_text b)))

-- In a literal token with escapes, the text after the opening quote is characters and escapes, the closing quote and a
-- suffix.
units_closed : (k : Kind) (t : List ℕ) (v : Contents) (x : List ℕ) (s : StrictCooked t k v x)
    → ClosesUnits k (flat_map strict_text s.units ++ (strict_closer k ++ x))
units_closed k t v x s = record { units = s.units; suffix = x; count = s.count; each = s.each; blanks_end = s.blanks_end; is_suffix = s.suffix; text_is = refl }

-- A literal token with escapes begins with its opening quote. Characters and escapes, the closing quote and a suffix follow.
units_text : (k : Kind) (t : List ℕ) (v : Contents) (x : List ℕ) (s : StrictCooked t k v x) → t ≡ opener k
    ++ (flat_map strict_text s.units ++ (strict_closer k ++ x))
units_text k t v x s = s.text ∙ between (strict_opener k) (flat_map strict_text s.units) (strict_closer k) x
    ∙ ap (λ z. z ++ (flat_map strict_text s.units ++ (strict_closer k ++ x))) (sym (opener_is k))

-- A string with escapes is an opening delimiter and the text that ends the literal.
string_seen : (k : Kind) (t : List ℕ) (v : Contents) (x : List ℕ) → has_form CookedForm k ≡ true → StrictCooked t k v x
    → Seen t
string_seen k t v x h s = inl (record { form = CookedForm; kind = k; inside = flat_map strict_text s.units ++ (strict_closer k ++ x); has = h; text_is = units_text k t v x s; closes = units_closed k t v x s })

-- A character or byte literal is an opening delimiter and the text that ends the literal.
single_seen : (k : Kind) (t : List ℕ) (v : Contents) (x : List ℕ) → has_form SingleForm k ≡ true → StrictCooked t k v x
    → Seen t
single_seen k t v x h s = inl (record { form = SingleForm; kind = k; inside = flat_map strict_text s.units ++ (strict_closer k ++ x); has = h; text_is = units_text k t v x s; closes = units_closed k t v x s })

-- A raw string is an opening delimiter and the text that ends the literal.
raw_seen : (k : Kind) (t : List ℕ) (v : Contents) (x : List ℕ) → has_form RawForm k ≡ true → StrictRaw t k v x → Seen t
raw_seen k t v x has s =
    let h : List ℕ = replicate s.hashes 35 in
    let rest : List ℕ = s.inside ++ (34 ∷ (h ++ x)) in
    inl (record {
      form = RawForm;
      kind = k;
      inside = h ++ (34 ∷ rest);
      has = has;
      text_is = s.text ∙ raw_text (strict_raw_opener k) h s.inside x
          ∙ ap (λ z. z ++ (h ++ (34 ∷ rest))) (sym (raw_opener_is k));
      closes = record {
        hashes = s.hashes;
        few = s.few;
        rest = rest;
        closes = record {
          inside = s.inside;
          suffix = x;
          allowed = s.allowed;
          no_carriage_return = s.no_carriage_return;
          first_close = λ f r e. s.first_close f r (e ∙ sym (append_assoc f (34 ∷ h) r));
          is_suffix = s.suffix;
          text_is = refl;
        };
        text_is = refl;
      };
    })

-- The texts of `true` and `false` are equal in the definitions of both grammars, Rust's and `syn`'s.
pub truth_words : (b : Bool) → (if b then codes "true" else codes "false") ≡ truth_text b
truth_words true = refl
truth_words false = refl

-- Each literal token is a quoted literal, a number, `true` or `false`.
pub seen : (t : List ℕ) (k : Kind) (v : Contents) (x : List ℕ) → Strict t k v x → Seen t
seen t Str v x (inl s) = string_seen Str t v x refl s
seen t Str v x (inr s) = raw_seen Str t v x refl s
seen t ByteStr v x (inl s) = string_seen ByteStr t v x refl s
seen t ByteStr v x (inr s) = raw_seen ByteStr t v x refl s
seen t CStr v x (inl s) = string_seen CStr t v x refl s
seen t CStr v x (inr s) = raw_seen CStr t v x refl s
seen t Byte v x (inl s) = single_seen Byte t v x refl s
seen t Byte v x (inr s) = absurd s.allowed
seen t Char v x (inl s) = single_seen Char t v x refl s
seen t Char v x (inr s) = absurd s.allowed
seen t Int v x s = inr (inl (v, x, inl s))
seen t Float v x s = inr (inl (v, x, inr s))
seen t BoolKind v x s = inr (inr (s.truth, s.text ∙ truth_words s.truth))

-- ---- the beginning of a literal token identifies its form

-- A text that begins as a number has no opening delimiter.
number_front : (t : List ℕ) → begins_number t ≡ true → opener_at t ≡ None
unfolding opener_at
number_front [] h = absurd (cc)
number_front (c ∷ cs) h =
    let test : ℕ → Bool = λ c. is_ascii_digit c || (c == 45) in
    let a = apart test c 39 h refl in
    let b = apart test c 98 h refl in
    let d = apart test c 99 h refl in
    let e = apart test c 34 h refl in
    let f = apart test c 114 h refl in
    rw (a, b, d, e, f) refl

-- A number doesn't begin with an opening delimiter.
number_none : (t : List ℕ) → IsStrictNumber t → opener_at t ≡ None
number_none t (v, x, inl s) = let i = strict_int t x v s in number_front t (int_front t x NoSign i.magnitude i.reads)
number_none t (v, x, inr s) = let f = float_strict_reads t x v s in number_front t (float_front t f.numeral x f.reads)

-- The text after a quoted literal's opening delimiter ends a literal of the form and the kind that the delimiter identifies.
opened_told : (t : List ℕ) (p : QuotedForm × Kind × List ℕ) (o : Opened t) → opener_at t ≡ Some p
    → ClosesForm p.0 p.1 p.2
opened_told t p o h =
    let front : Some p ≡ Some (o.form, o.kind, o.inside) = sym h ∙ ap opener_at o.text_is
    ∙ front_complete o.form o.kind o.inside o.has in
    let same : (o.form, o.kind, o.inside) ≡ p = cc in
    subst (λ (q : QuotedForm × Kind × List ℕ). ClosesForm q.0 q.1 q.2) same o.closes

-- A text with an opening delimiter is a literal token if and only if the text after the delimiter ends the literal.
pub told_token : (t : List ℕ) (p : QuotedForm × Kind × List ℕ) (b : Bool) → Some p ≡ opener_at t
    → IsTrue b ↔ ClosesForm p.0 p.1 p.2 → IsTrue b ↔ IsToken t
told_token t p b h same =
    let tells = front_sound t p (sym h) in
    let none : opener_at t ≡ None → ⊥ = λ e. let f : Some p ≡ None = h ∙ e in absurd (cc) in (
      λ y. close_token p.0 p.1 t p.2 tells.has tells.text_is (same.0 y),
      λ c. elim (seen t c.kind c.contents c.suffix c.strict) [
        | inl o ↦ same.1 (opened_told t p o (sym h))
        | inr w ↦ elim w [
          | inl n ↦ absurd (none (number_none t n))
          | inr v ↦ absurd (none (ap opener_at v.1 ∙ word_has_none v.0))
        ]
      ],
    )

-- A number is a literal token.
pub number_token : (t : List ℕ) → IsStrictNumber t → IsToken t
number_token t (v, x, inl s) = record { kind = Int; contents = v; suffix = x; strict = s }
number_token t (v, x, inr s) = record { kind = Float; contents = v; suffix = x; strict = s }

-- `true` and `false` are literal tokens.
pub truth_token : (t : List ℕ) (b : Bool) → t ≡ truth_text b → IsToken t
truth_token t b e = record { kind = BoolKind; contents = Truth b; suffix = []; strict = record { truth = b; text = e ∙ sym (truth_words b); contents = refl; suffix = refl } }
