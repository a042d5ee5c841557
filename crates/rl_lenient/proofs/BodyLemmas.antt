-- The body of a string literal is its value byte for byte, or it is longer than the value.
use Rattle.rl_syntax.proofs.Common.{◌≡◌, ℕ, ◌<◌, ◌≤◌, ◌⊎◌, inl, inr, Bool, true, false, not, ltb, ◌==◌, drop, List, [], ◌∷◌, ◌++◌, length, refl, sym, ap, subst, ◌∙◌, arith, encode_utf8_all, AllByRecursion, list_all, IsUtf8, append_cancel_right, and_from, and_parts, both_ways, or_right, encodes-append, encodes-chars, length-encode}
use Rattle.rl_lenient.proofs.Names.{append_cancel_left, Kind, Str, ByteStr, CStr, first_passes, Contents, Characters, Bytes, ReadsQuoted, quoted_contents, QuotedUnit, Letter, Plain, CrLf, Named, Hex, Unicode, Continuation, LowerN, LowerR, LowerT, Backslash, Apostrophe, Quote, Zero, letter_value, unit_text, unit_value, hex_value, unicode_value, decodes_to_chars, content_of, allows_code, is_string, is_plain, IsUnit, opener, raw_opener, texts, values}
use Rattle.std.proofs.Common.{length-append}
use Rattle.std.specs.Str.{chars}
use Rattle.std.proofs.lemmas.Str.{length-le-encodes, len_utf8_bounds}
use Rattle.rl_lenient.specs.declared.quoted_forms.QuotedForm.{QuotedForm}
use Rattle.rl_lenient.specs.declared.quoted_forms.QuotedForm.TheVariants.{Cooked as CookedForm, Raw as RawForm, Single as SingleForm}
use Rattle.rl_lenient.specs.declared.units.Piece.TheVariants.{Byte}
use Rattle.rl_lenient.specs.Mirrors.UnitAt.{IsHeldBy}
use Rattle.rl_lenient.specs.Forms.{PartsAre, is_plain_body}
use Rattle.rl_lenient.specs.Shapes.{IsCookedSplit, IsQuotedSplit}
use Rattle.rl_lenient.specs.Decoded.{in_bytes, HoldsBytes}
use Rattle.rl_lenient.specs.WholeShapes.{IsSplit, IsPlain}
use Rattle.rl_lenient.proofs.ContentLemmas.{in_bytes_append, held_in_bytes, byte_in_bytes, nothing_in_bytes, plain_bytes, str_bytes}
use Rattle.rl_lenient.proofs.FormLemmas.{formed, parts_formed, parts_read, formed_once, not_both}
use Rattle.rl_lenient.proofs.ShapeLemmas.{cooked_cut, parts_cut}

-- ---- characters, escapes and their values

-- The text of a string's body consists of plain characters, or is longer than its value in bytes.
pub record Shrinks (kind : Kind) (text value : List ℕ) : Type 0 where
  pub no_longer : length (in_bytes kind value) ≤ length (encode_utf8_all text)
  pub which : (list_all (is_plain kind) text ≡ true) ⊎ (length (in_bytes kind value) < length (encode_utf8_all text))

shorter : (kind : Kind) (text value : List ℕ) → length (in_bytes kind value) < length text → Shrinks kind text value
shorter kind text value h = record { no_longer = omega (arith, length-le-encodes text); which = inr (omega (arith, length-le-encodes text)) }

one_byte_of : (kind : Kind) (n : ℕ) → IsHeldBy kind (Byte n) → length (in_bytes kind (n ∷ [])) ≡ 1
one_byte_of kind n h = ap length (byte_in_bytes kind n h)

letter_small : (l : Letter) → ltb (letter_value l) 128 ≡ true
letter_small LowerN = refl
letter_small LowerR = refl
letter_small LowerT = refl
letter_small Backslash = refl
letter_small Apostrophe = refl
letter_small Quote = refl
letter_small Zero = refl

few_bytes : (kind : Kind) (n : ℕ) → length (in_bytes kind (content_of kind (n ∷ []))) ≤ 4
few_bytes kind n = omega (
  arith,
  ap length (held_in_bytes kind (n ∷ [])),
  length-append {A = ℕ},
  length-encode n,
  len_utf8_bounds n,
)

unit_shrinks : (kind : Kind) (u : QuotedUnit) → IsUnit kind u → Shrinks kind (unit_text u) (unit_value kind u)
unit_shrinks kind (Plain c) h = record { no_longer = omega (arith, ap length (held_in_bytes kind (c ∷ []))); which = inl (and_from (is_plain kind c) true h refl) }
unit_shrinks kind CrLf h = shorter kind _ _ (omega (
  arith,
  one_byte_of kind 10
      (or_right (not (decodes_to_chars kind)) true refl),
))
unit_shrinks kind (Named l) h = shorter kind _ _ (omega (
  arith,
  one_byte_of kind (letter_value l)
      (or_right (not (decodes_to_chars kind)) _ (letter_small l)),
))
unit_shrinks kind (Hex high low) h = shorter kind _ _ (omega
    (arith, one_byte_of kind (hex_value high low) (and_parts (allows_code kind (hex_value high low)) _ h.2).1))
unit_shrinks kind (Unicode first more) h = shorter kind _ _ (omega
    (arith, few_bytes kind (unicode_value first more), length-append {A = ℕ}))
unit_shrinks kind (Continuation c run) h = shorter kind _ _ (omega (arith, ap length (nothing_in_bytes kind)))

all_join : (q : ℕ → Bool) (xs ys : List ℕ) → list_all q xs ≡ true → list_all q ys ≡ true → list_all q (xs ++ ys) ≡ true
all_join q [] ys h k = k
all_join q (x ∷ xs) ys h k = let parts = and_parts (q x) (list_all q xs) h in and_from (q x) (list_all q (xs ++ ys))
    parts.0 (all_join q xs ys parts.1 k)

join_shrinks : (kind : Kind) (s t v w : List ℕ) → Shrinks kind s v → Shrinks kind t w → Shrinks kind (s ++ t) (v ++ w)
join_shrinks kind s t v w a b =
    let values = ap length (in_bytes_append kind v w) ∙ length-append (in_bytes kind v) (in_bytes kind w) in
    let texts = ap length (encodes-append s t) ∙ length-append (encode_utf8_all s) (encode_utf8_all t) in
    record {
      no_longer = omega (arith, values, texts, a.no_longer, b.no_longer);
      which = elim a.which [
        | inr less ↦ inr (omega (arith, values, texts, less, b.no_longer))
        | inl plain ↦ elim b.which [
          | inr less ↦ inr (omega (arith, values, texts, less, a.no_longer))
          | inl too ↦ inl (all_join (is_plain kind) s t plain too)
        ]
      ];
    }

pub row_shrinks : (kind : Kind) (us : List QuotedUnit) → AllByRecursion (IsUnit kind) us
    → Shrinks kind (texts us) (values kind us)
row_shrinks kind [] each = record { no_longer = omega (arith, ap length (nothing_in_bytes kind)); which = inl refl }
row_shrinks kind (u ∷ us) each = join_shrinks kind (unit_text u) (texts us) (unit_value kind u) (values kind us)
    (unit_shrinks kind u each.0) (row_shrinks kind us each.1)

-- ---- strings

pub cooked_shortens : (kind : Kind) (t w b x : List ℕ) → list_all (is_plain kind) (chars b) ≡ false → IsUtf8 b
    → PartsAre CookedForm kind t w (chars b) x → length (in_bytes kind w) < length b
cooked_shortens kind t w b x other ub p =
    let us = p.0.units in
    let row = row_shrinks kind us p.0.each in
    elim row.which [
      | inl plain ↦ absurd (both_ways (list_all (is_plain kind) (texts us))
          (ap (list_all (is_plain kind)) (sym p.1) ∙ other) plain)
      | inr less ↦ omega (
        arith,
        less,
        ap (λ z. length (in_bytes kind z)) p.0.value_is,
        ap
            (λ z. length (encode_utf8_all z)) p.1,
        ap length (encodes-chars b ub),
      )
    ]

-- If the body of a string literal isn't plain (its own value), the string isn't raw.
pub cooked_other : (form : QuotedForm) (kind : Kind) (t w b x : List ℕ) → is_string kind ≡ true
    → is_plain_body form kind b ≡ false → PartsAre form kind t w b x → PartsAre CookedForm kind t w b x
    × (list_all (is_plain kind) b ≡ false)
cooked_other CookedForm kind t w b x s other p = (p, other)
cooked_other RawForm kind t w b x s other p = absurd (cc)
cooked_other SingleForm kind t w b x s other p = absurd (not_both kind s p.0.single)

-- ---- plain bodies

-- The text is a string literal of the kind. The bytes of its value are `body`, if `body` is UTF-8.
record HeldIn (kind : Kind) (t body x : List ℕ) : Type 0 where
  pub contents : Contents
  pub reads : ReadsQuoted (chars t) kind contents x
  pub held_are : IsUtf8 body → in_bytes kind reads.value ≡ body

characters_are : (v w : List ℕ) → Characters v ≡ Characters w → v ≡ w
characters_are v w e = cc

bytes_are : (v w : List ℕ) → Bytes v ≡ Bytes w → v ≡ w
bytes_are v w e = cc

held_in : (kind : Kind) (t : List ℕ) → is_string kind ≡ true → (p : IsPlain kind t) → HeldIn kind t p.body p.suffix
held_in Str t s p = record {
  contents = Characters (chars p.body);
  reads = p.reads;
  held_are = λ ub. ap encode_utf8_all (sym (characters_are (chars p.body) p.reads.value p.reads.contents_is))
      ∙ encodes-chars p.body ub;
}
held_in ByteStr t s p = record { contents = Bytes p.body; reads = p.reads; held_are = λ ub. sym (bytes_are p.body p.reads.value p.reads.contents_is) }
held_in CStr t s p = record { contents = Bytes p.body; reads = p.reads; held_are = λ ub. sym (bytes_are p.body p.reads.value p.reads.contents_is) }
held_in kind t s p = absurd (cc)

-- For the three kinds of strings, the definition `IsSplit` (a literal is split into body and suffix) is `IsQuotedSplit`.
string_cut : (kind : Kind) (t b x : List ℕ) → is_string kind ≡ true → IsSplit kind t b x → IsQuotedSplit kind t b x
string_cut Str t b x s c = c
string_cut ByteStr t b x s c = c
string_cut CStr t b x s c = c
string_cut kind t b x s c = absurd (cc)

abbrev is_quote : ℕ → Bool
is_quote c = c == 34

-- No text begins both like a string with escapes and like a raw string.
pub openers_differ : (kind : Kind) (a b : List ℕ) → is_string kind ≡ true → opener kind ++ a ≡ raw_opener kind ++ b → ⊥
openers_differ Str a b s e = let h : true ≡ false = ap (first_passes is_quote) e in absurd (cc)
openers_differ ByteStr a b s e = let h : true ≡ false = ap (λ l. first_passes is_quote (drop 1 l)) e in absurd (cc)
openers_differ CStr a b s e = let h : true ≡ false = ap (λ l. first_passes is_quote (drop 1 l)) e in absurd (cc)
openers_differ kind a b s e = absurd (cc)

-- A string literal that isn't raw can be split into body and suffix in only one way.
cut_once : (kind : Kind) (t b d x : List ℕ) → IsCookedSplit kind t b x → IsQuotedSplit kind t d x → b ≡ d
cut_once kind t b d x c q = elim q [
  | inl e ↦ append_cancel_right b d (34 ∷ x) (append_cancel_left (opener kind) (b ++ (34 ∷ x)) (d ++ (34 ∷ x))
      (sym c.text_is ∙ e.text_is))
  | inr other ↦ elim other [
    | inl r ↦ absurd (openers_differ kind _ _ c.string (sym c.text_is ∙ r.text_is))
    | inr s ↦ absurd (not_both kind c.string s.single)
  ]
]

-- If the body of a string literal isn't plain, the body isn't the literal's value byte for byte.
not_shorter : (form : QuotedForm) (kind : Kind) (t w b x : List ℕ) → is_string kind ≡ true
    → is_plain_body form kind (chars b) ≡ false → IsUtf8 t → IsUtf8 b → IsUtf8 x
    → PartsAre form kind (chars t) w (chars b) (chars x) → (p : IsPlain kind t) → encode_utf8_all p.suffix ≡ x
    → (IsUtf8 p.body → in_bytes kind w ≡ p.body) → ⊥
not_shorter form kind t w b x s other ut ub ux parts p suffix holds =
    let (cooked, fails) = cooked_other form kind (chars t) w (chars b) (chars x) s other parts in
    let same : b ≡ p.body = cut_once kind t b p.body x (cooked_cut kind t w b x ut ub ux cooked)
    (subst (λ z. IsQuotedSplit kind t p.body z) suffix (string_cut kind t p.body (encode_utf8_all p.suffix) s
    p.cut)) in
    omega (
      arith,
      cooked_shortens kind (chars t) w b (chars x) fails ub cooked,
      ap length
          (holds (subst IsUtf8 same ub) ∙ sym same),
    )

-- If the body of a string literal is plain, the text is a literal whose body is its value byte for byte (`IsPlain`).
pub plain_parts : (form : QuotedForm) (kind : Kind) (t w b x : List ℕ) → is_string kind ≡ true
    → is_plain_body form kind (chars b) ≡ true → IsUtf8 t → IsUtf8 b → IsUtf8 x
    → PartsAre form kind (chars t) w (chars b) (chars x) → IsPlain kind t
plain_parts form kind t w b x s plain ut ub ux p =
    let cut = subst (λ z. IsQuotedSplit kind t b z) (sym (encodes-chars x ux)) (parts_cut form kind t w b x ut ub ux p)
    in
    let reads = parts_read form kind (chars t) w (chars b) (chars x) p in
    go kind s p cut reads (plain_bytes (chars t) form kind w b (chars x) plain ub p)
  where
    go : (k : Kind) → is_string k ≡ true → PartsAre form k (chars t) w (chars b) (chars x)
        → IsQuotedSplit k t b (encode_utf8_all (chars x)) → ReadsQuoted (chars t) k (quoted_contents k w) (chars x)
        → HoldsBytes (chars t) b → IsPlain k t
    go Str s parts c r h = record { body = b; suffix = chars x; cut = c; reads = subst (λ v. ReadsQuoted (chars t) Str (Characters v) (chars x)) (str_bytes form (chars t) w b (chars x) b parts ub h).1 r }
    go ByteStr s parts c r h = record { body = b; suffix = chars x; cut = c; reads = subst (λ v. ReadsQuoted (chars t) ByteStr v (chars x)) (r.contents_is ∙ ap Bytes (sym (h ByteStr _ _ refl r))) r }
    go CStr s parts c r h = record { body = b; suffix = chars x; cut = c; reads = subst (λ v. ReadsQuoted (chars t) CStr v (chars x)) (r.contents_is ∙ ap Bytes (sym (h CStr _ _ refl r))) r }
    go kind s parts c r h = absurd (cc)

not_false : (z : Bool) → (z ≡ false → ⊥) → z ≡ true
not_false true n = refl
not_false false n = absurd (n refl)

-- The text `t` is a string literal of the kind `k` whose body is its value byte for byte (`IsPlain`). If `t` is split into
-- the parts of a literal of the kind `kind`, then `kind` is `k`, and the body passes the test `is_plain_body`.
pub parts_plain : (form : QuotedForm) (kind k : Kind) (t w b x : List ℕ) → is_string k ≡ true → IsUtf8 t → IsUtf8 b
    → IsUtf8 x → PartsAre form kind (chars t) w (chars b) (chars x) → IsPlain k t → (kind ≡ k)
    × (is_plain_body form kind (chars b) ≡ true)
parts_plain form kind k t w b x s ut ub ux parts p =
    let h = held_in k t s p in
    let same = formed_once (chars t) kind k w h.reads.value (chars x) p.suffix
    (parts_formed form kind (chars t) w (chars b) (chars x) parts) (formed (chars t) k h.contents p.suffix h.reads)
    in
    let of_kind = subst (λ l. PartsAre form l (chars t) w (chars b) (chars x)) same.0 parts in
    let suffix : encode_utf8_all p.suffix ≡ x = ap encode_utf8_all (sym same.2) ∙ encodes-chars x ux in
    let holds : IsUtf8 p.body → in_bytes k w ≡ p.body = λ u. ap (in_bytes k) same.1 ∙ h.held_are u in
    let plain = not_false (is_plain_body form k (chars b)) (λ other. not_shorter form k t w b x s other ut ub ux of_kind
    p suffix holds) in
    (same.0, subst (λ l. is_plain_body form l (chars b) ≡ true) (sym same.0) plain)
