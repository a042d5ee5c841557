-- The split of a quoted literal's characters into parts is also a split of its bytes.
use Rattle.rl_syntax.proofs.Common.{◌≡◌, ℕ, zero, suc, List, [], ◌∷◌, ◌++◌, replicate, refl, sym, ap, ◌∙◌, inl, inr, arith, encode_utf8_all, IsAscii, IsUtf8, encodes-chars, encodes-append}
use Rattle.rl_lenient.proofs.Names.{Kind, Str, ByteStr, CStr, Byte, Char, Int, Float, BoolKind, opener, raw_opener}
use Rattle.std.specs.Str.{chars}
use Rattle.std.proofs.lemmas.Str.{IsUtf8-append, IsUtf8-from_ascii}
use Rattle.rl_lenient.specs.declared.quoted_forms.QuotedForm.{QuotedForm}
use Rattle.rl_lenient.specs.declared.quoted_forms.QuotedForm.TheVariants.{Cooked as CookedForm, Raw as RawForm, Single as SingleForm}
use Rattle.rl_lenient.specs.Forms.{PartsAre}
use Rattle.rl_lenient.specs.Shapes.{IsCookedSplit, IsQuotedSplit}

-- ---- opening delimiters, quotes and hashes are ASCII

opener_bytes : (kind : Kind) → encode_utf8_all (opener kind) ≡ opener kind
unfolding lib.Utf8.encode
opener_bytes Str = refl
opener_bytes ByteStr = refl
opener_bytes CStr = refl
opener_bytes Byte = refl
opener_bytes Char = refl
opener_bytes Int = refl
opener_bytes Float = refl
opener_bytes BoolKind = refl

raw_opener_bytes : (kind : Kind) → encode_utf8_all (raw_opener kind) ≡ raw_opener kind
unfolding lib.Utf8.encode
raw_opener_bytes Str = refl
raw_opener_bytes ByteStr = refl
raw_opener_bytes CStr = refl
raw_opener_bytes Byte = refl
raw_opener_bytes Char = refl
raw_opener_bytes Int = refl
raw_opener_bytes Float = refl
raw_opener_bytes BoolKind = refl

pub hashes_bytes : (n : ℕ) → encode_utf8_all (replicate n 35) ≡ replicate n 35
unfolding lib.Utf8.encode
hashes_bytes zero = refl
hashes_bytes (suc n) = ap (λ z. 35 ∷ z) (hashes_bytes n)

double_bytes : (cs : List ℕ) → encode_utf8_all (34 ∷ cs) ≡ 34 ∷ encode_utf8_all cs
unfolding lib.Utf8.encode
double_bytes cs = refl

quote_bytes : (cs : List ℕ) → encode_utf8_all (39 ∷ cs) ≡ 39 ∷ encode_utf8_all cs
unfolding lib.Utf8.encode
quote_bytes cs = refl

-- ---- the parts of a literal, joined as bytes

-- The bytes of two joined texts, where the first is ASCII, are the characters of the first text and the bytes of the second
-- text.
front_bytes : (front cs bs : List ℕ) → encode_utf8_all front ≡ front → encode_utf8_all cs ≡ bs
    → encode_utf8_all (front ++ cs) ≡ front ++ bs
front_bytes front cs bs f e = encodes-append front cs ∙ ap (λ z. z ++ encode_utf8_all cs) f ∙ ap (λ z. front ++ z) e

text_bytes : (xs cs bs : List ℕ) → IsUtf8 xs → encode_utf8_all cs ≡ bs → encode_utf8_all (chars xs ++ cs) ≡ xs ++ bs
text_bytes xs cs bs u e = encodes-append (chars xs) cs ∙ ap (λ z. z ++ encode_utf8_all cs) (encodes-chars xs u)
    ∙ ap (λ z. xs ++ z) e

-- A UTF-8 text is the encoding of its characters.
whole : (t cs bs : List ℕ) → IsUtf8 t → chars t ≡ cs → encode_utf8_all cs ≡ bs → t ≡ bs
whole t cs bs u e b = sym (encodes-chars t u) ∙ ap encode_utf8_all e ∙ b

pub cooked_cut : (kind : Kind) (t v b x : List ℕ) → IsUtf8 t → IsUtf8 b → IsUtf8 x
    → PartsAre CookedForm kind (chars t) v (chars b) (chars x) → IsCookedSplit kind t b x
cooked_cut kind t v b x ut ub ux p =
    let c = p.0 in
    let text : chars t ≡ opener kind ++ (chars b ++ (34 ∷ chars x)) = c.text_is
    ∙ ap (λ z. opener kind ++ (z ++ (34 ∷ chars x))) (sym p.1) in
    let closer = double_bytes (chars x) ∙ ap (λ z. 34 ∷ z) (encodes-chars x ux) in
    record { string = c.string; text_is = whole t _ _ ut text (front_bytes (opener kind) _ _ (opener_bytes kind) (text_bytes b _ _ ub closer)) }

pub parts_cut : (form : QuotedForm) (kind : Kind) (t v b x : List ℕ) → IsUtf8 t → IsUtf8 b → IsUtf8 x
    → PartsAre form kind (chars t) v (chars b) (chars x) → IsQuotedSplit kind t b x
parts_cut CookedForm kind t v b x ut ub ux p = inl (cooked_cut kind t v b x ut ub ux p)
parts_cut RawForm kind t v b x ut ub ux p =
    let r = p.0 in
    let n = r.hashes in
    let hashes = replicate n 35 in
    let text : chars t ≡ raw_opener kind ++ (hashes ++ (34 ∷ (chars b ++ (34 ∷ (hashes ++ chars x))))) = r.text_is
    ∙ ap (λ z. raw_opener kind ++ (hashes ++ (34 ∷ (z ++ (34 ∷ (hashes ++ chars x)))))) (sym p.1) in
    let suffix = front_bytes hashes (chars x) x (hashes_bytes n) (encodes-chars x ux) in
    let closer = double_bytes (hashes ++ chars x) ∙ ap (λ z. 34 ∷ z) suffix in
    let inside = text_bytes b _ _ ub closer in
    let opened = double_bytes (chars b ++ (34 ∷ (hashes ++ chars x))) ∙ ap (λ z. 34 ∷ z) inside in
    inr (inl (record { string = r.string; hashes = n; text_is = whole t _ _ ut text (front_bytes (raw_opener kind) _ _ (raw_opener_bytes kind) (front_bytes hashes _ _ (hashes_bytes n) opened)) }))
parts_cut SingleForm kind t v b x ut ub ux p =
    let s = p.0 in
    let text : chars t ≡ opener kind ++ (chars b ++ (39 ∷ chars x)) = s.text_is
    ∙ ap (λ z. opener kind ++ (z ++ (39 ∷ chars x))) (sym p.1) in
    let closer = quote_bytes (chars x) ∙ ap (λ z. 39 ∷ z) (encodes-chars x ux) in
    inr (inr (record { single = s.single; text_is = whole t _ _ ut text (front_bytes (opener kind) _ _ (opener_bytes kind) (text_bytes b _ _ ub closer)) }))

-- A quote is ASCII.
quote_ascii : IsAscii (34 ∷ [])
quote_ascii zero = omega arith
quote_ascii (suc i) = omega arith

pub closed_cut : (t b x : List ℕ) → IsUtf8 t → IsUtf8 b → IsUtf8 x → chars t ≡ chars b ++ (34 ∷ chars x)
    → (t ≡ b ++ (34 ∷ x)) × IsUtf8 (34 ∷ x)
closed_cut t b x ut ub ux e = (
  whole t _ _ ut e (text_bytes b _ _ ub (double_bytes (chars x) ∙ ap (λ z. 34 ∷ z) (encodes-chars x ux))),
  IsUtf8-append (34 ∷ []) x (IsUtf8-from_ascii (34 ∷ []) quote_ascii) ux,
)
