-- The bytes of a rewritten quoted literal, as the code writes them.
use Rattle.rl_syntax.proofs.Common.{◌≡◌, ℕ, zero, suc, ◌+◌, ◌*◌, ◌<◌, ◌≤◌, Bool, true, false, List, [], ◌∷◌, ◌++◌, length, replicate, refl, sym, ap, subst, ◌∙◌, inl, inr, arith, append_assoc, append-nil, cases_lt, list_all, flat_map, encode_utf8, encode_utf8_all, encode_ascii, encodes-append, encodes-chars, chars-append, length-append, IsUtf8}
use Rattle.std.specs.Str.{chars}
use Rattle.std.proofs.Math.Utf8.{scalars}
use Rattle.std.proofs.lemmas.Str.{scalars-chars}
use Rattle.rl_lenient.proofs.Names.{Kind, Str, ByteStr, CStr, Byte, Char, Int, Float, BoolKind, StrictUnit, is_string, opener, quoted_contents, strict_content_of, strict_contents, strict_text}
use Rattle.rl_syntax.specs.Written.{closer}
use Rattle.rl_syntax.specs.Strict.{Strict, StrictRaw, strict_closer, strict_opener, strict_raw_opener}
use Rattle.rl_syntax.proofs.StrictQuoted.{between}
use Rattle.rl_writing.specs.RawStrings.{HasFewestHashes, HasNoRaw, raw_contents, raw_text}
use Rattle.rl_writing.proofs.AsciiLemmas.{encoded_low, is_low, low_join}
use Rattle.rl_style.specs.declared.style.Style.{Style}
use Rattle.rl_style.specs.Mirrors.{AreUnits, CookedParts, RawParts}
use Rattle.rl_style.specs.Rewriting.{HasHashes, RewritesCooked, RewritesRaw, grown, loses_raw, restyled_inside, unraw_text}
use Rattle.rl_style.proofs.Room.{grown_around}
use Rattle.rl_style.proofs.SameRaw.{length_hashes, raw_followed, raw_joined, raw_strict}
use Rattle.rl_style.proofs.UnitTexts.{units_scalars}
use Rattle.rl_style.proofs.WrittenTexts.{scalars_join, text_of}

-- ---- the lengths of a quoted literal's parts

pub parts_length : (t i s a b : List ℕ) → IsUtf8 t → IsUtf8 i → IsUtf8 s → list_all is_low a ≡ true
    → list_all is_low b ≡ true → chars t ≡ a ++ (chars i ++ (b ++ chars s))
    → length t ≡ length a + (length i + (length b + length s))
parts_length t i s a b ut ui us la lb e =
    let whole : t ≡ a ++ (i ++ (b ++ s)) =
    sym (encodes-chars t ut) ∙ ap encode_utf8_all e ∙ encodes-append a (chars i ++ (b ++ chars s))
    ∙ ap (λ z. z ++ encode_utf8_all (chars i ++ (b ++ chars s))) (encoded_low a la)
    ∙ ap (λ z. a ++ z) (encodes-append (chars i) (b ++ chars s)
    ∙ ap (λ z. z ++ encode_utf8_all (b ++ chars s)) (encodes-chars i ui)
    ∙ ap (λ z. i ++ z) (encodes-append b (chars s) ∙ ap (λ z. z ++ encode_utf8_all (chars s)) (encoded_low b lb)
    ∙ ap (λ z. b ++ z) (encodes-chars s us))) in
    ap length whole ∙ length-append a (i ++ (b ++ s)) ∙ ap (λ n. length a + n) (length-append i (b ++ s)
    ∙ ap (λ n. length i + n) (length-append b s))

-- ---- the bytes that the code writes for a literal with escapes

opener_low : (k : Kind) → list_all is_low (strict_opener k) ≡ true
opener_low Str = refl
opener_low ByteStr = refl
opener_low CStr = refl
opener_low Byte = refl
opener_low Char = refl
opener_low Int = refl
opener_low Float = refl
opener_low BoolKind = refl

closer_low : (k : Kind) → list_all is_low (strict_closer k) ≡ true
closer_low Str = refl
closer_low ByteStr = refl
closer_low CStr = refl
closer_low Byte = refl
closer_low Char = refl
closer_low Int = refl
closer_low Float = refl
closer_low BoolKind = refl

pub one_closer : (k : Kind) → strict_closer k ≡ closer k ∷ []
one_closer Str = refl
one_closer ByteStr = refl
one_closer CStr = refl
one_closer Byte = refl
one_closer Char = refl
one_closer Int = refl
one_closer Float = refl
one_closer BoolKind = refl

pub opens_so : (k : Kind) → opener k ≡ strict_opener k
opens_so Str = refl
opens_so ByteStr = refl
opens_so CStr = refl
opens_so Byte = refl
opens_so Char = refl
opens_so Int = refl
opens_so Float = refl
opens_so BoolKind = refl

pub cooked_length : (k : Kind) (t i s : List ℕ) → IsUtf8 t → IsUtf8 i → IsUtf8 s
    → CookedParts k (chars t) (chars i) (chars s) → length t ≡ length (opener k) + (length i + (1 + length s))
cooked_length k t i s ut ui us p =
    parts_length t i s (strict_opener k) (strict_closer k) ut ui us (opener_low k) (closer_low k) p.text_is
    ∙ ap (λ z. length z + (length i + (length (strict_closer k) + length s))) (sym (opens_so k))
    ∙ ap (λ z. length (opener k) + (length i + (length z + length s))) (one_closer k)

-- The delimiters and the suffix of a literal with escapes don't grow.
pub cooked_room : (style : Style) (k : Kind) (t i s : List ℕ) → IsUtf8 t → IsUtf8 i → IsUtf8 s
    → CookedParts k (chars t) (chars i) (chars s)
    → length (opener k) + (grown style (length i) + (1 + length s)) ≤ grown style (length t)
cooked_room style k t i s ut ui us p =
    let whole = cooked_length k t i s ut ui us p in
    grown_around style (length (opener k)) (length i) (length s) (length t) (omega (arith, whole))

pub closer_length : (k : Kind) → length (encode_utf8 (closer k)) ≡ 1
closer_length k = ap length (encode_ascii (closer k) (low k))
  where
    low : (k : Kind) → closer k < 128
    low Str = omega arith
    low ByteStr = omega arith
    low CStr = omega arith
    low Byte = omega arith
    low Char = omega arith
    low Int = omega arith
    low Float = omega arith
    low BoolKind = omega arith

opener_scalars : (k : Kind) → scalars (strict_opener k) ≡ true
opener_scalars Str = refl
opener_scalars ByteStr = refl
opener_scalars CStr = refl
opener_scalars Byte = refl
opener_scalars Char = refl
opener_scalars Int = refl
opener_scalars Float = refl
opener_scalars BoolKind = refl

closer_scalars : (k : Kind) → scalars (strict_closer k) ≡ true
closer_scalars Str = refl
closer_scalars ByteStr = refl
closer_scalars CStr = refl
closer_scalars Byte = refl
closer_scalars Char = refl
closer_scalars Int = refl
closer_scalars Float = refl
closer_scalars BoolKind = refl

-- If the code writes parts one after another, the written text consists of the parts in this order.
pub joined : (a b c d o mid x : List ℕ) (q r : ℕ) → d ≡ c ++ x → c ≡ b ++ encode_utf8 q → q ≡ r → b ≡ a ++ mid → a ≡ o
    → d
    ≡ ((o ++ mid) ++ encode_utf8 r) ++ x
joined a b c d o mid x q r e f s g h =
    e ∙ ap (λ z. z ++ x) (f ∙ ap (λ z. b ++ encode_utf8 z) s ∙ ap (λ z. z ++ encode_utf8 r) (g ∙ ap (λ z. z ++ mid) h))

pub cooked_written : (style : Style) (k : Kind) (text inside suffix new : List ℕ) → IsUtf8 inside → IsUtf8 suffix
    → CookedParts k (chars text) (chars inside) (chars suffix)
    → ((us : List StrictUnit) → AreUnits k us (chars inside) → new
    ≡ ((opener k ++ encode_utf8_all (restyled_inside style k us)) ++ encode_utf8 (closer k))
    ++ suffix)
    → IsUtf8 new × RewritesCooked style (chars text) (chars new)
cooked_written style k text inside suffix new ui us p w =
    let units : List StrictUnit = p.units in
    let mid : List ℕ = restyled_inside style k units in
    let held : scalars (flat_map strict_text units) ≡ true = ap scalars (sym p.are.inside_is)
    ∙ scalars-chars inside ui in
    let end : List ℕ = strict_closer k ++ chars suffix in
    let whole : encode_utf8_all (strict_opener k ++ (mid ++ end)) ≡ opener k
    ++ (encode_utf8_all mid ++ (encode_utf8 (closer k) ++ suffix)) =
    encodes-append (strict_opener k) (mid ++ end)
    ∙ ap (λ z. z ++ encode_utf8_all (mid ++ end)) (encoded_low (strict_opener k) (opener_low k) ∙ sym (opens_so k))
    ∙ ap (λ z. opener k ++ z) (encodes-append mid end
    ∙ ap (λ z. encode_utf8_all mid ++ z) (encodes-append (strict_closer k) (chars suffix)
    ∙ ap (λ z. z ++ encode_utf8_all (chars suffix)) (ap encode_utf8_all (one_closer k)
    ∙ append-nil (encode_utf8 (closer k)))
    ∙ ap (λ z. encode_utf8 (closer k) ++ z) (encodes-chars suffix us))) in
    let written = text_of new (strict_opener k ++ (mid ++ end))
    (scalars_join (strict_opener k) (mid ++ end) (opener_scalars k) (scalars_join mid end
    (units_scalars style k units p.are.each held)
    (scalars_join (strict_closer k) (chars suffix) (closer_scalars k) (scalars-chars suffix us))))
    (w units p.are ∙ between (opener k) (encode_utf8_all mid) (encode_utf8 (closer k)) suffix ∙ sym whole) in (
      written.0,
      record {
        kind = k;
        contents = quoted_contents k (flat_map (strict_contents (strict_content_of k)) units);
        suffix = chars suffix;
        cooked = record {
          units = units;
          count = p.count;
          each = p.are.each;
          blanks_end = p.are.blanks_end;
          suffix = p.is_suffix;
          text = p.text_is ∙ ap (λ z. strict_opener k ++ (z ++ end)) p.are.inside_is
              ∙ sym (between (strict_opener k) (flat_map strict_text units) (strict_closer k) (chars suffix));
          contents = refl;
        };
        new_is = written.1;
      },
    )

-- ---- the bytes that the code writes for a raw string

abbrev raw_tree : (k : Kind) (t i x : List ℕ) → (p : RawParts k t i x)
    → StrictRaw t k (quoted_contents k (strict_content_of k i)) x
raw_tree k t i x p = record {
  hashes = p.hashes;
  inside = i;
  few = p.few;
  allowed = p.allowed;
  no_carriage_return = p.no_carriage_return;
  first_close = λ front rest e. p.stays_open front rest (e ∙ append_assoc front (34 ∷ replicate p.hashes 35) rest);
  suffix = p.is_suffix;
  text = p.text_is ∙ sym (raw_joined (strict_raw_opener k) (replicate p.hashes 35) i x);
  contents = refl;
}

pub raw_is_string : (k : Kind) (t i x : List ℕ) → RawParts k t i x → is_string k ≡ true
raw_is_string Str t i x p = refl
raw_is_string ByteStr t i x p = refl
raw_is_string CStr t i x p = refl
raw_is_string kind t i x p = absurd p.allowed

-- A raw string without its suffix is a raw string too.
raw_alone : (k : Kind) (t i x : List ℕ) → (p : RawParts k t i x)
    → Strict (raw_text k p.hashes i) k (raw_contents k i) []
raw_alone k t i x p = raw_strict (raw_text k p.hashes i) k (raw_contents k i) [] (record {
  hashes = p.hashes;
  inside = i;
  few = p.few;
  allowed = p.allowed;
  no_carriage_return = p.no_carriage_return;
  first_close = λ front rest e. p.stays_open front rest (e ∙ append_assoc front (34 ∷ replicate p.hashes 35) rest);
  suffix = inl refl;
  text = sym (append-nil (raw_text k p.hashes i)) ∙ raw_followed k p.hashes i [] (raw_is_string k t i x p);
  contents = refl;
})

pub raw_stands : (k : Kind) (t i x : List ℕ) → RawParts k t i x → HasNoRaw k i → ⊥
raw_stands k t i x p n = n p.hashes (raw_contents k i) [] (raw_alone k t i x p)

no_more : (k : Kind) (t i x : List ℕ) (n : ℕ) → (p : RawParts k t i x) → HasFewestHashes k i n → n ≤ p.hashes
no_more k t i x n p f =
    elim (cases_lt p.hashes n) [
      | inl a ↦ absurd (f.fewest p.hashes a (raw_contents k i) [] (raw_alone k t i x p))
      | inr a ↦ a
    ]

pub raw_low : (k : Kind) → list_all is_low (strict_raw_opener k) ≡ true
raw_low Str = refl
raw_low ByteStr = refl
raw_low CStr = refl
raw_low Byte = refl
raw_low Char = refl
raw_low Int = refl
raw_low Float = refl
raw_low BoolKind = refl

pub hashes_low : (n : ℕ) → list_all is_low (replicate n 35) ≡ true
hashes_low zero = refl
hashes_low (suc n) = hashes_low n

opened_length : (k : Kind) → is_string k ≡ true → 1 ≤ length (strict_raw_opener k)
opened_length Str h = omega arith
opened_length ByteStr h = omega arith
opened_length CStr h = omega arith
opened_length kind h = absurd (cc)

pub regrouped : (o h i x : List ℕ) → o ++ (h ++ (34 ∷ (i ++ (34 ∷ (h ++ x)))))
    ≡ (o ++ (h ++ (34 ∷ []))) ++ (i ++ ((34 ∷ h) ++ x))
regrouped o h i x = simp append_assoc

-- If a raw string gets the fewest hashes, the new text has at most one byte more than the old text.
pub raw_room : (k : Kind) (t i s : List ℕ) (n : ℕ) → IsUtf8 t → IsUtf8 i → IsUtf8 s
    → RawParts k (chars t) (chars i) (chars s) → HasFewestHashes k (chars i) n
    → (length i + 2 * n + 4) + length s ≤ length t + 1
raw_room k t i s n ut ui us p f =
    let h : List ℕ = replicate p.hashes 35 in
    let a : List ℕ = strict_raw_opener k ++ (h ++ (34 ∷ [])) in
    let b : List ℕ = 34 ∷ h in
    let fewer = no_more k (chars t) (chars i) (chars s) n p f in
    let opened = opened_length k (raw_is_string k (chars t) (chars i) (chars s) p) in
    let la = low_join (strict_raw_opener k) (h ++ (34 ∷ [])) (raw_low k)
    (low_join h (34 ∷ []) (hashes_low p.hashes) refl) in
    let whole = parts_length t i s a b ut ui us la (hashes_low p.hashes) (p.text_is
    ∙ regrouped (strict_raw_opener k) h (chars i) (chars s)) in
    let one : length (h ++ (34 ∷ [])) ≡ length h + 1 = length-append h (34 ∷ []) in
    let front : length a ≡ length (strict_raw_opener k) + length (h ++ (34 ∷ [])) =
    length-append (strict_raw_opener k) (h ++ (34 ∷ [])) in
    let count : length h ≡ p.hashes = length_hashes p.hashes in
    omega (arith, fewer, opened, whole, one, front, count)

pub raw_kept : (style : Style) (k : Kind) (front t i x new : List ℕ) → RawParts k t i x
    → loses_raw style k front i ≡ false → style.raw_hashes ≡ false → new ≡ t → RewritesRaw style front t new
raw_kept style k front t i x new p stays rule e =
    let tree = raw_tree k t i x p in
    let Has : Bool → Type 0 = λ b. HasHashes b k i p.hashes p.hashes in
    inl (record {
      kind = k;
      contents = quoted_contents k (strict_content_of k i);
      suffix = x;
      raw = tree;
      stays = stays;
      hashes = p.hashes;
      hashes_are = subst Has (sym rule) refl;
      new_is = e ∙ tree.text ∙ sym (raw_followed k p.hashes i x (raw_is_string k t i x p));
    })

pub raw_trimmed : (style : Style) (k : Kind) (front t i suffix written new : List ℕ) (n : ℕ) → IsUtf8 written
    → RawParts k t i (chars suffix) → loses_raw style k front i ≡ false → style.raw_hashes ≡ true
    → HasFewestHashes k i n → chars written ≡ raw_text k n i
    → new ≡ written ++ suffix → RewritesRaw style front t (chars new)
raw_trimmed style k front t i suffix written new n uw p stays rule f w e =
    let tree = raw_tree k t i (chars suffix) p in
    let Has : Bool → Type 0 = λ b. HasHashes b k i p.hashes n in
    inl (record {
      kind = k;
      contents = quoted_contents k (strict_content_of k i);
      suffix = chars suffix;
      raw = tree;
      stays = stays;
      hashes = n;
      hashes_are = subst Has (sym rule) f;
      new_is = ap chars e ∙ chars-append written suffix uw ∙ ap (λ z. z ++ chars suffix) w;
    })

pub raw_lost : (style : Style) (k : Kind) (front t i x new : List ℕ) → RawParts k t i x
    → loses_raw style k front i ≡ true → new ≡ unraw_text style k i x → RewritesRaw style front t new
raw_lost style k front t i x new p loses e = inr (record {
  kind = k;
  contents = quoted_contents k (strict_content_of k i);
  suffix = x;
  raw = raw_tree k t i x p;
  loses = loses;
  new_is = e;
})
