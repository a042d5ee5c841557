-- The bytes of a raw string that is rewritten as a string with escapes.
use Rattle.rl_syntax.proofs.Common.{◌≡◌, ℕ, ◌+◌, ◌≤◌, true, List, [], ◌∷◌, ◌++◌, length, map, replicate, refl, sym, ap, ◌∙◌, arith, append_assoc, append-nil, and_from, and_parts, list_all, encode_utf8_all, encodes-append, encodes-chars, length-append, scalar, is_ascii_digit, IsUtf8, Bool, not}
use Rattle.std.specs.Str.{chars}
use Rattle.std.proofs.Math.Utf8.{scalars}
use Rattle.std.proofs.lemmas.Str.{scalars-chars}
use Rattle.rl_lenient.proofs.Names.{Kind, Str, ByteStr, CStr, is_string, opener}
use Rattle.rl_syntax.specs.Strict.{strict_closer, strict_opener, strict_raw_opener}
use Rattle.rl_syntax.proofs.StrictQuoted.{between}
use Rattle.rl_writing.proofs.AsciiLemmas.{encoded_low, is_low, low_join}
use Rattle.rl_style.specs.declared.style.Style.{Style}
use Rattle.rl_syntax.specs.Texts.{first_passes}
use Rattle.rl_style.specs.Mirrors.{RawParts, itself_text, raw_character, raw_inside}
use Rattle.rl_style.specs.Rewriting.{grown, needs_backslash, raw_unit, restyled_inside, unraw_text}
use Rattle.rl_style.proofs.LostRaw.{raw_texts}
use Rattle.rl_style.proofs.Room.{grown_around}
use Rattle.rl_style.proofs.UnitTexts.{chosen_scalars, itself_scalars}
use Rattle.rl_style.proofs.WrittenQuoted.{hashes_low, opens_so, parts_length, raw_is_string, raw_low, regrouped}
use Rattle.rl_style.proofs.WrittenTexts.{scalars_join, text_of}

opener_is : (k : Kind) → is_string k ≡ true → (length (opener k) ≡ length (strict_raw_opener k))
    × (list_all is_low (strict_opener k) ≡ true) × (scalars (strict_opener k) ≡ true) × (strict_closer k ≡ 34 ∷ [])
opener_is Str h = (refl, refl, refl, refl)
opener_is ByteStr h = (refl, refl, refl, refl)
opener_is CStr h = (refl, refl, refl, refl)
opener_is kind h = absurd (cc)

-- If a raw string becomes a string with escapes, its delimiters and its suffix don't grow.
pub unraw_room : (style : Style) (k : Kind) (t i s : List ℕ) → IsUtf8 t → IsUtf8 i → IsUtf8 s
    → RawParts k (chars t) (chars i) (chars s)
    → length (opener k) + (grown style (length i) + (1 + length s)) ≤ grown style (length t)
unraw_room style k t i s ut ui us p =
    let h : List ℕ = replicate p.hashes 35 in
    let a : List ℕ = strict_raw_opener k ++ (h ++ (34 ∷ [])) in
    let la = low_join (strict_raw_opener k) (h ++ (34 ∷ [])) (raw_low k)
    (low_join h (34 ∷ []) (hashes_low p.hashes) refl) in
    let whole = parts_length t i s a (34 ∷ h) ut ui us la (hashes_low p.hashes) (p.text_is
    ∙ regrouped (strict_raw_opener k) h (chars i) (chars s)) in
    let front : length a ≡ length (strict_raw_opener k) + length (h ++ (34 ∷ [])) =
    length-append (strict_raw_opener k) (h ++ (34 ∷ [])) in
    let same = (opener_is k (raw_is_string k (chars t) (chars i) (chars s) p)).0 in
    grown_around style (length (opener k)) (length i) (length s) (length t) (omega (arith, whole, front, same))

raw_scalars : (style : Style) (cs : List ℕ) → scalars cs ≡ true → scalars (raw_inside style cs) ≡ true
raw_scalars style [] h = refl
raw_scalars style (c ∷ cs) h =
    let p = and_parts (scalar c) (scalars cs) h in
    let z : Bool = not (first_passes is_ascii_digit cs) in
    scalars_join (raw_character style z c) (raw_inside style cs)
    (chosen_scalars (needs_backslash c) (92 ∷ c ∷ []) (itself_text style z c) (and_from (scalar c) true p.0 refl)
    (itself_scalars style z c p.0)) (raw_scalars style cs p.1)

pub unraw_written : (style : Style) (k : Kind) (t inside suffix new : List ℕ) → IsUtf8 inside → IsUtf8 suffix
    → RawParts k t (chars inside) (chars suffix)
    → new ≡ ((opener k ++ encode_utf8_all (raw_inside style (chars inside))) ++ (34 ∷ [])) ++ suffix
    → IsUtf8 new × (chars new ≡ unraw_text style k (chars inside) (chars suffix))
unraw_written style k t inside suffix new ui us p w =
    let is = raw_is_string k t (chars inside) (chars suffix) p in
    let o = opener_is k is in
    let mid : List ℕ = raw_inside style (chars inside) in
    let end : List ℕ = 34 ∷ chars suffix in
    let whole : encode_utf8_all (strict_opener k ++ (mid ++ end)) ≡ opener k
    ++ (encode_utf8_all mid ++ ((34 ∷ []) ++ suffix)) =
    encodes-append (strict_opener k) (mid ++ end)
    ∙ ap (λ z. z ++ encode_utf8_all (mid ++ end)) (encoded_low (strict_opener k) o.1 ∙ sym (opens_so k))
    ∙ ap (λ z. opener k ++ z) (encodes-append mid end
    ∙ ap (λ z. encode_utf8_all mid ++ z) (encodes-append (34 ∷ []) (chars suffix)
    ∙ ap (λ z. z ++ encode_utf8_all (chars suffix)) (encoded_low (34 ∷ []) refl)
    ∙ ap (λ z. (34 ∷ []) ++ z) (encodes-chars suffix us))) in
    let written = text_of new (strict_opener k ++ (mid ++ end))
    (scalars_join (strict_opener k) (mid ++ end) o.2 (scalars_join mid end
    (raw_scalars style (chars inside) (scalars-chars inside ui))
    (and_from (scalar 34) (scalars (chars suffix)) refl (scalars-chars suffix us))))
    (w ∙ between (opener k) (encode_utf8_all mid) (34 ∷ []) suffix ∙ sym whole) in (
      written.0,
      written.1 ∙ ap (λ z. strict_opener k ++ (z ++ end)) (raw_texts style k (chars inside) is)
          ∙ ap (λ z. strict_opener k ++ (restyled_inside style k (map raw_unit (chars inside))
          ++ (z ++ chars suffix))) (sym o.3),
    )

-- ---- the code writes one character of a raw string after another

-- The new text of the characters in the first list. The characters in the list `left` follow them in the raw string.
abbrev pub raw_before : Style → List ℕ → List ℕ → List ℕ
raw_before style [] left = []
raw_before style (c ∷ cs) left =
    raw_character style (not (first_passes is_ascii_digit (cs ++ left))) c ++ raw_before style cs left

raw_next : (style : Style) (cs : List ℕ) (c : ℕ) (left : List ℕ) → raw_before style (cs ++ (c ∷ [])) left
    ≡ raw_before style cs (c ∷ left) ++ raw_character style (not (first_passes is_ascii_digit left)) c
raw_next style [] c left = append-nil (raw_character style (not (first_passes is_ascii_digit left)) c)
raw_next style (d ∷ cs) c left =
    let one : List ℕ = raw_character style (not (first_passes is_ascii_digit (cs ++ (c ∷ left)))) d in
    ap (λ t. raw_character style (not (first_passes is_ascii_digit t)) d ++ raw_before style (cs ++ (c ∷ [])) left)
    (append_assoc cs (c ∷ []) left)
    ∙ ap (λ t. one ++ t) (raw_next style cs c left)
    ∙ sym (append_assoc one (raw_before style cs (c ∷ left))
    (raw_character style (not (first_passes is_ascii_digit left)) c))

raw_whole : (style : Style) (cs : List ℕ) → raw_before style cs [] ≡ raw_inside style cs
raw_whole style [] = refl
raw_whole style (c ∷ cs) =
    ap (λ t. raw_character style (not (first_passes is_ascii_digit t)) c ++ raw_before style cs []) (append-nil cs)
    ∙ ap (λ t. raw_character style (not (first_passes is_ascii_digit cs)) c ++ t) (raw_whole style cs)

pub raw_more : (style : Style) (front a b xs rest left : List ℕ) (c : ℕ) → rest ≡ c ∷ left
    → a ≡ front ++ encode_utf8_all (raw_before style xs rest)
    → b ≡ a ++ encode_utf8_all (raw_character style (not (first_passes is_ascii_digit left)) c)
    → b ≡ front ++ encode_utf8_all (raw_before style (xs ++ (c ∷ [])) left)
raw_more style front a b xs rest left c is e f =
    let old : List ℕ = raw_before style xs (c ∷ left) in
    let one : List ℕ = raw_character style (not (first_passes is_ascii_digit left)) c in
    f ∙ ap (λ t. t ++ encode_utf8_all one) (e ∙ ap (λ t. front ++ encode_utf8_all (raw_before style xs t)) is)
    ∙ append_assoc front (encode_utf8_all old) (encode_utf8_all one)
    ∙ ap (λ t. front ++ t) (sym (encodes-append old one) ∙ ap encode_utf8_all (sym (raw_next style xs c left)))

pub raw_all : (style : Style) (front a xs all rest : List ℕ) → all ≡ xs ++ rest → rest ≡ []
    → a ≡ front ++ encode_utf8_all (raw_before style xs rest)
    → a ≡ front ++ encode_utf8_all (raw_inside style all)
raw_all style front a xs all rest cut none e =
    e ∙ ap (λ t. front ++ encode_utf8_all (raw_before style xs t)) none
    ∙ ap (λ t. front ++ encode_utf8_all t) (raw_whole style xs
    ∙ ap (raw_inside style) (sym (cut ∙ ap (λ t. xs ++ t) none ∙ append-nil xs)))

-- ---- the parts of the string with escapes, one after another

pub unraw_pieces : (a b c d o mid x : List ℕ) → d ≡ c ++ x → c ≡ b ++ (34 ∷ []) → b ≡ a ++ mid → a ≡ o
    → d ≡ ((o ++ mid) ++ (34 ∷ [])) ++ x
unraw_pieces a b c d o mid x e f g h =
    e ∙ ap (λ z. z ++ x) (f ∙ ap (λ z. z ++ (34 ∷ [])) (g ∙ ap (λ z. z ++ mid) h))
