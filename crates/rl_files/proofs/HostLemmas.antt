-- Lemmas about reading in pieces, and about testing a piece for UTF-8 before the following bytes are known.
use Rattle.std.proofs.Common.{◌≡◌, ℕ, ◌+◌, ◌<◌, ◌≤◌, true, List, [], ◌∷◌, ◌++◌, length, take, drop, refl, sym, ap, subst, ◌∙◌, arith, append_assoc, append-nil, length-take, encode_utf8, encode_utf8_all, Option, Some, None, IfSome}
use Rattle.std.specs.Char.{len_utf8}
use Rattle.std.specs.Str.{chars, IsUtf8, IsValidUpTo}
use Rattle.std.specs.Io.KnownBytes.{Consumes, IsAtEnd}
use Rattle.std.proofs.KnownBytes.{Consumes-all, Consumes-trans}
use Rattle.std.proofs.Math.Utf8.{scalars, scalar}
use Rattle.std.proofs.Math.Seq.{take-append_seam}
use Rattle.std.proofs.lemmas.Bool.{and_parts}
use Rattle.std.proofs.lemmas.List.{length-append, length-drop, take-take, take-append-le, take-append-drop}
use Rattle.std.proofs.lemmas.Str.{encodes-chars, scalars-chars, length-encode, len_utf8_bounds, IsUtf8-append, IsUtf8-drop, IsUtf8-encode, IsCharBoundary-from_take}

-- If a call of the reader returns no bytes, all bytes of the reader have been read.
pub consumed_all : (a b d : Option (List ℕ)) (bytes buffer : List ℕ) (n : ℕ) → Consumes a b bytes → n ≡ 0
    → Consumes b d (take n buffer) × (n ≡ 0 → 0 < length buffer → IsAtEnd d) → 0 < length buffer
    → IfSome a (λ all. bytes ≡ all)
consumed_all a b d bytes buffer n w none turn room =
    let last : Consumes b d [] = subst (λ z. Consumes b d (take z buffer)) none turn.0 in
    let whole : Consumes a d (bytes ++ []) = Consumes-trans a b d bytes [] w last in
    Consumes-all a d bytes [] bytes (subst (λ z. Consumes a d z) (append-nil bytes) whole) (turn.1 none room) refl

-- The bytes of one more call of the reader follow those that were read before.
pub read_more : (a b d : Option (List ℕ)) (old new piece : List ℕ) → Consumes a b old → Consumes b d piece → new ≡ old ++ piece
    → Consumes a d new
read_more a b d old new piece before turn is = subst (λ z. Consumes a d z) (sym is) (Consumes-trans a b d old piece before turn)

-- A statement about the bytes that were read and any following bytes holds for all bytes of the reader.
pub holds_for_all : (P : List ℕ → Type 0) (a b : Option (List ℕ)) (bytes : List ℕ) → Consumes a b bytes
    → ((more : List ℕ) → P (bytes ++ more)) → IfSome a P
holds_for_all P None b bytes read holds = tt
holds_for_all P (Some all) None bytes read holds = absurd read
holds_for_all P (Some all) (Some more) bytes read holds = subst P (sym read) (holds more)

-- If a character begins at an offset that four bytes follow, the text up to the end of this character is UTF-8.
one_more : (bs more : List ℕ) (at m : ℕ) (cs : List ℕ) → at < m → at + 4 ≤ length bs → IsUtf8 (take at bs)
    → take at (take m (bs ++ more)) ≡ take at bs → encode_utf8_all cs ≡ drop at (take m (bs ++ more))
    → scalars cs ≡ true → (k : ℕ) × (at < k) × IsUtf8 (take k bs)
one_more bs more at m [] later far front same spelled all = absurd (omega (
  arith,
  later,
  far,
  ap length spelled,
  length-drop at (take m (bs ++ more)),
  length-take m (bs ++ more),
  length-append bs more,
))
one_more bs more at m (c ∷ cs) later far front same spelled all =
    let text = take m (bs ++ more) in
    let until = take at bs ++ encode_utf8 c in
    let whole : text ≡ until ++ encode_utf8_all cs = sym (take-append-drop at text)
    ∙ ap (λ (z : List ℕ). z ++ drop at text) same ∙ ap (λ (z : List ℕ). take at bs ++ z) (sym spelled)
    ∙ sym (append_assoc (take at bs) (encode_utf8 c) (encode_utf8_all cs)) in
    let len : length until ≡ at + len_utf8 c = omega (
      arith,
      far,
      length-append (take at bs) (encode_utf8 c),
      length-take at bs,
      length-encode c,
    ) in
    let low = len_utf8_bounds c in
    let fits : length until ≤ m = omega (
      arith,
      ap length whole,
      length-append until (encode_utf8_all cs),
      length-take m (bs ++ more),
    ) in
    let cut : take (length until) bs ≡ until =
    sym (take-append-le (length until) bs more (omega (arith, len, low.1, far)))
    ∙ sym (take-take (length until) m (bs ++ more) fits) ∙ ap (take (length until)) whole
    ∙ take-append_seam until (encode_utf8_all cs) in (
      length until,
      omega (arith, len, low.0),
      subst IsUtf8 (sym cut) (IsUtf8-append (take at bs) (encode_utf8 c) front
          (IsUtf8-encode c (and_parts (scalar c) (scalars cs) all).0)),
    )

-- If no character begins at an offset that four bytes follow, more bytes after them don't change that.
pub stays_invalid : (bs more : List ℕ) (at : ℕ) → IsValidUpTo bs at → at + 4 ≤ length bs → IsValidUpTo (bs ++ more) at
stays_invalid bs more at v far = record {
  short = omega (arith, far, length-append bs more);
  front = subst IsUtf8 (sym (take-append-le at bs more (omega (arith, far)))) v.front;
  longest = λ m later utf8.
      let text = take m (bs ++ more) in
      let same : take at text ≡ take at bs = take-take at m (bs ++ more) (omega (arith, later))
      ∙ take-append-le at bs more (omega (arith, far)) in
      let boundary = IsCharBoundary-from_take text at utf8
      (omega (arith, far, later, length-take m (bs ++ more), length-append bs more))
      (subst IsUtf8 (sym same) v.front) in
      let rest = IsUtf8-drop text at utf8 boundary in
      let more_text = one_more bs more at m (chars (drop at text)) later far v.front same
      (encodes-chars (drop at text) rest) (scalars-chars (drop at text) rest) in
      v.longest more_text.0 more_text.1 more_text.2;
}
