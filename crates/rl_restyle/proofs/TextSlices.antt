-- Lemmas about the part of a text between two byte offsets.
use Rattle.rl_syntax.proofs.Common.{◌≡◌, ℕ, ◌+◌, ◌-◌, ◌≤◌, List, [], ◌∷◌, ◌++◌, length, length-append, take, drop, slice_range, refl, sym, ◌∙◌, ap, subst, arith, append_assoc, take-append_seam, chars, chars_from_encodes, encode_utf8_all, encodes-append, encodes-chars, IsCharBoundary, IsUtf8, IsUtf8-take}
use Rattle.std.proofs.lemmas.Str.{IsCharBoundary-at_seam, IsUtf8-past_char}
use Rattle.std.proofs.Math.Seq.{drop-append_seam}
use Rattle.rl_syntax.specs.Texts.{IsTail}
use Rattle.rl_restyle.specs.Places.{IsTextBetween}

-- The end of a UTF-8 text after a prefix of whole characters is UTF-8.
pub back_utf8 : (front back : List ℕ) → IsUtf8 (encode_utf8_all (front ++ back)) → IsUtf8 (encode_utf8_all back)
back_utf8 [] back u = u
back_utf8 (c ∷ cs) back u = back_utf8 cs back (IsUtf8-past_char (encode_utf8_all (c ∷ (cs ++ back)))
    (encode_utf8_all (cs ++ back)) c u refl)

pub record Slice (text : List ℕ) (lo hi : ℕ) (middle : List ℕ) : Type 0 where
  pub ordered : lo ≤ hi
  pub within : hi ≤ length text
  pub begins : IsCharBoundary text lo
  pub ends : IsCharBoundary text hi
  pub chars_are : chars (slice_range text lo hi) ≡ middle
  pub tail : IsTail text (drop lo text)

pub slice : (text : List ℕ) (lo hi : ℕ) (middle : List ℕ) → IsUtf8 text → IsTextBetween (chars text) lo hi middle
    → Slice text lo hi middle
slice text lo hi middle u s =
    let f : List ℕ = encode_utf8_all s.front in
    let m : List ℕ = encode_utf8_all middle in
    let r : List ℕ = encode_utf8_all s.rest in
    let all : text ≡ encode_utf8_all (s.front ++ (middle ++ s.rest)) = sym (encodes-chars text u)
    ∙ ap encode_utf8_all s.text_is in
    let bytes : text ≡ f ++ (m ++ r) = all ∙ encodes-append s.front (middle ++ s.rest)
    ∙ ap (λ z. f ++ z) (encodes-append middle s.rest) in
    let back : IsUtf8 (encode_utf8_all (middle ++ s.rest)) = back_utf8 s.front (middle ++ s.rest) (subst IsUtf8 all u) in
    let after : IsUtf8 (m ++ r) = subst IsUtf8 (encodes-append middle s.rest) back in
    let last : IsUtf8 r = back_utf8 middle s.rest back in
    let inside : IsUtf8 m = subst IsUtf8 (take-append_seam m r) (IsUtf8-take (m ++ r) (length m) after
    (IsCharBoundary-at_seam (m ++ r) m r refl last)) in
    let lo_at : length f ≡ lo = sym s.lo_is in
    let hi_at : length (f ++ m) ≡ hi = sym (s.hi_is ∙ ap length (encodes-append s.front middle)) in
    let long : length (f ++ m) ≡ length f + length m = length-append f m in
    let whole : length text ≡ length f + (length m + length r) = ap length bytes ∙ length-append f (m ++ r)
    ∙ ap (λ z. length f + z) (length-append m r) in
    let dropped : drop lo text ≡ m ++ r = ap (λ n. drop n text) (sym lo_at) ∙ ap (drop (length f)) bytes
    ∙ drop-append_seam f (m ++ r) in
    let count : hi - lo ≡ length m = omega (arith, lo_at, hi_at, long) in
    let is : slice_range text lo hi ≡ m = ap (λ z. take (hi - lo) z) dropped ∙ ap (λ n. take n (m ++ r)) count
    ∙ take-append_seam m r in
    record {
      ordered = omega (arith, lo_at, hi_at, long);
      within = omega (arith, hi_at, long, whole);
      begins = subst (IsCharBoundary text) lo_at (IsCharBoundary-at_seam text f (m ++ r) bytes after);
      ends = subst (IsCharBoundary text) hi_at (IsCharBoundary-at_seam text (f ++ m) r
          (bytes ∙ sym (append_assoc f m r)) last);
      tail = record {
        front = f;
        text_is = bytes ∙ ap (λ z. f ++ z) (sym dropped);
        is_text = subst IsUtf8 (sym dropped) after;
      };
      chars_are = sym (chars_from_encodes middle (slice_range text lo hi) (subst IsUtf8 (sym is) inside) (sym is));
    }
