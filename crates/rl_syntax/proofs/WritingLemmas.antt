-- The text that a writer of a quoted literal has written so far, from the literal's opening delimiter on.
use Rattle.rl_syntax.proofs.Common.{◌≡◌, ◌<◌, ℕ, zero, suc, arith, List, [], ◌∷◌, ◌++◌, map, length, take, refl, sym, ap, subst, ◌≤◌, ◌∙◌, append_assoc, append-nil, encode_utf8, chars, IsAscii, IsUtf8, take-append_seam, encodes-append, encodes-chars, chars_from_encodes, chars_past_char, chars-nil, IsUtf8-nil}
use Rattle.std.proofs.Common.{length-take}
use Rattle.std.specs.Prelude.{encode_utf8_all}
use Rattle.std.specs.String.Boundary.{IsSplitPoint}
use Rattle.std.proofs.lemmas.Str.{IsCharBoundary-from_take}
use Rattle.rl_syntax.specs.declared.kind.Kind.{Kind}
use Rattle.rl_syntax.specs.declared.kind.Kind.TheVariants.{Str, ByteStr, CStr, Byte, Char, Int, Float, Bool as BoolKind}
use Rattle.rl_syntax.specs.Quoted.{opener, unit_text, texts}
use Rattle.rl_syntax.specs.Written.{closer, written_unit, written_text}

pub ascii_nil : IsAscii []
ascii_nil i = omega arith

pub ascii_cons : (c : ℕ) (cs : List ℕ) → c < 128 → IsAscii cs → IsAscii (c ∷ cs)
ascii_cons c cs h rest zero = h
ascii_cons c cs h rest (suc i) = rest i

-- Bytes that are the encoding of one character are that character.
pub one_character : (c : ℕ) (bytes : List ℕ) → IsUtf8 bytes → bytes ≡ encode_utf8 c → chars bytes ≡ c ∷ []
one_character c bytes u e = chars_past_char bytes [] c u (e ∙ sym (append-nil (encode_utf8 c)))
    ∙ ap (λ z. c ∷ z) chars-nil

-- Returns the bytes of a literal's opening delimiter and of the written forms of the given characters.
abbrev pub begun : Kind → List ℕ → List ℕ
begun k xs = encode_utf8_all (opener k ++ texts (map (written_unit k) xs))

-- The opening delimiter of a literal is the start of the written literal before any character is written.
pub begun_start : (k : Kind) (s : List ℕ) → s ≡ opener k → s ≡ begun k []
unfolding lib.Utf8.encode
begun_start Str s h = h
begun_start ByteStr s h = h
begun_start CStr s h = h
begun_start Byte s h = h
begun_start Char s h = h
begun_start Int s h = h
begun_start Float s h = h
begun_start BoolKind s h = h

texts_more : (k : Kind) (xs : List ℕ) (c : ℕ) → texts (map (written_unit k) (xs ++ (c ∷ [])))
    ≡ texts (map (written_unit k) xs) ++ unit_text (written_unit k c)
texts_more k [] c = append-nil (unit_text (written_unit k c))
texts_more k (x ∷ xs) c = ap (λ z. unit_text (written_unit k x) ++ z) (texts_more k xs c)
    ∙ sym (append_assoc (unit_text (written_unit k x)) (texts (map (written_unit k) xs)) (unit_text (written_unit k c)))

-- The bytes `a` are the opening delimiter and the written forms of the characters `xs`. If the written form of `c` is
-- appended to `a`, the result is the opening delimiter and the written forms of `xs` and `c`.
pub begun_more : (k : Kind) (a b xs : List ℕ) (c : ℕ) → a ≡ begun k xs → b ≡ a
    ++ encode_utf8_all (unit_text (written_unit k c)) → b ≡ begun k (xs ++ (c ∷ []))
begun_more k a b xs c e h =
    let inner = texts (map (written_unit k) xs) in
    let all : (opener k ++ inner) ++ unit_text (written_unit k c) ≡ opener k
    ++ texts (map (written_unit k) (xs ++ (c ∷ []))) = append_assoc (opener k) inner (unit_text (written_unit k c))
    ∙ ap (λ z. opener k ++ z) (sym (texts_more k xs c)) in
    h ∙ ap (λ z. z ++ encode_utf8_all (unit_text (written_unit k c))) e
    ∙ sym (encodes-append (opener k ++ inner) (unit_text (written_unit k c))) ∙ ap encode_utf8_all all

-- The bytes `a` are a text `p`, an opening delimiter and the written forms of the characters `xs`. If the written form of
-- `c` is appended to `a`, the result is `p`, the opening delimiter and the written forms of `xs` and `c`.
pub begun_more_after : (k : Kind) (p a b xs : List ℕ) (c : ℕ) → a ≡ p ++ begun k xs → b ≡ a
    ++ encode_utf8_all (unit_text (written_unit k c)) → b ≡ p ++ begun k (xs ++ (c ∷ []))
begun_more_after k p a b xs c e h =
    let one = encode_utf8_all (unit_text (written_unit k c)) in
    h ∙ ap (λ z. z ++ one) e ∙ append_assoc p (begun k xs) one
    ∙ ap (λ z. p ++ z) (begun_more k (begun k xs) (begun k xs ++ one) xs c refl refl)

-- Writing a literal after a text `p` leaves `p` unchanged.
pub begun_front : (k : Kind) (p a b xs : List ℕ) → a ≡ p ++ begun k xs → b ≡ a → take (length p) b ≡ p
begun_front k p a b xs e same = ap (take (length p)) (same ∙ e) ∙ take-append_seam p (begun k xs)

-- If the UTF-8 encoding of some characters is appended to a text, these characters are appended to the characters of the
-- text.
appended : (p b w : List ℕ) → IsUtf8 p → IsUtf8 b → b ≡ p ++ encode_utf8_all w → chars b ≡ chars p ++ w
appended p b w u v e = sym (chars_from_encodes (chars p ++ w) b v
    (encodes-append (chars p) w ∙ ap (λ z. z ++ encode_utf8_all w) (encodes-chars p u) ∙ sym e))

-- Bytes are a text, an opening delimiter and the written forms of a value's characters. With the closing delimiter appended,
-- they are the text and the literal that is written for the value.
pub begun_whole_after : (k : Kind) (p a b xs ys : List ℕ) → a ≡ p ++ begun k xs → b ≡ a ++ encode_utf8 (closer k) → xs
    ≡ ys → IsUtf8 p → IsUtf8 b → chars b ≡ chars p ++ written_text k ys
begun_whole_after k p a b xs ys e h same u v =
    let inner = texts (map (written_unit k) xs) in
    let one : encode_utf8_all (closer k ∷ []) ≡ encode_utf8 (closer k) = append-nil (encode_utf8 (closer k)) in
    let all : encode_utf8_all (written_text k xs) ≡ begun k xs ++ encode_utf8 (closer k) =
    ap encode_utf8_all (sym (append_assoc (opener k) inner (closer k ∷ [])))
    ∙ encodes-append (opener k ++ inner) (closer k ∷ [])
    ∙ ap (λ z. encode_utf8_all (opener k ++ inner) ++ z) one in
    appended p b (written_text k xs) u v (h ∙ ap (λ z. z ++ encode_utf8 (closer k)) e
    ∙ append_assoc p (begun k xs) (encode_utf8 (closer k)) ∙ ap (λ z. p ++ z) (sym all))
    ∙ ap (λ z. chars p ++ written_text k z) same

-- Bytes are an opening delimiter and the written forms of a value's characters. With the closing delimiter appended, they
-- are the literal that is written for the value.
pub begun_whole : (k : Kind) (a b xs ys : List ℕ) → a ≡ begun k xs → b ≡ a ++ encode_utf8 (closer k) → xs ≡ ys
    → IsUtf8 b → chars b ≡ written_text k ys
begun_whole k a b xs ys e h same u = begun_whole_after k [] a b xs ys e h same IsUtf8-nil u
    ∙ ap (λ z. z ++ written_text k ys) chars-nil

-- If bytes were appended to a UTF-8 text, and the result is UTF-8, the old end of the text is a character boundary.
pub cut_back : (old new : List ℕ) → IsUtf8 old → IsUtf8 new → take (length old) new ≡ old
    → IsSplitPoint new (length old)
cut_back old new u v e =
    let within : length old ≤ length new = omega (arith, length-take (length old) new, ap length e) in
    let b = IsCharBoundary-from_take new (length old) v within (subst IsUtf8 (sym e) u) in
    (within, λ _. b.1)
