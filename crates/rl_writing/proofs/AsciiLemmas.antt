-- Texts that contain only ASCII characters.
use Rattle.rl_syntax.proofs.Common.{◌≡◌, ℕ, Bool, true, List, [], ◌∷◌, ◌++◌, refl, ap, ◌∙◌, nat_lt, list_all, list_all-append, and_parts, and_from, ltb-true, encode_ascii, chars, chars-append, chars-IsAscii, IsAscii, IsUtf8}
use Rattle.std.specs.Prelude.{encode_utf8_all}
use Rattle.std.proofs.lemmas.Str.{IsUtf8-append, IsUtf8-from_ascii}
use Rattle.std.proofs.lemmas.Str.Ascii.{IsAscii-cons, IsAscii-nil}

abbrev pub is_low : ℕ → Bool
is_low c = nat_lt c 128

pub low_ascii : (t : List ℕ) → list_all is_low t ≡ true → IsAscii t
low_ascii [] h = IsAscii-nil
low_ascii (c ∷ t) h =
    let p = and_parts (is_low c) (list_all is_low t) h in
    IsAscii-cons c t (ltb-true c 128 p.0) (low_ascii t p.1)

pub low_utf8 : (t : List ℕ) → list_all is_low t ≡ true → IsUtf8 t
low_utf8 t h = IsUtf8-from_ascii t (low_ascii t h)

pub low_chars : (t : List ℕ) → list_all is_low t ≡ true → chars t ≡ t
low_chars t h = chars-IsAscii t (low_ascii t h)

pub low_join : (a b : List ℕ) → list_all is_low a ≡ true → list_all is_low b ≡ true → list_all is_low (a ++ b) ≡ true
low_join a b h k = list_all-append is_low a b ∙ and_from _ _ h k

-- A UTF-8 text between two ASCII texts is UTF-8.
pub framed_utf8 : (a b t : List ℕ) → list_all is_low a ≡ true → list_all is_low b ≡ true → IsUtf8 t
    → IsUtf8 (a ++ (t ++ b))
framed_utf8 a b t h k u = IsUtf8-append a (t ++ b) (low_utf8 a h) (IsUtf8-append t b u (low_utf8 b k))

pub framed_chars : (a b t : List ℕ) → list_all is_low a ≡ true → list_all is_low b ≡ true → IsUtf8 t
    → chars (a ++ (t ++ b)) ≡ a ++ (chars t ++ b)
framed_chars a b t h k u = chars-append a (t ++ b) (low_utf8 a h) ∙ ap (λ z. z ++ chars (t ++ b)) (low_chars a h)
    ∙ ap (λ z. a ++ z) (chars-append t b u ∙ ap (λ z. chars t ++ z) (low_chars b k))

-- The UTF-8 bytes of ASCII characters are the codes of these characters.
pub encoded_low : (t : List ℕ) → list_all is_low t ≡ true → encode_utf8_all t ≡ t
encoded_low [] h = refl
encoded_low (c ∷ t) h =
    let p = and_parts (is_low c) (list_all is_low t) h in
    ap (λ z. z ++ encode_utf8_all t) (encode_ascii c (ltb-true c 128 p.0)) ∙ ap (λ z. c ∷ z) (encoded_low t p.1)
