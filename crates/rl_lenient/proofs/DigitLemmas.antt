-- The digits of integer and float literals, as decoded values.
use Rattle.rl_syntax.proofs.Common.{◌≡◌, ℕ, suc, zero, ◌<◌, ◌≤◌, ◌^◌, List, [], ◌∷◌, ◌++◌, sym, ap, ◌∙◌, arith, encodes-append, IsAscii, encode_utf8_all}
use Rattle.rl_lenient.proofs.Names.{decimal, Sign, NoSign, Minus, sign_text, IntReads, limit, float_digits, FloatReads, Contents, Digits}
use Rattle.std.proofs.lemmas.Str.{chars-IsAscii}
use Rattle.std.proofs.lemmas.List.{map-append}
use Rattle.std.proofs.lemmas.List.Elements.{filter-append}
use Rattle.std.proofs.lemmas.Fmt.{IsAscii-decimal_wide}
use Rattle.std.specs.Str.{chars}
use Rattle.rl_syntax.specs.Reading.{ReadsInt}
use Rattle.rl_lenient.specs.Mirrors.NumberAt.{sign_at, int_at}
use Rattle.rl_lenient.specs.NumberShapes.{HasMagnitude}
use Rattle.rl_lenient.proofs.IntegerLemmas.{int_past, sign_of_some}
use Rattle.rl_syntax.proofs.OneNumber.{int_once, float_once}

-- `float_digits` of two joined texts is `float_digits` of the first text, joined with `float_digits` of the second text.
pub float_digits-append : (xs ys : List ℕ) → float_digits (xs ++ ys) ≡ float_digits xs ++ float_digits ys
float_digits-append xs ys = simp (filter-append, map-append)

-- The bytes `a` are the digits of the float text `xs`. If the digits of the character `c` are appended to `a`, the result is
-- the digits of `xs` with `c` appended.
pub plain_more : (a b xs : List ℕ) (c : ℕ) → a ≡ encode_utf8_all (float_digits xs) → b ≡ a
    ++ encode_utf8_all (float_digits (c ∷ [])) → b ≡ encode_utf8_all (float_digits (xs ++ (c ∷ [])))
plain_more a b xs c e h =
    h ∙ ap (λ z. z ++ encode_utf8_all (float_digits (c ∷ []))) e
    ∙ sym (ap encode_utf8_all (float_digits-append xs (c ∷ []))
    ∙ encodes-append (float_digits xs) (float_digits (c ∷ [])))

-- A float literal has only one text before its suffix, so it has only one sequence of digits.
pub same_numeral : (t b y ds n x : List ℕ) → FloatReads t b y → ds ≡ float_digits b → FloatReads t n x → ds
    ≡ float_digits n
same_numeral t b y ds n x f e g = e ∙ ap float_digits (float_once t b n y x f g).0

-- Each parse result of a text as an integer has the sign that `sign_at` returns for the text.
pub int_sign : (t : List ℕ) (s : Sign) (m : ℕ) (x : List ℕ) → IntReads t s m x → sign_at t ≡ s
unfolding int_at
int_sign t s m x r =
    let k = sign_of_some (sign_at t) _ (s, m, x) (int_past t s m x r) in
    ap (λ p. p.0) k.2

-- A number within 128 bits has at most 64 decimal digits, the most digits that std writes.
limit_fits : (m : ℕ) → m ≤ limit → m < 10 ^ 64
limit_fits m h = omega arith

-- The written form of an integer, a sign and decimal digits, is ASCII.
ascii_signed : (s : Sign) (m : ℕ) → m ≤ limit → chars (sign_text s ++ decimal m) ≡ sign_text s ++ decimal m
ascii_signed NoSign m h = chars-IsAscii (decimal m) (IsAscii-decimal_wide m (limit_fits m h))
ascii_signed Minus m h = chars-IsAscii (45 ∷ decimal m) (minus_ascii (decimal m)
    (IsAscii-decimal_wide m (limit_fits m h)))
  where
    minus_ascii : (ds : List ℕ) → IsAscii ds → IsAscii (45 ∷ ds)
    minus_ascii ds a zero = omega arith
    minus_ascii ds a (suc i) = a i

-- If a text is an integer with the magnitude m, its value is its sign and the decimal digits of m, in each parse result.
pub int_contents : (t y : List ℕ) (m : ℕ) (bs : List ℕ) → HasMagnitude t m y → bs ≡ sign_text (sign_at t) ++ decimal m
    → (c : Contents) (x : List ℕ) → ReadsInt t c x → c ≡ Digits (chars bs)
int_contents t y m bs w e c x r =
    let o = int_once t y x w.sign r.sign m r.magnitude w.reads r.reads in
    let s = int_sign t w.sign m y w.reads ∙ o.0 in
    let f : bs ≡ sign_text r.sign ++ decimal r.magnitude = e ∙ ap (λ k. sign_text k ++ decimal m) s
    ∙ ap (λ k. sign_text r.sign ++ decimal k) o.1 in
    r.contents_is ∙ ap Digits (sym (ap chars f ∙ ascii_signed r.sign r.magnitude r.within))

-- If a sign is appended to an empty buffer, and then decimal digits, the buffer contains the sign and the digits.
pub signed_bytes : (a b d : List ℕ) (s : Sign) (m : ℕ) → a ≡ [] → b ≡ a ++ sign_text s → d ≡ b ++ decimal m → d
    ≡ sign_text s ++ decimal m
signed_bytes a b d s m e f h = h ∙ ap (λ z. z ++ decimal m) (f ∙ ap (λ z. z ++ sign_text s) e)
