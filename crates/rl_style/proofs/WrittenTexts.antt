-- UTF-8 texts that are written one after the other are one UTF-8 text.
use Rattle.rl_syntax.proofs.Common.{◌≡◌, ℕ, true, List, [], ◌∷◌, ◌++◌, sym, ap, ◌∙◌, append_assoc, and_from, and_parts, encodes-append, encodes-chars, encode_utf8_all, IsUtf8, scalar}
use Rattle.std.specs.Str.{chars}
use Rattle.std.proofs.Math.Utf8.{scalars}
use Rattle.std.proofs.lemmas.Str.{chars-encodes, scalars-chars}

pub scalars_join : (a b : List ℕ) → scalars a ≡ true → scalars b ≡ true → scalars (a ++ b) ≡ true
scalars_join [] b h k = k
scalars_join (c ∷ cs) b h k =
    let p = and_parts (scalar c) (scalars cs) h in
    and_from (scalar c) (scalars (cs ++ b)) p.0 (scalars_join cs b p.1 k)

pub text_of : (b cs : List ℕ) → scalars cs ≡ true → b ≡ encode_utf8_all cs → IsUtf8 b × (chars b ≡ cs)
text_of b cs h e = ((cs, (h, sym e)), ap chars e ∙ chars-encodes cs h)

-- If characters are written between two UTF-8 texts, the result is UTF-8. The result consists of the characters of the three
-- parts, in order.
pub between_texts : (p m s b : List ℕ) → IsUtf8 p → IsUtf8 s → scalars m ≡ true → b ≡ (p ++ encode_utf8_all m) ++ s
    → IsUtf8 b × (chars b ≡ chars p ++ (m ++ chars s))
between_texts p m s b u v h e =
    let cs : List ℕ = chars p ++ (m ++ chars s) in
    let whole : encode_utf8_all cs ≡ (p ++ encode_utf8_all m) ++ s =
    encodes-append (chars p) (m ++ chars s)
    ∙ ap (λ z. z ++ encode_utf8_all (m ++ chars s)) (encodes-chars p u)
    ∙ ap (λ z. p ++ z) (encodes-append m (chars s) ∙ ap (λ z. encode_utf8_all m ++ z) (encodes-chars s v))
    ∙ sym (append_assoc p (encode_utf8_all m) s) in
    text_of b cs (scalars_join (chars p) (m ++ chars s) (scalars-chars p u) (scalars_join m (chars s) h
    (scalars-chars s v))) (e ∙ sym whole)
