-- A text has at most one prefix of a given length in bytes.
use Rattle.rl_syntax.proofs.Common.{◌≡◌, ℕ, List, [], ◌∷◌, ◌++◌, length, refl, sym, ◌∙◌, ap, arith, encode_utf8, encode_utf8_all, len_utf8_bounds, length-encode}
use Rattle.std.proofs.Common.{length-append}
use Rattle.rl_syntax.specs.Texts.{byte_len}
use Rattle.rl_lexer.proofs.CutLemmas.{byte_len-append}

-- A character has at least one byte.
some_bytes : (c : ℕ) (cs : List ℕ) → byte_len (c ∷ cs) ≡ 0 → ⊥
some_bytes c cs e =
    let whole : length (encode_utf8 c ++ encode_utf8_all cs) ≡ 0 = e in
    let long = length-append (encode_utf8 c) (encode_utf8_all cs) in
    absurd (omega (arith, whole, long, length-encode c, len_utf8_bounds c))

pub same_place : (g h u v : List ℕ) → g ++ u ≡ h ++ v → byte_len g ≡ byte_len h → (g ≡ h) × (u ≡ v)
same_place [] [] u v e n = (refl, e)
same_place [] (d ∷ h) u v e n = absurd (some_bytes d h (sym n))
same_place (c ∷ g) [] u v e n = absurd (some_bytes c g n)
same_place (c ∷ g) (d ∷ h) u v e n =
    let first : c ≡ d = cc in
    let rest : g ++ u ≡ h ++ v = cc in
    let count = byte_len-append (c ∷ []) g in
    let other = byte_len-append (d ∷ []) h in
    let one : byte_len (c ∷ []) ≡ byte_len (d ∷ []) = ap (λ z. byte_len (z ∷ [])) first in
    let same = same_place g h u v rest (omega (arith, n, count, other, one)) in
    (ap (λ z. z ∷ g) first ∙ ap (λ z. d ∷ z) same.0, same.1)
