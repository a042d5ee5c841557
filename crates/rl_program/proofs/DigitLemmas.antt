-- Lemmas about decoding pairs of hexadecimal digits, pair by pair.
use Rattle.rl_syntax.proofs.Common.{IsFalse, IsTrue, List, None, Option, Some, [], ap, append_assoc, arith, eqb, eqb-true, false, length, refl, sym, true, ℕ, ◌&&◌, ◌++◌, ◌<◌, ◌∙◌, ◌∷◌, ◌≡◌}
use Rattle.std.proofs.lemmas.List.{append-nil}
use Rattle.rl_syntax.specs.Quoted.{is_hex_digit, hex_value}
use Rattle.rl_program.specs.Digits.{with_front, bytes_of}

-- The invariant of the loop over pairs of hexadecimal digits holds before the first pair.
pub no_front : (x : Option (List ℕ)) → x ≡ with_front [] x
no_front (Some bytes) = refl
no_front None = refl

front_twice : (a : List ℕ) (b : ℕ) (x : Option (List ℕ)) → with_front a (with_front (b ∷ []) x)
    ≡ with_front (a ++ (b ∷ [])) x
front_twice a b (Some bytes) = ap Some (sym (append_assoc a (b ∷ []) bytes))
front_twice a b None = refl

-- The invariant of the loop over pairs of hexadecimal digits holds again after one more pair.
pub front_grows : (digits rest following bytes : List ℕ) (high low byte : ℕ) → bytes_of digits
    ≡ with_front bytes (bytes_of rest) → rest ≡ high ∷ low ∷ following → byte ≡ hex_value high low
    → IsTrue (is_hex_digit high && is_hex_digit low) → bytes_of digits
    ≡ with_front (bytes ++ (byte ∷ [])) (bytes_of following)
front_grows digits rest following bytes high low byte h r b t =
    let step : bytes_of (high ∷ low ∷ following) ≡ with_front (hex_value high low ∷ []) (bytes_of following) = rw t refl
    in
    h ∙ ap (λ z. with_front bytes (bytes_of z)) r ∙ ap (with_front bytes) step
    ∙ ap (λ z. with_front bytes (with_front (z ∷ []) (bytes_of following))) (sym b)
    ∙ front_twice bytes byte (bytes_of following)

-- If the next two bytes of a text aren't both hexadecimal digits, the text isn't decoded.
pub no_pair : (digits rest following bytes : List ℕ) (high low : ℕ) → bytes_of digits ≡ with_front bytes (bytes_of rest)
    → rest ≡ high ∷ low ∷ following → IsFalse (is_hex_digit high && is_hex_digit low) → None ≡ bytes_of digits
no_pair digits rest following bytes high low h r f =
    let step : bytes_of (high ∷ low ∷ following) ≡ None = rw f refl in
    sym (h ∙ ap (λ z. with_front bytes (bytes_of z)) r ∙ ap (with_front bytes) step)

-- If no text remains after pairs of hexadecimal digits, the bytes that were decoded so far are the value of the whole
-- text.
pub whole : (digits rest bytes : List ℕ) → bytes_of digits ≡ with_front bytes (bytes_of rest) → eqb (length rest) 0
    ≡ true → Some bytes ≡ bytes_of digits
whole digits [] bytes h e = sym (h ∙ ap Some (append-nil bytes))
whole digits (c ∷ rest) bytes h e = absurd (let n = eqb-true (length (c ∷ rest)) 0 e in omega arith)

-- If one byte remains after pairs of hexadecimal digits, the text isn't decoded.
pub odd : (digits rest bytes : List ℕ) → bytes_of digits ≡ with_front bytes (bytes_of rest) → eqb (length rest) 0
    ≡ false → length rest < 2 → None ≡ bytes_of digits
odd digits [] bytes h e n = absurd (cc)
odd digits (c ∷ []) bytes h e n = sym h
odd digits (c ∷ d ∷ rest) bytes h e n = absurd (omega arith)
