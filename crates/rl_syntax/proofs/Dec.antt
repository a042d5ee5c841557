-- Numbers in base ten, of any size.
use Rattle.rl_syntax.proofs.Common.{◌≡◌, ℕ, suc, zero, ◌/◌, ◌%◌, ◌<◌, ◌≤◌, ◌^◌, true, false, ◌==◌, cond, List, [], ◌∷◌, sym, ap, ◌∙◌, arith, nat_tests}
use Rattle.std.proofs.Math.Nat.{pow-suc}
use Rattle.std.specs.Fmt.{digits, decimal, digits_onto, digit_glyph}
use Rattle.rl_syntax.specs.Numbers.{limit}
use Rattle.rl_syntax.specs.Strict.{dec}

quotient_small : (n k : ℕ) → n < 10 ^ suc k → n / 10 < 10 ^ k
quotient_small n k h = let e = pow-suc 10 k in omega arith

one_digit : (n : ℕ) → n < 10 ^ 1 → (n / 10 == 0) ≡ true
one_digit n h = grind (arith, nat_tests)

-- If the digits of a number fit into each of two limits on their count, `digits_onto` writes equal digits for both limits.
pub room : (k j n : ℕ) (acc : List ℕ) → n < 10 ^ suc k → n < 10 ^ suc j → digits_onto (suc k) 10 false n acc
    ≡ digits_onto (suc j) 10 false n acc
room zero j n acc h l =
    let now : List ℕ = digit_glyph false (n % 10) ∷ acc in
    ap (λ b. cond b now now) (one_digit n h) ∙ sym (ap (λ b. cond b now (digits_onto j 10 false (n / 10) now))
    (one_digit n h))
room (suc k) zero n acc h l =
    let now : List ℕ = digit_glyph false (n % 10) ∷ acc in
    ap (λ b. cond b now (digits_onto (suc k) 10 false (n / 10) now)) (one_digit n l)
    ∙ sym (ap (λ b. cond b now now) (one_digit n l))
room (suc k) (suc j) n acc h l =
    let now : List ℕ = digit_glyph false (n % 10) ∷ acc in
    ap (λ z. cond (n / 10 == 0) now z) (room k j (n / 10) now (quotient_small n (suc k) h) (quotient_small n (suc j) l))

below_power : (n : ℕ) → n < 10 ^ suc n
below_power zero = omega arith
below_power (suc n) = let h = below_power n in let e = pow-suc 10 (suc n) in omega arith

-- For a number of up to 64 decimal digits, `dec` and std's `decimal` write equal digits. `decimal` writes only the last 64
-- digits.
pub dec_is : (n : ℕ) → n < 10 ^ 64 → dec n ≡ decimal n
unfolding dec digits
dec_is n h = room n 63 n [] (below_power n) h

-- For a number within 128 bits, `dec` and std's `decimal` write equal digits.
pub dec_is_decimal : (n : ℕ) → n ≤ limit → dec n ≡ decimal n
dec_is_decimal n h = dec_is n (omega arith)
