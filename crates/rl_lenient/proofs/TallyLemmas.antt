-- The magnitude of a number is computed from its first digits and its last digits.
use Rattle.rl_syntax.proofs.Common.{◌≡◌, ℕ, ◌+◌, ◌*◌, ◌<◌, ◌≤◌, Option, Some, None, refl, sym, ap, ◌∙◌, arith}
use Rattle.std.proofs.Math.Nat.{mul-le-mul_left}
use Rattle.rl_lenient.specs.Mirrors.NumberAt.{append_digit}
use Rattle.rl_syntax.specs.Numbers.{capped}
use Rattle.rl_lenient.proofs.DigitRowLemmas.{append_capped, capped_within}

-- Arithmetic: the number of all digits is `w * s + v`, where v is the number of the last digits. If v and s are updated for
-- one more digit d in the base r, the number of all digits is the old one with d appended.
spread : (w s r v d : ℕ) → w * (s * r) + (v * r + d) ≡ (w * s + v) * r + d
spread w s r v d = omega arith

-- Appending a digit to the last digits of a number gives the number of all digits with the digit appended.
pub append_last : (s r : ℕ) (m : Option ℕ) (v d : ℕ) → 1 ≤ r → append_digit (s * r) m (v * r + d)
    ≡ append_digit r (append_digit s m v) d
append_last s r None v d h = refl
append_last s r (Some w) v d h = ap capped (spread w s r v d) ∙ sym (append_capped r (w * s + v) d h)

-- A number below 2^58, with one more digit in a base up to 36, fits 64 bits.
pub stays_small : (v r d : ℕ) → v < 288230376151711744 → r ≤ 36 → d < r → v * r + d < 18446744073709551615
stays_small v r d h k l = omega (arith, mul-le-mul_left v k)

-- If a number with one more digit fits 64 bits, appending the digit gives that number, which is within 128 bits.
pub append_small : (v r d : ℕ) → v * r + d < 18446744073709551615 → Some (v * r + d) ≡ append_digit r (Some v) d
append_small v r d h = sym (capped_within (v * r + d) (omega arith))
