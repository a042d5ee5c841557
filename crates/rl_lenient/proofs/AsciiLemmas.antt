-- Lemmas on texts that don't begin with an ASCII character.
use Rattle.rl_syntax.proofs.Common.{◌≡◌, ℕ, ◌≤◌, ◌<◌, false, ltb, eqb, List, [], ◌∷◌, None, refl, arith, ltb-false, nat_tests, is_ascii_digit, digit_value}
use Rattle.rl_lenient.proofs.Names.{le-ltb, Kind, Str, ByteStr, first_passes, NoSign}
use Rattle.std.specs.Char.{is_ascii}
use Rattle.rl_syntax.proofs.LowBytes.{not_equal}
use Rattle.rl_lenient.specs.Mirrors.NumberAt.{after_minus, radix_at, sign_at}
use Rattle.rl_lenient.specs.Mirrors.OpenerAt.{string_opener_at, byte_opener_at, opener_at}
use Rattle.rl_lenient.specs.Mirrors.UnitAt.{digit_at, close_at, brace_at, escape_at}

not_below : (c k : ℕ) → k ≤ c → ltb c k ≡ false
not_below c k h = le-ltb c k h

past : (c : ℕ) → is_ascii c ≡ false → 128 ≤ c
past c h = omega (arith, ltb-false c 128 h)

no_value : (c : ℕ) → 128 ≤ c → ltb (digit_value c) 16 ≡ false
no_value c high = rw (
  not_below c 48 (omega arith),
  not_below c 58 (omega arith),
  not_below c 65 (omega arith),
  not_below c 91 (omega arith),
  not_below c 97 (omega arith),
  not_below c 123 (omega arith),
) refl

pub no_digit : (t : List ℕ) → first_passes is_ascii t ≡ false → digit_at t ≡ None
no_digit [] h = refl
no_digit (c ∷ cs) h = rw (no_value c (past c h)) refl

pub no_close : (t : List ℕ) → first_passes is_ascii t ≡ false → close_at t ≡ None
no_close [] h = refl
no_close (c ∷ cs) h = rw (not_equal c 125 (omega arith) (past c h)) refl

pub no_brace : (t : List ℕ) → first_passes is_ascii t ≡ false → brace_at t ≡ None
no_brace [] h = refl
no_brace (c ∷ cs) h = rw (not_equal c 123 (omega arith) (past c h)) refl

pub no_escape : (kind : Kind) (t : List ℕ) → first_passes is_ascii t ≡ false → escape_at kind t ≡ None
unfolding escape_at
no_escape kind [] h = refl
no_escape kind (c ∷ cs) h =
    let high = past c h in
    rw (
      not_equal c 120 (omega arith) high,
      not_equal c 117 (omega arith) high,
      not_equal c 10 (omega arith) high,
      not_equal c 13 (omega arith) high,
      not_equal c 110 (omega arith) high,
      not_equal c 114 (omega arith) high,
      not_equal c 116 (omega arith) high,
      not_equal c 92 (omega arith) high,
      not_equal c 39 (omega arith) high,
      not_equal c 34 (omega arith) high,
      not_equal c 48 (omega arith) high,
    ) refl

pub no_backslash : (t : List ℕ) → first_passes is_ascii t ≡ false → first_passes (λ c. eqb c 92) t ≡ false
no_backslash [] h = refl
no_backslash (c ∷ cs) h = not_equal c 92 (omega arith) (past c h)

pub no_string_opener : (kind : Kind) (t : List ℕ) → first_passes is_ascii t ≡ false → string_opener_at kind t ≡ None
no_string_opener kind [] h = refl
no_string_opener kind (c ∷ cs) h = let high = past c h in rw
    (not_equal c 34 (omega arith) high, not_equal c 114 (omega arith) high) refl

pub no_byte_opener : (t : List ℕ) → first_passes is_ascii t ≡ false → byte_opener_at t ≡ None
no_byte_opener [] h = refl
no_byte_opener (c ∷ cs) h = rw (not_equal c 39 (omega arith) (past c h)) (no_string_opener ByteStr (c ∷ cs) h)

pub no_opener : (t : List ℕ) → first_passes is_ascii t ≡ false → opener_at t ≡ None
unfolding opener_at
no_opener [] h = refl
no_opener (c ∷ cs) h = let high = past c h in rw (
  not_equal c 39 (omega arith) high,
  not_equal c 98 (omega arith) high,
  not_equal c 99 (omega arith) high,
) (no_string_opener Str (c ∷ cs) h)

pub no_quote : (q : ℕ) (t x : List ℕ) → q < 128 → first_passes is_ascii t ≡ false → t ≡ q ∷ x → ⊥
no_quote q [] x low h e = absurd (cc)
no_quote q (c ∷ cs) x low h e = let same : c ≡ q = cc in omega (arith, same, past c h)

pub no_minus : (t : List ℕ) → first_passes is_ascii t ≡ false → after_minus t ≡ t
no_minus [] h = refl
no_minus (c ∷ cs) h = rw (not_equal c 45 (omega arith) (past c h)) refl

pub no_sign : (t : List ℕ) → first_passes is_ascii t ≡ false → sign_at t ≡ NoSign
no_sign [] h = refl
no_sign (c ∷ cs) h = rw (not_equal c 45 (omega arith) (past c h)) refl

pub no_decimal : (t : List ℕ) → first_passes is_ascii t ≡ false → first_passes is_ascii_digit t ≡ false
no_decimal [] h = refl
no_decimal (c ∷ cs) h = let high = past c h in grind (arith, nat_tests)

pub no_zero : (t : List ℕ) → first_passes is_ascii t ≡ false → ◌≡◌ {A = ℕ × List ℕ} (radix_at t) (10, t)
unfolding radix_at
no_zero [] h = refl
no_zero (c ∷ []) h = refl
no_zero (c ∷ d ∷ ds) h = rw (not_equal c 48 (omega arith) (past c h)) refl

pub no_radix_letter : (t : List ℕ) → first_passes is_ascii t ≡ false
    → ◌≡◌ {A = ℕ × List ℕ} (radix_at (48 ∷ t)) (10, 48 ∷ t)
unfolding radix_at
no_radix_letter [] h = refl
no_radix_letter (c ∷ cs) h = let high = past c h in rw (
  not_equal c 98 (omega arith) high,
  not_equal c 111 (omega arith)
      high,
  not_equal c 120 (omega arith) high,
) refl
