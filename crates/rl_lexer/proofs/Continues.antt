-- Digits, letters and underscores continue an identifier.
use Rattle.rl_syntax.proofs.Common.{◌≡◌, ℕ, ◌<◌, ◌≤◌, inl, inr, true, not, ◌&&◌, ◌||◌, ◌==◌, refl, sym, ◌∙◌, ap, subst, arith, lit<, nat_lt, digit_value, is_ascii_hexdigit, is_ascii_alphanumeric, is_xid_continue-ascii, or_cases, eqb-true, ltb-true, lt-ltb, agree_below_at, nat_tests}
use Rattle.rl_syntax.specs.Texts.{is_white, is_run_part, is_continue}
use Rattle.rl_syntax.proofs.Basics.{hex_is_sixteen}

hex_low : (c : ℕ) → is_ascii_hexdigit c ≡ true → c < 128
hex_low c h = grind (arith, nat_tests)

pub continue_ascii : (c : ℕ) → c < 128 → is_continue c ≡ ((is_ascii_alphanumeric c || (c == 95)) && not (is_white c))
continue_ascii c low = ap (λ b. b && not (is_white c)) (is_xid_continue-ascii c low)

hex_continues : (c : ℕ) → is_ascii_hexdigit c ≡ true → is_continue c ≡ true
hex_continues c h =
    let low : c < 128 = hex_low c h in
    let same : (not (is_ascii_hexdigit c) || ((is_ascii_alphanumeric c || (c == 95)) && not (is_white c))) ≡ true =
    agree_below_at (λ c. not (is_ascii_hexdigit c) || ((is_ascii_alphanumeric c || (c == 95)) && not (is_white c)))
    (λ c. true) 128 c refl low in
    continue_ascii c low ∙ ap (λ b. not b || ((is_ascii_alphanumeric c || (c == 95)) && not (is_white c))) (sym h)
    ∙ same

pub row_continues : (n c : ℕ) → n ≤ 16 → is_run_part (λ d. nat_lt (digit_value d) n) c ≡ true → is_continue c ≡ true
row_continues n c few h =
    elim (or_cases (nat_lt (digit_value c) n) (c == 95) h) [
      | inl a ↦
          let less : digit_value c < n = ltb-true (digit_value c) n a in
          hex_continues c (hex_is_sixteen c ∙ lt-ltb (digit_value c) 16 (omega arith))
      | inr a ↦ subst (λ (x : ℕ). is_continue x ≡ true) (sym (eqb-true c 95 a)) (continue_ascii 95 (lit< tt))
    ]
