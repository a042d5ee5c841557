-- Identifier characters in ASCII.
use Rattle.rl_syntax.proofs.Common.{◌≡◌, ℕ, ◌<◌, Bool, true, false, not, ◌&&◌, ◌||◌, ◌==◌, ◌∙◌, ap, sym, refl, arith, nat_lt, nat_tests, is_ascii_alphabetic, is_ascii_alphanumeric, is_xid_start-ascii, is_xid_continue-ascii, is_xid_start, is_xid_continue}
use Rattle.rl_syntax.specs.Texts.{is_white, is_start, is_continue}

-- If no white space passes a test, a character passes the test exactly if it passes the test and isn't white space.
plain : (b w : Bool) → (b ≡ true → w ≡ false) → (b && not w) ≡ b
plain true w h = ap not (h refl)
plain false w h = refl

pub either : (b : Bool) → {d : Bool} → d ≡ true → (b || d) ≡ true
either true h = refl
either false h = h

differ : (c k : ℕ) → c < k → (c == k) ≡ false
differ c k less = grind (arith, nat_tests)

passed : (c k : ℕ) → k < c → (c == k) ≡ false
passed c k less = grind (arith, nat_tests)

above : (k c : ℕ) → k < c → nat_lt k c ≡ true
above k c less = grind (arith, nat_tests)

not_above : (k c : ℕ) → c < k → nat_lt k c ≡ false
not_above k c less = grind (arith, nat_tests)

-- An ASCII character from `0` on isn't white space.
no_white : (c : ℕ) → 47 < c → c < 128 → is_white c ≡ false
no_white c low high =
    rw (
      not_above c 14 (omega (arith, low)),
      above 8 c (omega (arith, low)),
      passed c 32 (omega (arith, low)),
      differ c 133 (omega (arith, high)),
      differ c 160 (omega (arith, high)),
      differ c 5760 (omega (arith, high)),
      not_above 8191 c (omega (arith, high)),
      differ c 8232 (omega (arith, high)),
      differ c 8233 (omega (arith, high)),
      differ c 8239 (omega (arith, high)),
      differ c 8287 (omega (arith, high)),
      differ c 12288 (omega (arith, high)),
      differ c 8206 (omega (arith, high)),
      differ c 8207 (omega (arith, high)),
    ) refl

start_low : (c : ℕ) → (c == 95 || is_ascii_alphabetic c) ≡ true → 47 < c
start_low c is = grind (arith, nat_tests)

continue_low : (c : ℕ) → (is_ascii_alphanumeric c || (c == 95)) ≡ true → 47 < c
continue_low c is = grind (arith, nat_tests)

pub ascii_xid_start : (c : ℕ) → c < 128 → is_xid_start c ≡ is_ascii_alphabetic c
ascii_xid_start c low = is_xid_start-ascii c low

pub ascii_xid_continue : (c : ℕ) → c < 128 → is_xid_continue c ≡ (is_ascii_alphanumeric c || (c == 95))
ascii_xid_continue c low = is_xid_continue-ascii c low

-- An ASCII character passes the test `is_start` exactly if it is an underscore or begins an identifier by Unicode. None of these
-- characters is white space.
pub start_is_plain : (c : ℕ) → c < 128 → is_start c ≡ (c == 95 || is_xid_start c)
start_is_plain c low =
    plain (c == 95 || is_xid_start c) (is_white c)
    (λ is. no_white c (start_low c (ap (λ b. c == 95 || b) (sym (ascii_xid_start c low)) ∙ is)) low)

pub continue_is_plain : (c : ℕ) → c < 128 → is_continue c ≡ is_xid_continue c
continue_is_plain c low =
    plain (is_xid_continue c) (is_white c)
    (λ is. no_white c (continue_low c (sym (ascii_xid_continue c low) ∙ is)) low)
