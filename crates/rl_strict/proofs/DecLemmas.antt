-- The decimal text of an integer of any size: it represents the integer, contains only digits, and has no leading zero unless
-- the integer is 0.
use Rattle.rl_strict.proofs.Names.{◌≡◌, ℕ, suc, zero, ◌+◌, ◌*◌, ◌<◌, ◌≤◌, ◌^◌, Bool, true, false, eqb, ◌==◌, cond, List, [], ◌∷◌, length, refl, sym, ap, ◌∙◌, arith, eqb-true, ne_eqb, nat_tests, digit_value, is_ascii_digit, list_all, first_passes, ◌/◌, ◌%◌, agree_below_at, pow-succ', dec, place_value}
use Rattle.std.specs.Fmt.{digits_onto, digit_glyph}
use Rattle.rl_lenient.proofs.PlainNumberLemmas.{onto_digits}

-- ---- the text of one decimal digit

glyph_value : (d : ℕ) → d < 10 → digit_value (digit_glyph false d) ≡ d
glyph_value d h = eqb-true _ _ (agree_below_at (λ d. eqb (digit_value (digit_glyph false d)) d) (λ d. true) 10 d refl h)

glyph_zero : (d : ℕ) → d < 10 → eqb (digit_glyph false d) 48 ≡ eqb d 0
glyph_zero d h = agree_below_at (λ d. eqb (digit_glyph false d) 48) (λ d. eqb d 0) 10 d refl h

-- ---- the number that the digits represent

push_value : (d : ℕ) (ds : List ℕ) → d < 10 → place_value 10 (digit_glyph false d ∷ ds)
    ≡ d * 10 ^ length ds + place_value 10 ds
push_value d ds h = ap (λ v. v * 10 ^ length ds + place_value 10 ds) (glyph_value d h)

linear : (q r p x s : ℕ) → x ≡ r * p + s → q * (10 * p) + x ≡ (q * 10 + r) * p + s
linear q r p x s h = omega arith

no_times : (p x : ℕ) → x ≡ 0 * p + x
no_times p x = omega arith

tenfold : (k : ℕ) → 10 ^ suc k ≡ 10 * 10 ^ k
tenfold k = pow-succ' 10 k

value_step : (n : ℕ) (ds more : List ℕ) (b : Bool) → (n / 10 == 0) ≡ b → place_value 10 more
    ≡ n / 10 * 10 ^ suc (length ds) + place_value 10 (digit_glyph false (n % 10) ∷ ds)
    → place_value 10 (cond b (digit_glyph false (n % 10) ∷ ds) more) ≡ n * 10 ^ length ds + place_value 10 ds
value_step n ds more true e more_is =
    let none : n / 10 ≡ 0 = eqb-true (n / 10) 0 e in
    let same : n % 10 ≡ n = omega arith in
    push_value (n % 10) ds (omega arith) ∙ ap (λ d. d * 10 ^ length ds + place_value 10 ds) same
value_step n ds more false e more_is =
    let x = place_value 10 (digit_glyph false (n % 10) ∷ ds) in
    let parts : n / 10 * 10 + n % 10 ≡ n = omega arith in
    more_is
    ∙ ap (λ p. n / 10 * p + x) (tenfold (length ds))
    ∙ linear (n / 10) (n % 10) (10 ^ length ds) x (place_value 10 ds) (push_value (n % 10) ds (omega arith))
    ∙ ap (λ m. m * 10 ^ length ds + place_value 10 ds) parts

onto_value : (k n : ℕ) (ds : List ℕ) → n ≤ k → place_value 10 (digits_onto (suc k) 10 false n ds)
    ≡ n * 10 ^ length ds + place_value 10 ds
onto_value zero n ds h =
    let now : List ℕ = digit_glyph false (n % 10) ∷ ds in
    let last : n / 10 ≡ 0 = omega arith in
    value_step n ds now (n / 10 == 0) refl (no_times (10 ^ suc (length ds)) (place_value 10 now)
    ∙ ap (λ q. q * 10 ^ suc (length ds) + place_value 10 now) (sym last))
onto_value (suc k) n ds h =
    let now : List ℕ = digit_glyph false (n % 10) ∷ ds in
    value_step n ds (digits_onto (suc k) 10 false (n / 10) now) (n / 10 == 0) refl
    (onto_value k (n / 10) now (omega arith))

pub dec_spells : (n : ℕ) → place_value 10 (dec n) ≡ n
unfolding dec
dec_spells n = let e = onto_value n n [] (omega arith) in omega arith

-- ---- the text contains only digits

pub dec_digits : (n : ℕ) → list_all is_ascii_digit (dec n) ≡ true
unfolding dec
dec_digits n = onto_digits (suc n) n [] refl

-- ---- the text has no leading zero

zero_step : (n : ℕ) (ds more : List ℕ) (b : Bool) → 0 < n → (n / 10 == 0) ≡ b → ((n / 10 == 0) ≡ false → first_passes (λ
    c. c == 48) more ≡ false) → first_passes (λ c. c == 48) (cond b (digit_glyph false (n % 10) ∷ ds) more) ≡ false
zero_step n ds more true p e m =
    let none : n / 10 ≡ 0 = eqb-true (n / 10) 0 e in
    glyph_zero (n % 10) (omega arith) ∙ ne_eqb (n % 10) 0 (λ z. omega arith)
zero_step n ds more false p e m = m e

onto_no_zero : (k n : ℕ) (ds : List ℕ) → 0 < n → n ≤ k → first_passes (λ c. c == 48) (digits_onto (suc k) 10 false n ds)
    ≡ false
onto_no_zero zero n ds p h = absurd (omega arith)
onto_no_zero (suc k) n ds p h =
    let now : List ℕ = digit_glyph false (n % 10) ∷ ds in
    zero_step n ds (digits_onto (suc k) 10 false (n / 10) now) (n / 10 == 0) p refl
    (λ e. onto_no_zero k (n / 10) now (some e) (omega arith))
  where
    some : (n / 10 == 0) ≡ false → 0 < n / 10
    some e = grind (arith, nat_tests)

pub dec_no_zero : (n : ℕ) → 0 < n → first_passes (λ c. c == 48) (dec n) ≡ false
unfolding dec
dec_no_zero n p = onto_no_zero n n [] p (omega arith)

pub dec_zero : dec 0 ≡ 48 ∷ []
unfolding dec
dec_zero = refl
