-- The start of a number: its sign, its base and its first digits.
use Rattle.rl_syntax.proofs.Common.{◌≡◌, ℕ, Bool, true, false, not, ◌&&◌, ◌||◌, ◌==◌, cond, List, [], ◌∷◌, Option, Some, None, refl, sym, ap, ◌∙◌, and_parts, eqb-true, is_ascii_digit}
use Rattle.rl_lenient.proofs.Names.{Sign, first_passes}
use Rattle.rl_lenient.specs.Mirrors.NumberAt.{after_digits, after_fraction, after_exponent, after_minus, based_at, capped_int, ended_at, float_at, float_tail_at, has_digit_at, int_at, is_suffix, IsHead, magnitude_at, may_begin_number, may_end, radix_at, radix_of, sign_at, with_sign}
use Rattle.rl_syntax.specs.Numbers.{capped}

abbrev ten : List ℕ → ℕ × List ℕ
ten u = (10, u)

-- Returns a base and the text after its prefix, if a condition holds. Otherwise, returns the base ten and the whole text.
abbrev chosen : Bool → ℕ → List ℕ → List ℕ → ℕ × List ℕ
chosen b r cs u = cond b (r, cs) (ten u)

-- If a number begins with a digit, the test `may_begin_number` is true for the text after the prefix of its base.
begins : (u : List ℕ) → first_passes is_ascii_digit u ≡ true → may_begin_number (radix_at u).0 (radix_at u).1 ≡ true
unfolding radix_at
begins [] h = absurd (cc)
begins (z ∷ []) h = h
begins (z ∷ c ∷ cs) h = go (z == 48 && not (radix_of c == 10)) refl
  where
    go : (b : Bool) → (z == 48 && not (radix_of c == 10)) ≡ b → may_begin_number
        (chosen b (radix_of c) cs (z ∷ c ∷ cs)).0 (chosen b (radix_of c) cs (z ∷ c ∷ cs)).1 ≡ true
    go true e = ap (λ b. b || first_passes is_ascii_digit cs) (and_parts (z == 48) (not (radix_of c == 10)) e).1
    go false e = h

-- If a text doesn't begin with a digit, `radix_at` returns the base ten.
no_base : (u : List ℕ) → first_passes is_ascii_digit u ≡ false → radix_at u ≡ ten u
unfolding radix_at
no_base [] h = refl
no_base (z ∷ []) h = refl
no_base (z ∷ c ∷ cs) h = go (z == 48) refl
  where
    go : (b : Bool) → (z == 48) ≡ b → chosen (b && not (radix_of c == 10)) (radix_of c) cs (z ∷ c ∷ cs)
        ≡ ten (z ∷ c ∷ cs)
    go true e = let d : is_ascii_digit z ≡ true = ap is_ascii_digit (eqb-true z 48 e) in absurd (cc)
    go false e = refl

-- If `radix_at` returns the base ten, it returns the whole text with it.
ten_whole : (u : List ℕ) → (radix_at u).0 ≡ 10 → radix_at u ≡ ten u
unfolding radix_at
ten_whole [] h = refl
ten_whole (z ∷ []) h = refl
ten_whole (z ∷ c ∷ cs) h = go (z == 48 && not (radix_of c == 10)) refl h
  where
    go : (b : Bool) → (z == 48 && not (radix_of c == 10)) ≡ b → (chosen b (radix_of c) cs (z ∷ c ∷ cs)).0 ≡ 10
        → chosen b (radix_of c) cs (z ∷ c ∷ cs) ≡ ten (z ∷ c ∷ cs)
    go true e h =
        let other = (and_parts (z == 48) (not (radix_of c == 10)) e).1 in
        let same : false ≡ true = sym (ap (λ r. not (r == 10)) h) ∙ other in
        absurd (cc)
    go false e h = refl

-- Limiting the magnitude of an integer to 128 bits gives an equal result before and after the choice between the integer and
-- `None`.
capped_cond : (s : Sign) (b : Bool) (n : ℕ) (x : List ℕ) → capped_int (with_sign s (cond b (Some (n, x)) None))
    ≡ cond b (Some (capped n, x)) None
capped_cond s true n x = refl
capped_cond s false n x = refl

-- If no digit follows the sign at the start of a text, the text isn't an integer.
pub no_head_int : (t : List ℕ) → first_passes is_ascii_digit (after_minus t) ≡ false → None ≡ capped_int (int_at t)
unfolding int_at based_at
no_head_int t h =
    let u = after_minus t in
    let r = radix_at u in
    let ends = has_digit_at r.0 r.1 && may_end r.0 (after_digits r.0 r.1) in
    let begin : may_begin_number r.0 r.1 ≡ false = ap (λ p. may_begin_number p.0 p.1) (no_base u h) ∙ h in
    sym (
    capped_cond (sign_at t) (may_begin_number r.0 r.1 && ends) (magnitude_at r.0 r.1) (after_digits r.0 r.1)
    ∙ ap (λ b. cond (b && ends) (Some (capped (magnitude_at r.0 r.1), after_digits r.0 r.1)) None) begin
    )

-- If no digit follows the sign at the start of a text, the text isn't a float.
pub no_head_float : (t : List ℕ) → first_passes is_ascii_digit (after_minus t) ≡ false → None ≡ float_at t
unfolding float_at
no_head_float t h =
    let x = after_exponent (after_fraction (after_digits 10 (after_minus t))) in
    sym (ap (λ b. cond (b && is_suffix x) (Some x) None) h)

-- From the parsed start of a number, `ended_at` returns what `int_at` returns for the whole text, with the magnitude limited
-- to 128 bits.
pub head_int : (t : List ℕ) (r : ℕ) (some : Bool) (m : Option ℕ) (x : List ℕ) → IsHead (after_minus t) r some m x
    → ended_at r some m x ≡ capped_int (int_at t)
unfolding int_at based_at
head_int t r some m x h =
    let p = radix_at (after_minus t) in
    let n = magnitude_at p.0 p.1 in
    let y = after_digits p.0 p.1 in
    let ends = has_digit_at p.0 p.1 && may_end p.0 y in
    ap (λ z. ended_at z some m x) h.base
    ∙ ap (λ b. ended_at p.0 b m x) h.has_digit
    ∙ ap (λ k. ended_at p.0 (has_digit_at p.0 p.1) k x) h.within
    ∙ ap (λ z. ended_at p.0 (has_digit_at p.0 p.1) (capped n) z) h.rest_is
    ∙ sym (
    capped_cond (sign_at t) (may_begin_number p.0 p.1 && ends) n y
    ∙ ap (λ b. cond (b && ends) (Some (capped n, y)) None) (begins (after_minus t) h.first)
    )

-- For a number in base ten, `float_tail_at` of the text after the first digits is equal to `float_at` of the whole text.
pub head_float : (t : List ℕ) (r : ℕ) (some : Bool) (m : Option ℕ) (x : List ℕ) → IsHead (after_minus t) r some m x → r
    ≡ 10 → float_tail_at x ≡ float_at t
unfolding float_at
head_float t r some m x h e =
    let u = after_minus t in
    let is : x ≡ after_digits 10 u = h.rest_is ∙ ap (λ p. after_digits p.0 p.1) (ten_whole u (sym h.base ∙ e)) in
    let y = after_exponent (after_fraction (after_digits 10 u)) in
    ap float_tail_at is ∙ sym (ap (λ b. cond (b && is_suffix y) (Some y) None) h.first)

-- If the code's base, digits, magnitude and remaining text are what `radix_at`, `has_digit_at`, `magnitude_at` and
-- `after_digits` return, they are the parsed start of the number (`IsHead`).
pub head_read : (u ds x : List ℕ) (r : ℕ) (some : Bool) (m : Option ℕ) → first_passes is_ascii_digit u ≡ true
    → ◌≡◌ {A = ℕ × List ℕ} (r, ds) (radix_at u) → some ≡ has_digit_at r ds → m ≡ capped (magnitude_at r ds) → x
    ≡ after_digits r ds → IsHead u r some m x
head_read u ds x r some m first base has within rest = record {
  first = first;
  base = ap (λ p. p.0) base;
  has_digit = has ∙ ap (λ p. has_digit_at p.0 p.1) base;
  within = within ∙ ap (λ p. capped (magnitude_at p.0 p.1)) base;
  rest_is = rest ∙ ap (λ p. after_digits p.0 p.1) base;
}
