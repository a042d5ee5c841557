-- Sequences of digits and underscores.
use Rattle.rl_syntax.proofs.Common.{◌≡◌, ◌≢◌, ℕ, suc, ◌+◌, ◌*◌, ◌^◌, ◌<◌, ◌≤◌, Bool, true, false, not, ◌||◌, ◌==◌, cond, List, [], ◌∷◌, Option, Some, None, length, refl, sym, ap, ◌∙◌, arith, ◌⊎◌, inl, inr, nat_lt, eqb-true, nat_tests, digit_value, list_any}
use Rattle.rl_lenient.proofs.Names.{pow-suc, place_value, without_underscores, limit, after_run, is_run_part}
use Rattle.std.proofs.Math.Nat.{mul-le-mul_left}
use native.Mathlib.Numerals.{unary_clauses}
use Rattle.rl_lenient.specs.Mirrors.NumberAt.{run, has_value, append_digit, run_from, digit_run_at, has_digit_at, magnitude_at, after_digits}
use Rattle.rl_syntax.specs.Numbers.{capped}

-- For a number within 128 bits, `capped` returns the number.
pub capped_within : (n : ℕ) → n ≤ limit → capped n ≡ Some n
capped_within n h = grind (arith, nat_tests)

-- For a number above 128 bits, `capped` returns `None`.
pub capped_past : (n : ℕ) → limit < n → capped n ≡ None
capped_past n h = grind (arith, nat_tests)

-- A number above 128 bits stays above 128 bits with one more digit.
mul_grows : (v r d : ℕ) → limit < v → 1 ≤ r → limit < v * r + d
mul_grows v r d h k = omega (arith, mul-le-mul_left v k)

-- A number is at most a second number, or above it.
pub within_or_past : (n m : ℕ) → (n ≤ m) ⊎ (m < n)
within_or_past n m = grind arith

-- Limiting a magnitude to 128 bits before a digit is appended gives the result of limiting it only afterwards.
pub append_capped : (r v d : ℕ) → 1 ≤ r → append_digit r (capped v) d ≡ capped (v * r + d)
append_capped r v d h = elim (within_or_past v limit) [
  | inl k ↦ ap (λ o. append_digit r o d) (capped_within v k)
  | inr k ↦ ap (λ o. append_digit r o d) (capped_past v k) ∙ sym (capped_past (v * r + d) (mul_grows v r d k h))
]

-- Arithmetic: the product `(v * r + d) * q` is multiplied out.
place_with : (v r d q p : ℕ) → (v * r + d) * q + p ≡ v * (q * r) + (d * q + p)
place_with v r d q p = omega arith

-- Arithmetic: digits with the value v precede the digit d, and n digits with the value p follow d. The value of all digits
-- can be computed from v and d first, or from d and p first. Both results are equal.
place_step : (v r d n p : ℕ) → (v * r + d) * r ^ n + p ≡ v * r ^ suc n + (d * r ^ n + p)
place_step v r d n p = place_with v r d (r ^ n) p ∙ ap (λ q. v * q + (d * r ^ n + p)) (sym (pow-suc r n))

-- The parse result of the digits and underscores `ds` in a base, if digits with the value v precede `ds`, and the text x
-- follows. It consists of whether there is a digit, the magnitude of all digits within 128 bits, and x.
abbrev At : ℕ → Bool → ℕ → List ℕ → List ℕ → Bool × Option ℕ × List ℕ
At r some v ds x = (
  some || list_any (has_value r) ds,
  capped
      (v * r ^ length (without_underscores ds) + place_value r (without_underscores ds)),
  x,
)

-- A `bool` is unchanged by `|| false`.
or_false : (a : Bool) → a ≡ (a || false)
or_false true = refl
or_false false = refl

-- The `bool` `a || (true || b)` is `true`.
or_true : (a b : Bool) → (a || (true || b)) ≡ true
or_true true b = refl
or_true false b = refl

-- A number to which no digits are appended is unchanged.
times_one : (v r : ℕ) → v ≡ v * r ^ 0 + 0
times_one v r = simp unary_clauses (omega arith)

-- If no digit or underscore follows the digits with the value v, the magnitude in their parse result is v.
at_end : (r : ℕ) (some : Bool) (v : ℕ) (x : List ℕ) → (some, capped v, x) ≡ At r some v [] x
at_end r some v x = ap (λ b. (b, capped v, x)) (or_false some) ∙ ap (λ n. (some || false, capped n, x)) (times_one v r)

-- An underscore before the digits and underscores `ds` doesn't change the parse result.
at_mark : (r : ℕ) (some : Bool) (v : ℕ) (ds x : List ℕ) → r ≤ 36 → At r some v (95 ∷ ds) x ≡ At r some v ds x
at_mark r some v ds x h =
    let e : nat_lt 36 r ≡ false = grind (arith, nat_tests) in
    ap (λ b. (
      some || (b || list_any (has_value r) ds),
      capped
          (v * r ^ length (without_underscores ds) + place_value r (without_underscores ds)),
      x,
    )) e

-- Parsing one digit, and then the other digits with the number so far, gives the parse result of the whole sequence.
at_digit : (r : ℕ) (some : Bool) (v c : ℕ) (ds x : List ℕ) → (c == 95) ≡ false → nat_lt (digit_value c) r ≡ true
    → At r true (v * r + digit_value c) ds x ≡ At r some v (c ∷ ds) x
at_digit r some v c ds x n d =
    let w : List ℕ = without_underscores ds in
    let kept : without_underscores (c ∷ ds) ≡ c ∷ w = ap (λ b. cond (not b) (c ∷ w) w) n in
    ap (λ k. (true, capped k, x)) (place_step v r (digit_value c) (length w) (place_value r w))
    ∙ ap (λ b. (b, capped (v * r ^ suc (length w) + (digit_value c * r ^ length w + place_value r w)), x))
    (sym (or_true some (list_any (has_value r) ds)))
    ∙ ap (λ b. (
      some || (b || list_any (has_value r) ds),
      capped
          (v * r ^ suc (length w) + (digit_value c * r ^ length w + place_value r w)),
      x,
    )) (sym d)
    ∙ ap (λ u. (some || list_any (has_value r) (c ∷ ds), capped (v * r ^ length u + place_value r u), x)) (sym kept)

-- If the character c passes a test, the leading passing characters of `c ∷ cs` are c and the leading passing characters of
-- `cs`.
pub run_yes : (test : ℕ → Bool) (c : ℕ) (cs : List ℕ) → test c ≡ true → (run test (c ∷ cs) ≡ c ∷ run test cs)
    × (after_run test (c ∷ cs) ≡ after_run test cs)
unfolding run
run_yes test c cs h = (ap (λ b. cond b (c ∷ run test cs) []) h, ap (λ b. cond b (after_run test cs) (c ∷ cs)) h)

-- If the first character of a text fails a test, no leading character passes the test, and the whole text is left.
pub run_no : (test : ℕ → Bool) (c : ℕ) (cs : List ℕ) → test c ≡ false → (run test (c ∷ cs) ≡ [])
    × (after_run test (c ∷ cs) ≡ c ∷ cs)
unfolding run
run_no test c cs h = (ap (λ b. cond b (c ∷ run test cs) []) h, ap (λ b. cond b (after_run test cs) (c ∷ cs)) h)

-- In the parse result `At`, the digits `ds` and the text x are replaced by the equal texts that `digit_run_at` and
-- `after_digits` return.
at_parts : (r : ℕ) (some : Bool) (v : ℕ) (t ds x : List ℕ) → digit_run_at r t ≡ ds → after_digits r t ≡ x
    → At r some v ds x ≡ At r some v (digit_run_at r t) (after_digits r t)
at_parts r some v t ds x d a = ap (λ u. At r some v u x) (sym d) ∙ ap (λ y. At r some v (digit_run_at r t) y) (sym a)

-- An underscore belongs to a sequence of digits in each base.
part_mark : (r c : ℕ) → (c == 95) ≡ true → is_run_part (has_value r) c ≡ true
part_mark r c h = go (has_value r c)
  where
    go : (b : Bool) → (b || (c == 95)) ≡ true
    go true = refl
    go false = h

-- A digit of a base belongs to a sequence of digits in this base.
part_digit : (r c : ℕ) → nat_lt (digit_value c) r ≡ true → is_run_part (has_value r) c ≡ true
part_digit r c h = ap (λ b. b || (c == 95)) h

-- A character that is neither an underscore nor a digit of a base doesn't belong to a sequence of digits in this base.
part_none : (r c : ℕ) → (c == 95) ≡ false → nat_lt (digit_value c) r ≡ false → is_run_part (has_value r) c ≡ false
part_none r c n h = ap (λ b. b || (c == 95)) h ∙ n

-- Parsing digits and underscores one by one gives the parse result of all the digits and underscores at the start of the text.
pub row_is : (r : ℕ) (some : Bool) (v : ℕ) (t : List ℕ) → 1 ≤ r → r ≤ 36 → run_from r some (capped v) t
    ≡ At r some v (digit_run_at r t) (after_digits r t)
unfolding run_from run
row_is r some v [] h k = at_end r some v []
row_is r some v (c ∷ cs) h k = go (λ s w. row_is r s w cs h k) (c == 95) (nat_lt (digit_value c) r) refl refl
  where
    go : ((s : Bool) (w : ℕ) → run_from r s (capped w) cs ≡ At r s w (digit_run_at r cs) (after_digits r cs))
        → (u g : Bool) → (c == 95) ≡ u → nat_lt (digit_value c) r ≡ g
        → cond u (run_from r some (capped v) cs) (cond g (run_from r true (append_digit r (capped v) (digit_value c))
        cs) (some, capped v, c ∷ cs)) ≡ At r some v (digit_run_at r (c ∷ cs)) (after_digits r (c ∷ cs))
    go rec true g hu hg =
        let y = run_yes (is_run_part (has_value r)) c cs (part_mark r c hu) in
        rec some v
        ∙ sym (at_mark r some v (digit_run_at r cs) (after_digits r cs) k)
        ∙ ap (λ z. At r some v (z ∷ digit_run_at r cs) (after_digits r cs)) (sym (eqb-true c 95 hu))
        ∙ at_parts r some v (c ∷ cs) (c ∷ digit_run_at r cs) (after_digits r cs) y.0 y.1
    go rec false true hu hg =
        let y = run_yes (is_run_part (has_value r)) c cs (part_digit r c hg) in
        ap (λ m. run_from r true m cs) (append_capped r v (digit_value c) h)
        ∙ rec true (v * r + digit_value c)
        ∙ at_digit r some v c (digit_run_at r cs) (after_digits r cs) hu hg
        ∙ at_parts r some v (c ∷ cs) (c ∷ digit_run_at r cs) (after_digits r cs) y.0 y.1
    go rec false false hu hg =
        let y = run_no (is_run_part (has_value r)) c cs (part_none r c hu hg) in
        at_end r some v (c ∷ cs) ∙ at_parts r some v (c ∷ cs) [] (c ∷ cs) y.0 y.1

-- A zero before digits adds nothing to the number that they represent.
zero_times : (q p : ℕ) → 0 * q + p ≡ p
zero_times q p = omega arith

-- Parsing the digits and underscores at the start of a text returns whether there is a digit, the magnitude within 128 bits, and
-- the text after them.
pub row_start : (r : ℕ) (t : List ℕ) → 1 ≤ r → r ≤ 36 → run_from r false (Some 0) t
    ≡ (has_digit_at r t, capped (magnitude_at r t), after_digits r t)
row_start r t h k = row_is r false 0 t h k ∙ ap (λ n. (has_digit_at r t, capped n, after_digits r t))
    (zero_times (r ^ length (without_underscores (digit_run_at r t))) (magnitude_at r t))

-- If no magnitude is computed while digits are parsed, the other results are unchanged: whether there is a digit, and the text
-- after the digits.
row_without : (r : ℕ) (some : Bool) (m : Option ℕ) (t : List ℕ) → run_from r some None t
    ≡ ((run_from r some m t).0, None, (run_from r some m t).2)
unfolding run_from
row_without r some m [] = refl
row_without r some m (c ∷ cs) = go (c == 95) (nat_lt (digit_value c) r) (row_without r some m cs)
    (row_without r true (append_digit r m (digit_value c)) cs)
  where
    go : (u g : Bool) → run_from r some None cs ≡ ((run_from r some m cs).0, None, (run_from r some m cs).2)
        → run_from r true None cs ≡ (
          (run_from r true (append_digit r m (digit_value c)) cs).0,
          None,
          (run_from r true (append_digit r m (digit_value c)) cs).2,
        )
        → cond u (run_from r some None cs) (cond g (run_from r true None cs) (some, None, c ∷ cs))
        ≡ (
          (cond u (run_from r some m cs) (cond g (run_from r true (append_digit r m (digit_value c)) cs)
              (some, m, c ∷ cs))).0,
          None,
          (cond u (run_from r some m cs)
              (cond g (run_from r true (append_digit r m (digit_value c)) cs) (some, m, c ∷ cs))).2,
        )
    go true g marked digit = marked
    go false true marked digit = digit
    go false false marked digit = refl

-- If no magnitude is computed, parsing the digits and underscores at the start of a text returns whether there is a digit, and
-- the text after them.
pub row_skipped : (r : ℕ) (t : List ℕ) → 1 ≤ r → r ≤ 36 → run_from r false None t
    ≡ (has_digit_at r t, None, after_digits r t)
row_skipped r t h k = row_without r false (Some 0) t ∙ ap (λ p. (p.0, None, p.2)) (row_start r t h k)

-- If the code parses the first digit of a text, and then the text after the digit, the result is the parse result of the
-- whole text.
pub row_digit : (r : ℕ) (some : Bool) (m n : Option ℕ) (t : List ℕ) (c : ℕ) (cs : List ℕ) (d : ℕ) → t ≡ c ∷ cs → c ≢ 95
    → digit_value c < r → d ≡ digit_value c → n ≡ append_digit r m d → run_from r true n cs ≡ run_from r some m t
unfolding run_from
row_digit r some m n t c cs d e ne l q w =
    let a : (c == 95) ≡ false = grind (arith, nat_tests) in
    let b : nat_lt (digit_value c) r ≡ true = grind (arith, nat_tests) in
    ap (λ o. run_from r true o cs) (w ∙ ap (λ k. append_digit r m k) q)
    ∙ sym (ap (run_from r some m) e ∙ ap (λ x. cond x (run_from r some m cs)
    (cond (nat_lt (digit_value c) r) (run_from r true (append_digit r m (digit_value c)) cs) (some, m, c ∷ cs))) a
    ∙ ap (λ x. cond x (run_from r true (append_digit r m (digit_value c)) cs) (some, m, c ∷ cs)) b)
