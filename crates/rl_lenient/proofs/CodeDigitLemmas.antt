-- The digits of an escape `\u{..}`, which the code parses one at a time.
use Rattle.rl_syntax.proofs.Common.{◌≡◌, ℕ, ◌+◌, ◌*◌, ◌≤◌, ◌<◌, ◌&&◌, Bool, true, false, cond, eqb, ltb, List, [], ◌∷◌, Option, Some, None, refl, sym, ap, subst, inl, inr, arith, option_and_then, digit_value, scalar, both_ways, cases_Bool, eq-eqb, eqb-true, lt-ltb, ltb-true, ltb-false, ne_eqb}
use Rattle.rl_lenient.proofs.Names.{Kind, allows_code, allows_unicode_escapes, is_hex_digit}
use Rattle.rl_lenient.specs.Mirrors.UnitAt.{◌>>=◌, brace_at, closed_at, code_digits_at, digit_at, first_code_digits_at, number_if, unicode_at}

-- ---- the parse result of an escape `\u{..}`

-- Returns the code point that an escape `\u{..}` represents, and the text after its closing brace. The text follows n digits
-- of the escape, which represent the number v.
unfoldable pub unicode_digits_at : ℕ → ℕ → List ℕ → Option (ℕ × List ℕ)
unicode_digits_at v n [] = None
unicode_digits_at v n (c ∷ cs) = cond (eqb c 125) (number_if (scalar v) v cs)
    (cond (eqb c 95) (unicode_digits_at v n cs) (cond (is_hex_digit c && ltb n 6)
    (unicode_digits_at (v * 16 + digit_value c) (n + 1) cs) None))

-- A hexadecimal digit differs from each character that isn't a hexadecimal digit, for example a brace or an underscore.
pub digit_apart : (c k : ℕ) → is_hex_digit c ≡ true → is_hex_digit k ≡ false → eqb c k ≡ false
digit_apart c k h n = ne_eqb c k (λ e. both_ways (is_hex_digit k) n (subst (λ x. is_hex_digit x ≡ true) e h))

pub below_six : (n : ℕ) → n ≤ 6 → eqb n 6 ≡ false → n < 6
below_six n few h = elim (cases_Bool (ltb n 6)) [
  | inl a ↦ ltb-true n 6 a
  | inr a ↦
      let more = ltb-false n 6 a in
      absurd (both_ways (eqb n 6) h (eq-eqb n 6 (omega (arith, few, more))))
]

digits_closed : (t : List ℕ) (v n : ℕ) (last : List ℕ) → n ≤ 6 → closed_at (code_digits_at v n last t)
    ≡ unicode_digits_at v n t
unfolding code_digits_at unicode_digits_at
digits_closed [] v n last few = refl
digits_closed (c ∷ cs) v n last few = elim (cases_Bool (is_hex_digit c)) [
  | inl a ↦ elim (cases_Bool (eqb n 6)) [
    | inl six ↦ rw (a, six, digit_apart c 125 a refl, digit_apart c 95 a refl, eqb-true n 6 six) refl
    | inr short ↦
        let less = below_six n few short in
        rw (a, short, digit_apart c 125 a refl, digit_apart c 95 a refl, lt-ltb n 6 less)
        (digits_closed cs (v * 16 + digit_value c) (n + 1) (c ∷ cs) (omega (arith, less)))
  ]
  | inr a ↦ elim (cases_Bool (eqb c 95)) [
    | inl b ↦ subst (λ x. closed_at (code_digits_at v n last (x ∷ cs)) ≡ unicode_digits_at v n (x ∷ cs))
        (sym (eqb-true c 95 b)) (digits_closed cs v n last few)
    | inr b ↦ rw (a, b) (other (eqb c 125))
  ]
]
  where
    other : (b : Bool) → option_and_then (λ after. number_if (scalar v) v after) (cond b (Some cs) None)
        ≡ cond b (number_if (scalar v) v cs) None
    other true = refl
    other false = refl

-- Returns the code point that an escape `\u{..}` represents, and the text after the escape. The given text begins with the
-- opening brace.
abbrev pub unicode_by : Kind → List ℕ → Option (ℕ × List ℕ)
unicode_by kind t = do
  inside ← brace_at t
  first ← digit_at inside
  whole ← unicode_digits_at first.0 1 first.1
  number_if (allows_unicode_escapes kind && allows_code kind whole.0) whole.0 whole.1

pub unicode_is : (kind : Kind) (t : List ℕ) → unicode_at kind t ≡ unicode_by kind t
unfolding unicode_at
unicode_is kind t = go (brace_at t)
  where
    coded : ℕ × List ℕ → Option (ℕ × List ℕ)
    coded p = number_if (allows_unicode_escapes kind && allows_code kind p.0) p.0 p.1

    digits : (inside : List ℕ) (o : Option (ℕ × List ℕ)) → option_and_then (λ d. option_and_then coded (closed_at d))
        (option_and_then (λ p. Some (code_digits_at p.0 1 inside p.1)) o)
        ≡ option_and_then (λ p. option_and_then coded (unicode_digits_at p.0 1 p.1)) o
    digits inside None = refl
    digits inside (Some p) = ap (option_and_then coded) (digits_closed p.1 p.0 1 inside (omega arith))

    go : (o : Option (List ℕ)) → option_and_then (λ inside. option_and_then (λ d. option_and_then coded (closed_at d))
        (first_code_digits_at inside)) o ≡ option_and_then (λ inside. option_and_then
        (λ p. option_and_then coded (unicode_digits_at p.0 1 p.1)) (digit_at inside)) o
    go None = refl
    go (Some inside) = digits inside (digit_at inside)
