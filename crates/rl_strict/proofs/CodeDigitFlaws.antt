-- The flaw of the digits of a `\u{..}` escape, computed one digit at a time, is the flaw that the executable model of the
-- code returns.
use Rattle.rl_strict.proofs.Names.{◌≡◌, ℕ, ◌+◌, ◌*◌, ◌≤◌, ◌&&◌, false, not, cond, eqb, List, [], ◌∷◌, Option, Some, None, refl, sym, ap, subst, ◌∙◌, inl, inr, arith, option_and_then, digit_value, and_parts, both_ways, cases_Bool, eq-eqb, eqb-true, ne_eqb, not-true, Kind, is_hex_digit, Unclosed, NoHexDigit, TooManyDigits, CodeDigits, code_digits_at, first_code_digits_at, FoundFlaw, code_flaw_at, code_flaw_of, first_digit_flaw_at, found_flaw, is_code, digit_apart, below_six}

-- ---- the flaw of the digits of a `\u{..}` escape

-- The flaw of a `\u{..}` escape whose first `n` digits represent the number `v`. The last argument is the text after these
-- digits.
unfoldable pub digits_flaw_at : Kind → ℕ → ℕ → List ℕ → FoundFlaw
digits_flaw_at kind v n [] = found_flaw Unclosed []
digits_flaw_at kind v n (c ∷ cs) =
    cond (is_hex_digit c)
    (cond (eqb n 6) (found_flaw TooManyDigits (c ∷ cs))
    (cond (eqb n 5 && not (is_code kind (v * 16 + digit_value c)))
    (found_flaw (code_flaw_of (v * 16 + digit_value c)) (c ∷ cs))
    (digits_flaw_at kind (v * 16 + digit_value c) (n + 1) cs)))
    (cond (eqb c 125) (found_flaw (code_flaw_of v) (c ∷ cs))
    (cond (eqb c 95) (digits_flaw_at kind v n cs) (found_flaw NoHexDigit (c ∷ cs))))

-- If six digits of a `\u{..}` escape represent a number that isn't allowed, the flaw is at the sixth digit.
no_code_six : (kind : Kind) (v : ℕ) (last t : List ℕ) → is_code kind v ≡ false
    → code_flaw_at kind (code_digits_at v 6 last t) ≡ found_flaw (code_flaw_of v) last
unfolding code_digits_at
no_code_six kind v last [] h = rw h refl
no_code_six kind v last (c ∷ cs) h = elim (cases_Bool (is_hex_digit c)) [
  | inl a ↦ rw (a, h) refl
  | inr a ↦ elim (cases_Bool (eqb c 95)) [
    | inl b ↦ rw (a, b) (no_code_six kind v last cs h)
    | inr b ↦ rw (a, b, h) refl
  ]
]

pub digits_flaw_is : (kind : Kind) (t : List ℕ) (v n : ℕ) (last : List ℕ) → n ≤ 6 → (eqb n 6 && not (is_code kind v))
    ≡ false → code_flaw_at kind (code_digits_at v n last t) ≡ digits_flaw_at kind v n t
unfolding code_digits_at digits_flaw_at
digits_flaw_is kind [] v n last few good = rw good refl
digits_flaw_is kind (c ∷ cs) v n last few good = elim (cases_Bool (is_hex_digit c)) [
  | inl a ↦ elim (cases_Bool (eqb n 6)) [
    | inl six ↦ rw (a, six) (rw (good, digit_apart c 125 a refl, a) refl)
    | inr short ↦
        let w = v * 16 + digit_value c in
        let less = below_six n few short in
        rw (a, short) (elim (cases_Bool (eqb n 5 && not (is_code kind w))) [
          | inl bad ↦
              let parts = and_parts (eqb n 5) (not (is_code kind w)) bad in
              let six : n + 1 ≡ 6 = (let five = eqb-true n 5 parts.0 in omega arith) in
              rw bad (ap (λ m. code_flaw_at kind (code_digits_at w m (c ∷ cs) cs)) six
              ∙ no_code_six kind w (c ∷ cs) cs (not-true (is_code kind w) parts.1))
          | inr fine ↦ rw fine (digits_flaw_is kind cs w (n + 1) (c ∷ cs) (omega (arith, less))
              (ap (λ b. b && not (is_code kind w)) (one_on n) ∙ fine))
        ])
  ]
  | inr a ↦ elim (cases_Bool (eqb c 95)) [
    | inl b ↦ subst (λ x. code_flaw_at kind (code_digits_at v n last (x ∷ cs)) ≡ digits_flaw_at kind v n (x ∷ cs))
        (sym (eqb-true c 95 b)) (digits_flaw_is kind cs v n last few good)
    | inr b ↦ rw (a, b, good, a) refl
  ]
]
  where
    one_on : (m : ℕ) → eqb (m + 1) 6 ≡ eqb m 5
    one_on m = elim (cases_Bool (eqb m 5)) [
      | inl e ↦ let is = eqb-true m 5 e in rw is refl
      | inr e ↦ ne_eqb (m + 1) 6 (λ same. both_ways (eqb m 5) e (eq-eqb m 5 (omega (arith, same)))) ∙ sym e
    ]

-- For a text after `\u{` that begins with a digit, `code_flaw_at` of the digits is the flaw that `first_digit_flaw_at`
-- returns for the text.
pub first_flaw_is : (kind : Kind) (t : List ℕ) (d : CodeDigits) → Some d ≡ first_code_digits_at t → code_flaw_at kind d
    ≡ first_digit_flaw_at kind t
unfolding first_digit_flaw_at
first_flaw_is kind [] d h = absurd (cc)
first_flaw_is kind (c ∷ cs) d h = elim (cases_Bool (is_hex_digit c)) [
  | inl a ↦
      let one : Some d ≡ Some (code_digits_at (digit_value c) 1 (c ∷ cs) cs) = h
      ∙ ap (λ b. option_and_then found (cond b (Some (digit_value c, cs)) None)) a in
      let same : d ≡ code_digits_at (digit_value c) 1 (c ∷ cs) cs = cc in
      rw a (ap (code_flaw_at kind) same)
  | inr a ↦
      let none : Some d ≡ None = h ∙ ap (λ b. option_and_then found (cond b (Some (digit_value c, cs)) None)) a in
      absurd (cc)
]
  where
    found : ℕ × List ℕ → Option CodeDigits
    found p = Some (code_digits_at p.0 1 (c ∷ cs) p.1)
