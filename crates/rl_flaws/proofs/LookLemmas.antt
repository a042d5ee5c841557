-- The kind of literal that a text begins as.
use Rattle.rl_flaws.proofs.Names.{◌≡◌, ◌≢◌, ◌⊎◌, ◌==◌, ◌&&◌, ℕ, Bool, true, false, not, List, [], ◌∷◌, refl, sym, ap, subst, ◌∙◌, inl, inr, both_ways, cases_Bool, eqb-true, cond, is_ascii_digit, ◌||◌, apart, first_passes, Kind, Int, Float, begins_base, after_digits, after_minus, radix_at, radix_of, not_based, is_float_mark, OpensNumber, number_kind}

-- ---- the base of a number

abbrev pub Read : Type 0
Read = ℕ × List ℕ

-- The letter of a base prefix (`b`, `o` or `x`) identifies a base other than ten.
based_letter : (c : ℕ) (cs : List ℕ) → begins_base (48 ∷ c ∷ cs) ≡ true → radix_of c ≡ 10 → ⊥
based_letter c cs h e =
    elim (cases_Bool (c == 98)) [
      | inl b ↦ absurd (let two : 2 ≡ 10 = sym (of_b b) ∙ e in (cc))
      | inr b ↦ elim (cases_Bool (c == 111)) [
        | inl o ↦ absurd (let eight : 8 ≡ 10 = sym (of_o b o) ∙ e in (cc))
        | inr o ↦ elim (cases_Bool (c == 120)) [
          | inl x ↦ absurd (let sixteen : 16 ≡ 10 = sym (of_x b o x) ∙ e in (cc))
          | inr x ↦ both_ways (begins_base (48 ∷ c ∷ cs)) (none b o x) h
        ]
      ]
    ]
  where
    of_b : (c == 98) ≡ true → radix_of c ≡ 2
    of_b b = rw b refl

    of_o : (c == 98) ≡ false → (c == 111) ≡ true → radix_of c ≡ 8
    of_o b o = rw (b, o) refl

    of_x : (c == 98) ≡ false → (c == 111) ≡ false → (c == 120) ≡ true → radix_of c ≡ 16
    of_x b o x = rw (b, o, x) refl

    none : (c == 98) ≡ false → (c == 111) ≡ false → (c == 120) ≡ false → begins_base (48 ∷ c ∷ cs) ≡ false
    none b o x = rw (b, o, x) refl

based : (t : List ℕ) → begins_base t ≡ true → (radix_at t).0 ≡ 10 → ⊥
unfolding radix_at
based [] h e = both_ways false refl h
based (z ∷ []) h e = both_ways (begins_base (z ∷ [])) (go (z == 48)) h
  where
    go : (b : Bool) → ((b && false) || (b && false) || (b && false)) ≡ false
    go true = refl
    go false = refl
based (z ∷ c ∷ cs) h e = go (z == 48) refl
  where
    named : (b : Bool) → (radix_of c == 10) ≡ b → (cond {A = Read} (not b) (radix_of c, cs) (10, 48 ∷ c ∷ cs)).0 ≡ 10
        → radix_of c ≡ 10
    named true y r = eqb-true (radix_of c) 10 y
    named false y r = r

    go : (b : Bool) → (z == 48) ≡ b → ⊥
    go false a = both_ways (begins_base (z ∷ c ∷ cs)) (none a) h
      where
        none : (z == 48) ≡ false → begins_base (z ∷ c ∷ cs) ≡ false
        none a = rw a refl
    go true a =
        let is : z ≡ 48 = eqb-true z 48 a in
        let first : begins_base (48 ∷ c ∷ cs) ≡ true = subst (λ d. begins_base (d ∷ c ∷ cs) ≡ true) is h in
        let radix : (radix_at (48 ∷ c ∷ cs)).0 ≡ 10 = subst (λ d. (radix_at (d ∷ c ∷ cs)).0 ≡ 10) is e in
        based_letter c cs first (named (radix_of c == 10) refl radix)

-- The kind of a number. The first flag is true if the number has a base prefix. The second flag is true if a dot or the
-- letter of an exponent follows the number's digits.
abbrev pub by_row : Bool → Bool → Kind
by_row base mark = cond base Int (cond mark Float Int)

pub other_base : (t w : List ℕ) (r : ℕ) → ◌≡◌ {A = Read} (r, w) (radix_at t) → r ≢ 10 → Int ≡ number_kind t
other_base t w r e n = elim (cases_Bool (begins_base t)) [
  | inl a ↦ sym (ap (λ b. by_row b (first_passes is_float_mark (after_digits 10 t))) a)
  | inr a ↦ absurd (n (ap (λ (q : Read). q.0) (e ∙ not_based t a)))
]

pub ten : (t w rest : List ℕ) (r : ℕ) (mark : Bool) → ◌≡◌ {A = Read} (r, w) (radix_at t) → r ≡ 10
    → rest ≡ after_digits 10 w → mark ≡ first_passes is_float_mark rest → cond mark Float Int ≡ number_kind t
ten t w rest r mark e is after m =
    elim (cases_Bool (begins_base t)) [
      | inl a ↦ absurd (based t a (ap (λ (q : Read). q.0) (sym e) ∙ is))
      | inr a ↦
          let same : w ≡ t = ap (λ (q : Read). q.1) (e ∙ not_based t a) in
          ap (λ b. cond b Float Int) (m ∙ ap (first_passes is_float_mark) (after ∙ ap (after_digits 10) same))
          ∙ sym (ap (λ b. by_row b (first_passes is_float_mark (after_digits 10 t))) a)
    ]

-- ---- a minus before a number

pub minus_or : (t d : List ℕ) → d ≡ after_minus t → (t ≡ d) ⊎ (t ≡ 45 ∷ d)
minus_or [] d e = inl (sym e)
minus_or (c ∷ cs) d e = elim (cases_Bool (c == 45)) [
  | inl a ↦ inr (ap (λ z. z ∷ cs) (eqb-true c 45 a) ∙ ap (λ z. 45 ∷ z) (sym (e ∙ ap (λ b. cond b cs (c ∷ cs)) a)))
  | inr a ↦ inl (sym (e ∙ ap (λ b. cond b cs (c ∷ cs)) a))
]

pub number_some : (t d : List ℕ) (b : Bool) (k : Kind) → d ≡ after_minus t → b ≡ first_passes is_ascii_digit d → b ≡
    true → k ≡ number_kind d → OpensNumber k t
number_some t d b k e h y is = (d, minus_or t d e, sym h ∙ y, is)

pub minus_past : (t d : List ℕ) → (t ≡ d) ⊎ (t ≡ 45 ∷ d) → first_passes is_ascii_digit d ≡ true → after_minus t ≡ d
minus_past t d (inl e) h = ap after_minus e ∙ unsigned d h
  where
    unsigned : (w : List ℕ) → first_passes is_ascii_digit w ≡ true → after_minus w ≡ w
    unsigned [] h = refl
    unsigned (c ∷ cs) h = ap (λ b. cond b cs (c ∷ cs)) (apart is_ascii_digit c 45 h refl)
minus_past t d (inr e) h = ap after_minus e

pub number_none : (t d : List ℕ) (b : Bool) → d ≡ after_minus t → b ≡ first_passes is_ascii_digit d → b ≡ false
    → (k : Kind) → OpensNumber k t → ⊥
number_none t d b e h n k (w, same, digit, is) =
    both_ways (first_passes is_ascii_digit d) (sym h ∙ n)
    (ap (first_passes is_ascii_digit) (e ∙ minus_past t w same digit) ∙ digit)
