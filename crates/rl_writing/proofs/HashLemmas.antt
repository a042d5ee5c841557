-- The number of hashes that a raw string needs, according to the hashes after each quote in it.
use Rattle.rl_syntax.proofs.Common.{◌≡◌, ℕ, zero, suc, ◌+◌, ◌<◌, ◌≤◌, Bool, true, false, cond, eqb, List, [], ◌∷◌, ◌++◌, replicate, refl, ap, ◌∙◌, inl, inr, arith, eqb-true, cases_Bool, cases_lt}
use Rattle.std.specs.Prelude.{max}

-- The number of hashes at the start of a text.
abbrev pub run : List ℕ → ℕ
run [] = 0
run (c ∷ t) = cond (eqb c 35) (suc (run t)) 0

-- The number of hashes that a raw string with the text needs: 0 if the text contains no quote, and otherwise one more than
-- the greatest number of hashes after a quote.
abbrev pub needed_in : List ℕ → ℕ
needed_in [] = 0
needed_in (c ∷ t) = cond (eqb c 34) (max (suc (run t)) (needed_in t)) (needed_in t)

-- ---- a raw string with a text needs more than `n` hashes if and only if the text contains a quote and `n` hashes

run_more : (n : ℕ) (t : List ℕ) → n ≤ run (replicate n 35 ++ t)
run_more zero t = omega arith
run_more (suc n) t = omega (arith, run_more n t)

pub closes_needed : (n : ℕ) (front rest : List ℕ) → n < needed_in ((front ++ (34 ∷ replicate n 35)) ++ rest)
closes_needed n [] rest = omega (arith, run_more n rest)
closes_needed n (c ∷ front) rest = wider (eqb c 34) ((front ++ (34 ∷ replicate n 35)) ++ rest)
    (closes_needed n front rest)
  where
    wider : (b : Bool) (t : List ℕ) → n < needed_in t → n < cond b (max (suc (run t)) (needed_in t)) (needed_in t)
    wider true t h = omega (arith, h)
    wider false t h = h

run_front : (n : ℕ) (t : List ℕ) → n ≤ run t → (rest : List ℕ) × (t ≡ replicate n 35 ++ rest)
run_front zero t h = (t, refl)
run_front (suc n) [] h = absurd (omega (arith, h))
run_front (suc n) (c ∷ t) h =
    elim (cases_Bool (eqb c 35)) [
      | inl e ↦
          let same : run (c ∷ t) ≡ suc (run t) = ap (λ b. cond b (suc (run t)) 0) e in
          let more = run_front n t (omega (arith, h, same)) in
          (more.0, ap (λ z. z ∷ t) (eqb-true c 35 e) ∙ ap (λ z. 35 ∷ z) more.1)
      | inr e ↦
          let same : run (c ∷ t) ≡ 0 = ap (λ b. cond b (suc (run t)) 0) e in
          absurd (omega (arith, h, same))
    ]

-- The text contains a double quote that `n` hashes follow.
abbrev pub Closes : ℕ → List ℕ → Type 0
Closes n t = (front : List ℕ) × (rest : List ℕ) × (t ≡ (front ++ (34 ∷ replicate n 35)) ++ rest)

closes_after : (n c : ℕ) (t : List ℕ) → Closes n t → Closes n (c ∷ t)
closes_after n c t (front, rest, e) = (c ∷ front, rest, ap (λ z. c ∷ z) e)

pub needed_closes : (n : ℕ) (t : List ℕ) → n < needed_in t → Closes n t
needed_closes n [] h = absurd (omega (arith, h))
needed_closes n (c ∷ t) h =
    elim (cases_Bool (eqb c 34)) [
      | inl e ↦
          let same : needed_in (c ∷ t) ≡ max (suc (run t)) (needed_in t) = ap
          (λ b. cond b (max (suc (run t)) (needed_in t)) (needed_in t)) e in
          elim (cases_lt n (needed_in t)) [
            | inl a ↦ closes_after n c t (needed_closes n t a)
            | inr a ↦
                let front = run_front n t (omega (arith, h, same, a)) in
                ([], front.0, ap (λ z. z ∷ t) (eqb-true c 34 e) ∙ ap (λ z. 34 ∷ z) front.1)
          ]
      | inr e ↦
          let same : needed_in (c ∷ t) ≡ needed_in t = ap (λ b. cond b (max (suc (run t)) (needed_in t)) (needed_in t))
          e in
          closes_after n c t (needed_closes n t (omega (arith, h, same)))
    ]

-- ---- the code counts hashes, one character after another

-- The number of hashes that a raw string needs because of a quote at the end of the passed text, the hashes after this
-- quote, and the hashes at the start of the text `t`. The first argument is the number without the hashes of `t`. The number
-- is 0 if the passed text doesn't end with a quote and hashes.
abbrev pub pending : ℕ → List ℕ → ℕ
pending zero t = 0
pending (suc k) t = suc k + run t

-- The number of hashes that a raw string with the whole text needs. `needed` is the number for the passed text, and `t` the
-- remaining text. `opened` is the number that the quote and hashes at the end of the passed text require.
abbrev pub needed_from : ℕ → ℕ → List ℕ → ℕ
needed_from needed opened t = max needed (max (pending opened t) (needed_in t))

pub needed_end : (needed opened : ℕ) → opened ≤ needed → needed_from needed opened [] ≡ needed
needed_end needed zero h = omega arith
needed_end needed (suc k) h = omega (arith, h)
