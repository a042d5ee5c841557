-- If an integer loses its leading zeros, its digits represent the old number.
use Rattle.rl_syntax.proofs.Common.{◌≡◌, ℕ, ◌≤◌, ◌+◌, ◌*◌, ◌^◌, ◌⊎◌, ◌||◌, Bool, true, false, ◌==◌, cond, List, [], ◌∷◌, ◌++◌, length, refl, sym, ap, subst, ◌∙◌, inl, inr, arith, and_from, and_parts, both_ways, cases_Bool, eqb-true, or_cases, or_left, or_parts, is_ascii_digit, list_all, list_any, flat_map}
use Rattle.std.specs.Str.{chars}
use Rattle.rl_writing.proofs.AsciiLemmas.{low_chars}
use Rattle.rl_syntax.specs.Classes.{after_run}
use Rattle.rl_syntax.specs.Texts.{first_passes, is_run_part}
use Rattle.rl_syntax.specs.Spelling.{place_value, without_underscores}
use Rattle.rl_syntax.specs.Strict.{IsDigits}
use Rattle.rl_style.specs.Cases.{is_padding, or_zero, significant}
use Rattle.rl_style.proofs.NumberCharacters.{RowStays, Stays}

-- A sequence of digits without leading zeros. Its first character is neither a zero nor an underscore.
pub record Left (run : List ℕ) : Type 0 where
  pub first : ℕ
  pub rest : List ℕ
  pub is : after_run is_padding run ≡ first ∷ rest
  pub other : is_padding first ≡ false

pub left : (run : List ℕ) → (after_run is_padding run ≡ []) ⊎ Left run
left [] = inl refl
left (c ∷ cs) =
    elim (cases_Bool (is_padding c)) [
      | inl a ↦
          let same : after_run is_padding (c ∷ cs) ≡ after_run is_padding cs = ap
          (λ b. cond b (after_run is_padding cs) (c ∷ cs)) a in
          elim (left cs) [
            | inl e ↦ inl (same ∙ e)
            | inr l ↦ inr (record { first = l.first; rest = l.rest; is = same ∙ l.is; other = l.other })
          ]
      | inr a ↦ inr (record { first = c; rest = cs; is = ap (λ b. cond b (after_run is_padding cs) (c ∷ cs)) a; other = a })
    ]

-- If all characters of a sequence of digits pass a test, all characters after the leading zeros pass it.
after_all : (test : ℕ → Bool) (run : List ℕ) → list_all test run ≡ true → list_all test (after_run is_padding run)
    ≡ true
after_all test [] h = refl
after_all test (c ∷ cs) h =
    let p = and_parts (test c) (list_all test cs) h in
    go (is_padding c) (after_all test cs p.1)
  where
    go : (b : Bool) → list_all test (after_run is_padding cs) ≡ true
        → list_all test (cond b (after_run is_padding cs) (c ∷ cs)) ≡ true
    go true k = k
    go false k = h

pub significant_none : (run : List ℕ) → after_run is_padding run ≡ [] → significant run ≡ 48 ∷ []
significant_none run e = ap or_zero e

pub significant_left : (run : List ℕ) (l : Left run) → significant run ≡ l.first ∷ l.rest
significant_left run l = ap or_zero l.is

pub significant_all : (test : ℕ → Bool) (run : List ℕ) → test 48 ≡ true → list_all test run ≡ true
    → list_all test (significant run) ≡ true
significant_all test run z h =
    elim (left run) [
      | inl e ↦ ap (list_all test) (significant_none run e) ∙ and_from (test 48) true z refl
      | inr l ↦ ap (list_all test) (significant_left run l ∙ sym l.is) ∙ after_all test run h
    ]

-- A character of a sequence of digits and underscores is a digit if it is neither a zero nor an underscore.
first_digit : (test : ℕ → Bool) (c : ℕ) → is_run_part test c ≡ true → is_padding c ≡ false → test c ≡ true
first_digit test c h n =
    elim (or_cases (test c) (c == 95) h) [
      | inl a ↦ a
      | inr a ↦ absurd (both_ways (c == 95) (or_parts (c == 48) (c == 95) n).1 a)
    ]

-- If zeros and underscores fail a test, leading zeros don't matter for it: a sequence of digits contains a character that
-- passes the test if and only if the sequence without its leading zeros does.
after_any : (test : ℕ → Bool) (run : List ℕ) → test 48 ≡ false → test 95 ≡ false
    → list_any test (after_run is_padding run) ≡ list_any test run
after_any test [] z u = refl
after_any test (c ∷ cs) z u =
    elim (cases_Bool (is_padding c)) [
      | inl a ↦ ap (λ b. list_any test (cond b (after_run is_padding cs) (c ∷ cs))) a ∙ after_any test cs z u
          ∙ ap (λ b. b || list_any test cs) (sym (padded (or_cases (c == 48) (c == 95) a)))
      | inr a ↦ ap (λ b. list_any test (cond b (after_run is_padding cs) (c ∷ cs))) a
    ]
  where
    padded : ((c == 48) ≡ true) ⊎ ((c == 95) ≡ true) → test c ≡ false
    padded (inl h) = ap test (eqb-true c 48 h) ∙ z
    padded (inr h) = ap test (eqb-true c 95 h) ∙ u

or_zero_any : (test : ℕ → Bool) (run : List ℕ) → test 48 ≡ false → list_any test (or_zero run) ≡ list_any test run
or_zero_any test [] z = ap (λ b. b || false) z
or_zero_any test (c ∷ cs) z = refl

pub significant_any : (test : ℕ → Bool) (run : List ℕ) → test 48 ≡ false → test 95 ≡ false
    → list_any test (significant run) ≡ list_any test run
significant_any test run z u = or_zero_any test (after_run is_padding run) z ∙ after_any test run z u

pub significant_first : (test : ℕ → Bool) (run : List ℕ) → test 48 ≡ true → list_all (is_run_part test) run ≡ true
    → first_passes test (significant run) ≡ true
significant_first test run z h =
    elim (left run) [
      | inl e ↦ ap (first_passes test) (significant_none run e) ∙ z
      | inr l ↦
          let all : list_all (is_run_part test) (l.first ∷ l.rest) ≡ true = ap (list_all (is_run_part test)) (sym l.is)
          ∙ after_all (is_run_part test) run h in
          let p = and_parts (is_run_part test l.first) (list_all (is_run_part test) l.rest) all in
          ap (first_passes test) (significant_left run l) ∙ first_digit test l.first p.0 l.other
    ]

some_first : (test : ℕ → Bool) (run : List ℕ) → first_passes test run ≡ true → list_any test run ≡ true
some_first test [] h = absurd (cc)
some_first test (c ∷ cs) h = or_left (test c) (list_any test cs) h

pub significant_some : (test : ℕ → Bool) (run : List ℕ) → test 48 ≡ true → list_all (is_run_part test) run ≡ true
    → list_any test (significant run) ≡ true
significant_some test run z h = some_first test (significant run) (significant_first test run z h)

pub significant_digits : (run : List ℕ) → IsDigits run → IsDigits (significant run)
significant_digits run h = (
  significant_first is_ascii_digit run refl h.1,
  significant_all (is_run_part is_ascii_digit) run refl h.1,
)

zero_first : (n v : ℕ) → v ≡ 0 * n + v
zero_first n v = omega arith

pub significant_number : (run : List ℕ) → place_value 10 (without_underscores (significant run))
    ≡ place_value 10 (without_underscores run)
significant_number [] = refl
significant_number (c ∷ cs) =
    elim (cases_Bool (is_padding c)) [
      | inl a ↦
          ap (λ b. place_value 10 (without_underscores (or_zero (cond b (after_run is_padding cs) (c ∷ cs))))) a
          ∙ significant_number cs ∙ padded (or_cases (c == 48) (c == 95) a)
      | inr a ↦ ap (λ b. place_value 10 (without_underscores (or_zero (cond b (after_run is_padding cs) (c ∷ cs))))) a
    ]
  where
    padded : ((c == 48) ≡ true) ⊎ ((c == 95) ≡ true) → place_value 10 (without_underscores cs)
        ≡ place_value 10 (without_underscores (c ∷ cs))
    padded (inl z) = zero_first (10 ^ length (without_underscores cs)) (place_value 10 (without_underscores cs))
        ∙ ap (λ d. place_value 10 (without_underscores (d ∷ cs))) (sym (eqb-true c 48 z))
    padded (inr u) = ap (λ d. place_value 10 (without_underscores (d ∷ cs))) (sym (eqb-true c 95 u))

-- If a sequence of digits has no leading zeros, it has none after it is rewritten.
pub significant_again : (f : ℕ → List ℕ) (run : List ℕ) → f 48 ≡ 48 ∷ [] → RowStays f run
    → significant (flat_map f (significant run)) ≡ flat_map f (significant run)
significant_again f run z k =
    elim (left run) [
      | inl e ↦
          let is : flat_map f (significant run) ≡ 48 ∷ [] = ap (flat_map f) (significant_none run e)
          ∙ ap (λ y. y ++ []) z in
          ap significant is ∙ sym is
      | inr l ↦
          let is : flat_map f (significant run) ≡ l.first ∷ flat_map f l.rest = ap (flat_map f) (significant_left run l)
          ∙ ap (λ y. y ++ flat_map f l.rest) (itself l) in
          ap significant is
          ∙ ap (λ b. or_zero (cond b (after_run is_padding (flat_map f l.rest)) (l.first ∷ flat_map f l.rest))) l.other
          ∙ sym is
    ]
  where
    in_row : (runs : List ℕ) (c : ℕ) (rest : List ℕ) → RowStays f runs → after_run is_padding runs ≡ c ∷ rest
        → is_padding c ≡ false → Stays f c
    in_row [] c rest s e n = absurd (cc)
    in_row (d ∷ ds) c rest s e n =
        elim (cases_Bool (is_padding d)) [
          | inl a ↦ in_row ds c rest s.1 (sym (ap (λ b. cond b (after_run is_padding ds) (d ∷ ds)) a) ∙ e) n
          | inr a ↦
              let both : d ∷ ds ≡ c ∷ rest = sym (ap (λ b. cond b (after_run is_padding ds) (d ∷ ds)) a) ∙ e in
              let same : d ≡ c = cc in
              subst (Stays f) same s.0
        ]

    itself : (l : Left run) → f l.first ≡ l.first ∷ []
    itself l =
        elim (in_row run l.first l.rest k l.is l.other) [
          | inl a ↦ absurd (both_ways (l.first == 95) (or_parts (l.first == 48) (l.first == 95) l.other).1 a.1)
          | inr a ↦ a
        ]

-- ---- the digits that the code returns

pub none_left : (digits rest : List ℕ) → chars rest ≡ after_run is_padding (chars digits) → chars rest ≡ []
    → chars (48 ∷ []) ≡ significant (chars digits)
none_left digits rest e h = low_chars (48 ∷ []) refl ∙ sym (significant_none (chars digits) (sym e ∙ h))

pub some_left : (digits rest x : List ℕ) (c : ℕ) → chars rest ≡ after_run is_padding (chars digits) → chars rest ≡ c ∷ x
    → chars rest ≡ significant (chars digits)
some_left digits rest x c e h = h ∙ sym (ap or_zero (sym e ∙ h))

pub not_empty : (t : List ℕ) → first_passes is_ascii_digit (chars t) ≡ true → 1 ≤ length t
not_empty [] h = absurd (let e : false ≡ true = sym (ap (first_passes is_ascii_digit) (low_chars [] refl)) ∙ h in cc)
not_empty (c ∷ cs) h = omega arith
