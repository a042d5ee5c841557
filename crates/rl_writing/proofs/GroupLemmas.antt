-- Digits that underscores divide into groups.
use Rattle.rl_syntax.proofs.Common.{◌≡◌, ℕ, ◌*◌, ◌-◌, ◌<◌, ◌≤◌, Bool, true, false, not, cond, List, [], ◌∷◌, ◌++◌, length, take, refl, ap, ◌∙◌, inl, inr, arith, nat_lt, list_all, and_parts, and_from, cases_Bool, if◌then◌else◌}
use Rattle.std.specs.Prelude.{reverse}
use Rattle.std.proofs.Common.{length-take}
use Rattle.std.proofs.lemmas.Bool.{and_left, and_right, le-ltb, lt-ltb}
use Rattle.std.proofs.lemmas.List.{length-reverse, length-take-le}
use Rattle.rl_syntax.specs.Texts.{is_underscore}
use Rattle.rl_syntax.specs.Spelling.{without_underscores}
use Rattle.rl_writing.specs.Integers.{is_digit_group_end, group_size, grouped}

-- If no group ends after a digit, no underscore follows the digit.
pub no_separator_after : (size d : ℕ) (ds : List ℕ) → is_digit_group_end size (length ds) ≡ false
    → grouped size (d ∷ ds) ≡ d ∷ grouped size ds
no_separator_after size d ds e = ap (λ b. d ∷ ((if b then 95 ∷ [] else []) ++ grouped size ds)) e

pub with_mark : (size d : ℕ) (ds : List ℕ) → is_digit_group_end size (length ds) ≡ true
    → grouped size (d ∷ ds) ≡ d ∷ 95 ∷ grouped size ds
with_mark size d ds e = ap (λ b. d ∷ ((if b then 95 ∷ [] else []) ++ grouped size ds)) e

pub grouped_all : (test : ℕ → Bool) (size : ℕ) (ds : List ℕ) → test 95 ≡ true → list_all test ds ≡ true
    → list_all test (grouped size ds) ≡ true
grouped_all test size [] mark h = refl
grouped_all test size (d ∷ ds) mark h =
    let p = and_parts (test d) (list_all test ds) h in
    let more = grouped_all test size ds mark p.1 in
    elim (cases_Bool (is_digit_group_end size (length ds))) [
      | inl e ↦ ap (list_all test) (with_mark size d ds e) ∙ and_from _ _ p.0 (and_from _ _ mark more)
      | inr e ↦ ap (list_all test) (no_separator_after size d ds e) ∙ and_from _ _ p.0 more
    ]

-- If the underscores of grouped digits are removed, the digits remain.
pub grouped_digits : (size : ℕ) (ds : List ℕ) → list_all (λ c. not (is_underscore c)) ds ≡ true
    → without_underscores (grouped size ds) ≡ ds
grouped_digits size [] h = refl
grouped_digits size (d ∷ ds) h =
    let p = and_parts (not (is_underscore d)) (list_all (λ c. not (is_underscore c)) ds) h in
    let more = grouped_digits size ds p.1 in
    let stays : (xs : List ℕ) → without_underscores (d ∷ xs) ≡ d ∷ without_underscores xs =
    λ xs. ap (λ b. cond b (d ∷ without_underscores xs) (without_underscores xs)) p.0 in
    elim (cases_Bool (is_digit_group_end size (length ds))) [
      | inl e ↦ ap without_underscores (with_mark size d ds e) ∙ stays (95 ∷ grouped size ds) ∙ ap (λ z. d ∷ z) more
      | inr e ↦ ap without_underscores (no_separator_after size d ds e) ∙ stays (grouped size ds) ∙ ap (λ z. d ∷ z) more
    ]

-- ---- the length of grouped digits

pub grouped_length : (size : ℕ) (ds : List ℕ) → length (grouped size ds) ≤ 2 * length ds - 1
grouped_length size [] = omega arith
grouped_length size (d ∷ []) = omega (
  arith,
  ap length (no_separator_after size d []
      (and_left _ _ (and_right (nat_lt 0 size) false refl))),
)
grouped_length size (d ∷ e ∷ ds) =
    let more = grouped_length size (e ∷ ds) in
    elim (cases_Bool (is_digit_group_end size (length (e ∷ ds)))) [
      | inl h ↦ omega (arith, more, ap length (with_mark size d (e ∷ ds) h))
      | inr h ↦ omega (arith, more, ap length (no_separator_after size d (e ∷ ds) h))
    ]

pub grouped_short : (size n k : ℕ) (room : List ℕ) → n ≤ k → length (grouped size (reverse (take n room))) ≤ 2 * k - 1
grouped_short size n k room h =
    omega (arith, h, grouped_length size (reverse (take n room)), length-reverse (take n room), length-take n room)

-- Reversing the `n` digits that the code wrote gives `n` digits.
pub count_is : (n : ℕ) (room : List ℕ) → n ≤ length room → length (reverse (take n room)) ≡ n
count_is n room h = length-reverse (take n room) ∙ length-take-le n room h

-- If the group size is 0, no underscores are written between digits.
pub ungrouped : (ds : List ℕ) → grouped 0 ds ≡ ds
ungrouped [] = refl
ungrouped (d ∷ ds) = ap (λ z. d ∷ z) (ungrouped ds)

-- ---- the fewest digits that are divided into groups

pub few_ungrouped : (group least : ℕ) (ds : List ℕ) → length ds < least
    → grouped (group_size group least (length ds)) ds ≡ ds
few_ungrouped group least ds h =
    ap (λ b. grouped (if b then 0 else group) ds) (lt-ltb (length ds) least h) ∙ ungrouped ds

pub others_grouped : (group least : ℕ) (ds : List ℕ) → least ≤ length ds → group_size group least (length ds) ≡ group
others_grouped group least ds h = ap (λ b. if b then 0 else group) (le-ltb (length ds) least h)
