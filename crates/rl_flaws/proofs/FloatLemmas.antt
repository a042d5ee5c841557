-- A comparison of decimal numbers, digit by digit from the first digit on.
use Rattle.rl_syntax.proofs.Common.{◌≡◌, ◌⊎◌, ℕ, zero, suc, ◌+◌, ◌*◌, ◌^◌, ◌<◌, ◌≤◌, ◌-◌, ◌≢◌, Bool, true, false, not, ◌==◌, nat_lt, cond, List, [], ◌∷◌, ◌++◌, length, replicate, refl, sym, ap, ◌∙◌, inl, inr, arith, nat_tests, and_from, and_parts, eqb-true, both_ways, length-append, digit_value, is_ascii_digit, list_all, list_all-append, subst, chars, chars-IsAscii, IsUtf8, AllByRecursion, encode_utf8_all, encodes-chars, encodes-append, append-nil, append_assoc}
use Rattle.std.proofs.lemmas.Str.{digit_value_digit}
use Rattle.std.proofs.ByRecursion.{IsAscii-from_all}
use Rattle.rl_syntax.specs.Texts.{IsTail}
use Rattle.rl_lenient.proofs.Names.{is_exponent_letter, pow-suc, place_value}
use native.Mathlib.Numerals.{unary_clauses}
use Rattle.rl_flaws.specs.FloatRange.{IsAtLeast, after_point, power_part, decimal_part, digits_only, exponent, has_minus, lowered, raised, significand}
use Rattle.rl_flaws.specs.Mirrors.Floats.{IsBound, not_below, without_zeros}

-- ---- the values of decimal digits

digit_code : (c : ℕ) → is_ascii_digit c ≡ true → (48 + digit_value c ≡ c) × (digit_value c < 10)
digit_code c h =
    let e : (48 ≤ c) × (c ≤ 57) = grind (arith, nat_tests) in
    let v = digit_value_digit c e in
    (omega (arith, v), omega (arith, v))

pub digit_small : (c : ℕ) → is_ascii_digit c ≡ true → (48 ≤ c) × (c ≤ 57)
digit_small c h = grind (arith, nat_tests)

small : (c : ℕ) → is_ascii_digit c ≡ true → digit_value c < 10
small c h = (digit_code c h).1

-- ---- the number that a list of digits represents, computed from the first digit on

onto : ℕ → List ℕ → ℕ
onto v [] = v
onto v (d ∷ ds) = onto (v * 10 + digit_value d) ds

spread : (v d q p : ℕ) → (v * 10 + d) * q + p ≡ v * (q * 10) + (d * q + p)
spread v d q p = omega arith

onto_is : (v : ℕ) (ds : List ℕ) → onto v ds ≡ v * 10 ^ length ds + place_value 10 ds
unfolding onto
onto_is v [] = simp unary_clauses (omega arith)
onto_is v (d ∷ ds) = onto_is (v * 10 + digit_value d) ds
    ∙ spread v (digit_value d) (10 ^ length ds) (place_value 10 ds)
    ∙ ap (λ q. v * q + (digit_value d * 10 ^ length ds + place_value 10 ds)) (sym (pow-suc 10 (length ds)))

shift : (v q : ℕ) → (v * 10 + 0) * q ≡ v * (q * 10)
shift v q = omega arith

zeros : ℕ → List ℕ
zeros n = replicate n 48

onto_zeros : (n v : ℕ) → onto v (zeros n) ≡ v * 10 ^ n
unfolding onto zeros
onto_zeros zero v = simp unary_clauses (omega arith)
onto_zeros (suc n) v = onto_zeros n (v * 10 + 0) ∙ shift v (10 ^ n) ∙ ap (λ q. v * q) (sym (pow-suc 10 n))

onto_append : (v : ℕ) (xs ys : List ℕ) → onto v (xs ++ ys) ≡ onto (onto v xs) ys
unfolding onto
onto_append v [] ys = refl
onto_append v (x ∷ xs) ys = onto_append (v * 10 + digit_value x) xs ys

scaled : (ds : List ℕ) (n : ℕ) → place_value 10 ds * 10 ^ n ≡ onto 0 (ds ++ zeros n)
scaled ds n =
    let spelled : onto 0 ds ≡ place_value 10 ds = onto_is 0 ds ∙ omega arith in
    ap (λ v. v * 10 ^ n) (sym spelled) ∙ sym (onto_zeros n (onto 0 ds)) ∙ sym (onto_append 0 ds (zeros n))

-- ---- the order of numbers by their digits

less_stays : (x y : ℕ) (us bs : List ℕ) → x < y → list_all is_ascii_digit us ≡ true → length us ≡ length bs
    → onto x us < onto y bs
unfolding onto
less_stays x y [] [] h all e = h
less_stays x y (a ∷ us) (b ∷ bs) h all e =
    let p = and_parts (is_ascii_digit a) (list_all is_ascii_digit us) all in
    less_stays (x * 10 + digit_value a) (y * 10 + digit_value b) us bs (omega (arith, h, small a p.0)) p.1
    (omega (arith, e))
less_stays x y [] (b ∷ bs) h all e = absurd (omega (arith, e))
less_stays x y (a ∷ us) [] h all e = absurd (omega (arith, e))

within : (n m : ℕ) → n ≤ suc m → (n ≤ m) ⊎ (n ≡ suc m)
within n m h = grind arith

longer : (y : ℕ) (us bs : List ℕ) → 0 < y → list_all is_ascii_digit bs ≡ true → length bs ≤ length us
    → onto 0 bs < onto y us
unfolding onto
longer y [] [] h all le = h
longer y [] (b ∷ bs) h all le = absurd (omega (arith, le))
longer y (a ∷ us) bs h all le = elim (within (length bs) (length us) (omega (arith, le))) [
  | inl k ↦ longer (y * 10 + digit_value a) us bs (omega (arith, h)) all k
  | inr k ↦ less_stays 0 y bs (a ∷ us) h all k
]

zeros_least : (x y : ℕ) (us : List ℕ) → x ≤ y → onto x (zeros (length us)) ≤ onto y us
unfolding onto zeros
zeros_least x y [] h = h
zeros_least x y (a ∷ us) h = zeros_least (x * 10 + 0) (y * 10 + digit_value a) us (omega (arith, h))

-- ---- numbers whose first digits have one power of ten

less_digit : (b d : ℕ) → is_ascii_digit b ≡ true → is_ascii_digit d ≡ true → nat_lt b d ≡ true
    → digit_value b < digit_value d
less_digit b d hb hd h =
    let l : b < d = grind (arith, nat_tests) in
    omega (arith, l, (digit_code b hb).0, (digit_code d hd).0)

more_digit : (b d : ℕ) → is_ascii_digit b ≡ true → is_ascii_digit d ≡ true → (d == b) ≡ false → nat_lt b d ≡ false
    → digit_value d < digit_value b
more_digit b d hb hd n h =
    let l : d < b = grind (arith, nat_tests) in
    omega (arith, l, (digit_code b hb).0, (digit_code d hd).0)

length_zeros : (n : ℕ) → length (zeros n) ≡ n
unfolding zeros
length_zeros zero = refl
length_zeros (suc n) = ap suc (length_zeros n)

padded : (ds : List ℕ) (n : ℕ) → length (ds ++ zeros n) ≡ length ds + n
padded ds n = length-append ds (zeros n) ∙ ap (λ k. length ds + k) (length_zeros n)

-- A number with digits and zeros appended is at least the number with as many zeros appended: 5370 is at least 5000.
past_zeros : (x : ℕ) (ds : List ℕ) (up down : ℕ) → length ds + up ≡ down → onto x (zeros down) ≤ onto x (ds ++ zeros up)
past_zeros x ds up down e =
    subst (λ n. onto x (zeros n) ≤ onto x (ds ++ zeros up)) (padded ds up ∙ e)
    (zeros_least x x (ds ++ zeros up) (omega arith))

abbrev Ordered : Bool → ℕ → List ℕ → List ℕ → Type 0
Ordered true x ours least = onto x least ≤ onto x ours
Ordered false x ours least = onto x ours < onto x least

all_zeros : (n : ℕ) → list_all is_ascii_digit (zeros n) ≡ true
unfolding zeros
all_zeros zero = refl
all_zeros (suc n) = all_zeros n

all_padded : (ds : List ℕ) (n : ℕ) → list_all is_ascii_digit ds ≡ true → list_all is_ascii_digit (ds ++ zeros n) ≡ true
all_padded ds n h = list_all-append is_ascii_digit ds (zeros n) ∙ and_from (list_all is_ascii_digit ds)
    (list_all is_ascii_digit (zeros n)) h (all_zeros n)

-- If two lists of digits begin with equal digits, the comparison of their numbers continues with the second digits.
same_front : (r : Bool) (x d : ℕ) (ours least : List ℕ) → Ordered r (x * 10 + digit_value d) ours least
    → Ordered r x (d ∷ ours) (d ∷ least)
unfolding onto
same_front true x d ours least h = h
same_front false x d ours least h = h

step : (x d b : ℕ) (ds bs : List ℕ) (up down : ℕ) → is_ascii_digit d ≡ true → is_ascii_digit b ≡ true
    → list_all is_ascii_digit ds ≡ true → list_all is_ascii_digit bs ≡ true → length ds + up ≡ length bs + down
    → Ordered (not_below ds bs) (x * 10 + digit_value b) (ds ++ zeros up) (bs ++ zeros down)
    → Ordered (cond (d == b) (not_below ds bs) (nat_lt b d)) x (d ∷ (ds ++ zeros up)) (b ∷ (bs ++ zeros down))
unfolding onto
step x d b ds bs up down hd hb all_ds all_bs e more = go (d == b) refl
  where
    ours : List ℕ
    ours = ds ++ zeros up

    least : List ℕ
    least = bs ++ zeros down

    long : length ours ≡ length least
    long = padded ds up ∙ e ∙ sym (padded bs down)

    other : (l : Bool) → (d == b) ≡ false → nat_lt b d ≡ l → Ordered l x (d ∷ ours) (b ∷ least)
    other true n h =
        let less = less_stays (x * 10 + digit_value b) (x * 10 + digit_value d) least ours
        (omega (arith, less_digit b d hb hd h)) (all_padded bs down all_bs) (sym long) in
        omega (arith, less)
    other false n h =
        less_stays (x * 10 + digit_value d) (x * 10 + digit_value b) ours least
        (omega (arith, more_digit b d hb hd n h)) (all_padded ds up all_ds) long

    go : (t : Bool) → (d == b) ≡ t → Ordered (cond t (not_below ds bs) (nat_lt b d)) x (d ∷ ours) (b ∷ least)
    go true h =
        subst (λ c. Ordered (not_below ds bs) x (c ∷ ours) (b ∷ least)) (sym (eqb-true d b h))
        (same_front (not_below ds bs) x b ours least more)
    go false h = other (nat_lt b d) h refl

ordered : (x : ℕ) (ds bs : List ℕ) (up down : ℕ) → list_all is_ascii_digit ds ≡ true → list_all is_ascii_digit bs ≡ true
    → length ds + up ≡ length bs + down → Ordered (not_below ds bs) x (ds ++ zeros up) (bs ++ zeros down)
unfolding zeros
ordered x ds [] up down hd hb e = past_zeros x ds up down (omega (arith, e))
ordered x [] (b ∷ bs) zero down hd hb e = absurd (omega (arith, e))
ordered x [] (b ∷ bs) (suc up) down hd hb e =
    let p = and_parts (is_ascii_digit b) (list_all is_ascii_digit bs) hb in
    step x 48 b [] bs up down refl p.0 refl p.1 (omega (arith, e))
    (ordered (x * 10 + digit_value b) [] bs up down refl p.1 (omega (arith, e)))
ordered x (d ∷ ds) (b ∷ bs) up down hd hb e =
    let p = and_parts (is_ascii_digit b) (list_all is_ascii_digit bs) hb in
    let q = and_parts (is_ascii_digit d) (list_all is_ascii_digit ds) hd in
    step x d b ds bs up down q.0 p.0 q.1 p.1 (omega (arith, e))
    (ordered (x * 10 + digit_value b) ds bs up down q.1 p.1 (omega (arith, e)))

-- ---- the order of decimal numbers

-- The list consists of decimal digits. It isn't empty, and its first digit isn't zero.
abbrev pub IsFirst : List ℕ → Type 0
IsFirst [] = ⊥
IsFirst (d ∷ ds) = (list_all is_ascii_digit (d ∷ ds) ≡ true) × ((d == 48) ≡ false)

first_value : (d : ℕ) → is_ascii_digit d ≡ true → (d == 48) ≡ false → 0 < digit_value d
first_value d h n = let e = (digit_code d h).0 in grind (arith, nat_tests)

-- If one number has more digits than another one, it is greater: 100 is greater than 99. The zeros of a factor 10^n count as
-- digits. The first digit of the greater number isn't zero.
pub more_digits : (ds bs : List ℕ) (up down : ℕ) → IsFirst ds → list_all is_ascii_digit bs ≡ true
    → length bs + down < length ds + up → place_value 10 bs * 10 ^ down < place_value 10 ds * 10 ^ up
unfolding onto
more_digits [] bs up down f all l = absurd f
more_digits (d ∷ ds) bs up down f all l =
    let p = and_parts (is_ascii_digit d) (list_all is_ascii_digit ds) f.0 in
    let more : onto 0 (bs ++ zeros down) < onto (0 * 10 + digit_value d) (ds ++ zeros up) =
    longer (0 * 10 + digit_value d) (ds ++ zeros up) (bs ++ zeros down)
    (omega (arith, first_value d p.0 f.1)) (all_padded bs down all)
    (omega (arith, l, padded bs down, padded ds up)) in
    go more
  where
    go : onto 0 (bs ++ zeros down) < onto (0 * 10 + digit_value d) (ds ++ zeros up)
        → place_value 10 bs * 10 ^ down < place_value 10 (d ∷ ds) * 10 ^ up
    go h = omega (arith, h, scaled bs down, scaled (d ∷ ds) up)

abbrev Compared : Bool → ℕ → ℕ → Type 0
Compared true ours least = least ≤ ours
Compared false ours least = ours < least

pub same_digits : (ds bs : List ℕ) (up down : ℕ) → list_all is_ascii_digit ds ≡ true → list_all is_ascii_digit bs ≡ true
    → length ds + up ≡ length bs + down
    → Compared (not_below ds bs) (place_value 10 ds * 10 ^ up) (place_value 10 bs * 10 ^ down)
same_digits ds bs up down hd hb e = go (not_below ds bs) (ordered 0 ds bs up down hd hb e)
  where
    go : (r : Bool) → Ordered r 0 (ds ++ zeros up) (bs ++ zeros down)
        → Compared r (place_value 10 ds * 10 ^ up) (place_value 10 bs * 10 ^ down)
    go true h = omega (arith, h, scaled ds up, scaled bs down)
    go false h = omega (arith, h, scaled ds up, scaled bs down)

-- ---- the number that digits represent, with one more digit

pub place_more : (ds : List ℕ) (c : ℕ) → place_value 10 (ds ++ (c ∷ [])) ≡ place_value 10 ds * 10 + digit_value c
place_more [] c = omega arith
place_more (d ∷ ds) c =
    let long : length (ds ++ (c ∷ [])) ≡ suc (length ds) = length-append ds (c ∷ []) ∙ omega arith in
    rw (long, place_more ds c, pow-suc 10 (length ds)) (omega arith)

-- The number `capped`, which the code computes for an exponent, is the exponent's value, or both numbers are at least 2^100.
abbrev pub IsCapped : ℕ → ℕ → Type 0
IsCapped capped value = (capped ≡ value) ⊎ ((2 ^ 100 ≤ capped) × (2 ^ 100 ≤ value))

pub more_capped : (front : List ℕ) (c v u : ℕ) → is_ascii_digit c ≡ true → u ≡ c - 48 → v < 2 ^ 100
    → IsCapped v (place_value 10 front) → IsCapped (10 * v + u) (place_value 10 (front ++ (c ∷ [])))
more_capped front c v u digit is less (inl e) =
    inl (omega (arith, e, is, (digit_code c digit).0, place_more front c))
more_capped front c v u digit is less (inr p) = absurd (omega (arith, less, p.0))

pub same_capped : (front : List ℕ) (c v : ℕ) → 2 ^ 100 ≤ v → IsCapped v (place_value 10 front)
    → IsCapped v (place_value 10 (front ++ (c ∷ [])))
same_capped front c v more (inl e) = inr (more, omega (arith, more, e, place_more front c))
same_capped front c v more (inr p) = inr (more, omega (arith, p.1, place_more front c))

-- ---- the digits of a numeral without leading zeros

digits_all : (cs : List ℕ) → list_all is_ascii_digit (digits_only cs) ≡ true
digits_all [] = refl
digits_all (c ∷ cs) = go (is_ascii_digit c) refl (digits_all cs)
  where
    go : (b : Bool) → is_ascii_digit c ≡ b → list_all is_ascii_digit (digits_only cs) ≡ true
        → list_all is_ascii_digit (cond b (c ∷ digits_only cs) (digits_only cs)) ≡ true
    go true h more = and_from (is_ascii_digit c) (list_all is_ascii_digit (digits_only cs)) h more
    go false h more = more

zeros_kept : (ds : List ℕ) → place_value 10 (without_zeros ds) ≡ place_value 10 ds
zeros_kept [] = refl
zeros_kept (d ∷ ds) = go (d == 48) refl (zeros_kept ds)
  where
    go : (b : Bool) → (d == 48) ≡ b → place_value 10 (without_zeros ds) ≡ place_value 10 ds
        → place_value 10 (cond b (without_zeros ds) (d ∷ ds)) ≡ place_value 10 (d ∷ ds)
    go true h more = more ∙ sym (ap (λ c. digit_value c * 10 ^ length ds + place_value 10 ds) (eqb-true d 48 h)
        ∙ omega arith)
    go false h more = refl

first_left : (ds : List ℕ) → list_all is_ascii_digit ds ≡ true → (without_zeros ds ≡ []) ⊎ IsFirst (without_zeros ds)
first_left [] h = inl refl
first_left (d ∷ ds) h = go (d == 48) refl (first_left ds (and_parts (is_ascii_digit d) (list_all is_ascii_digit ds)
    h).1)
  where
    go : (b : Bool) → (d == 48) ≡ b → (without_zeros ds ≡ []) ⊎ IsFirst (without_zeros ds)
        → (cond b (without_zeros ds) (d ∷ ds) ≡ []) ⊎ IsFirst (cond b (without_zeros ds) (d ∷ ds))
    go true e more = more
    go false e more = inr (h, e)

bound_first : (bs : List ℕ) → IsBound bs → IsFirst bs
bound_first [] h = absurd h
bound_first (b ∷ bs) h = h

first_digits : (ds : List ℕ) → IsFirst ds → list_all is_ascii_digit ds ≡ true
first_digits [] h = absurd h
first_digits (d ∷ ds) h = h.0

-- The digits of a numeral before its exponent, without leading zeros.
abbrev pub ours_of : List ℕ → List ℕ
ours_of numeral = without_zeros (digits_only (decimal_part numeral))

ours_value : (n : List ℕ) → place_value 10 (ours_of n) ≡ significand n
ours_value n = zeros_kept (digits_only (decimal_part n))

ours_first : (n : List ℕ) (count : ℕ) → count ≡ length (ours_of n) → count ≢ 0 → IsFirst (ours_of n)
ours_first n count is some = go (first_left (digits_only (decimal_part n)) (digits_all (decimal_part n)))
  where
    go : (ours_of n ≡ []) ⊎ IsFirst (ours_of n) → IsFirst (ours_of n)
    go (inl e) = absurd (some (is ∙ ap length e))
    go (inr f) = f

no_length : (ds : List ℕ) → length ds ≡ 0 → place_value 10 ds ≡ 0
no_length [] h = refl
no_length (d ∷ ds) h = absurd (omega (arith, h))

no_times : (q : ℕ) → 0 * q ≡ 0
no_times q = omega arith

pub none_reach : (n bs : List ℕ) (count : ℕ) → IsBound bs → count ≡ length (ours_of n) → count ≡ 0
    → IsAtLeast (place_value 10 bs) n → ⊥
none_reach n bs count bound is none reaches =
    let f = bound_first bs bound in
    let some : 0 * 10 ^ 0 < place_value 10 bs * 10 ^ lowered n =
    more_digits bs [] (lowered n) 0 f refl (long bs f) in
    let zero : significand n ≡ 0 = sym (ours_value n) ∙ no_length (ours_of n) (sym is ∙ none) in
    let nothing : significand n * 10 ^ raised n ≡ 0 = ap (λ v. v * 10 ^ raised n) zero ∙ no_times (10 ^ raised n) in
    absurd (omega (arith, some, nothing, reaches))
  where
    long : (ds : List ℕ) → IsFirst ds → 0 + 0 < length ds + lowered n
    long [] g = absurd g
    long (d ∷ ds) g = omega arith

-- ---- if an exponent above the limit isn't exact, the powers of ten of the first digits still decide the comparison

exactly : (m : Bool) (count places bound power value : ℕ) → IsCapped power value → count < 2 ^ 64 → places < 2 ^ 64
    → bound ≤ 309
    → (bound + places + cond m power 0 < count + cond (not m) power 0
    → bound + (places + cond m value 0) < count + cond m 0 value)
    × ((count + cond (not m) power 0 < bound + places + cond m power 0
    → count + cond m 0 value < bound + (places + cond m value 0))
    × (count + cond (not m) power 0 ≡ bound + places + cond m power 0
    → count + cond m 0 value ≡ bound + (places + cond m value 0)))
exactly true count places bound power value (inl e) c p b = (
  λ h. omega (arith, e, h),
  (λ h. omega (arith, e, h), λ h. omega (arith, e, h)),
)
exactly true count places bound power value (inr q) c p b = (
  λ h. absurd (omega (arith, q.0, c, h)),
  (λ h. omega (arith, q.1, c), λ h. absurd (omega (arith, q.0, c, h))),
)
exactly false count places bound power value (inl e) c p b = (
  λ h. omega (arith, e, h),
  (λ h. omega (arith, e, h), λ h. omega (arith, e, h)),
)
exactly false count places bound power value (inr q) c p b = (
  λ h. omega (arith, q.1, p, b),
  (λ h. absurd (omega (arith, q.0, p, b, h)), λ h. absurd (omega (arith, q.0, p, b, h))),
)

-- The numbers that the code computes for a numeral `n`: `count`, the number of its digits without leading zeros, `places`,
-- the number of digits after its dot, and `power`, which is its exponent, or at least 2^100.
pub record IsMeasured (n bs : List ℕ) (count places power : ℕ) : Type 0 where
  pub bound : IsBound bs
  pub short : length bs ≤ 309
  pub count_is : count ≡ length (ours_of n)
  pub some : count ≢ 0
  pub places_are : places ≡ length (digits_only (after_point (decimal_part n)))
  pub power_is : IsCapped power (exponent n)
  pub count_fits : count < 2 ^ 64
  pub places_fit : places < 2 ^ 64

runs : (n bs : List ℕ) (count places power : ℕ) → (s : IsMeasured n bs count places power)
    → (length bs + places + cond (has_minus n) power 0 < count + cond (not (has_minus n)) power 0
    → length bs + lowered n < length (ours_of n) + raised n)
    × ((count + cond (not (has_minus n)) power 0 < length bs + places + cond (has_minus n) power 0
    → length (ours_of n) + raised n < length bs + lowered n)
    × (count + cond (not (has_minus n)) power 0 ≡ length bs + places + cond (has_minus n) power 0
    → length (ours_of n) + raised n ≡ length bs + lowered n))
runs n bs count places power s =
    let e = exactly (has_minus n) count places (length bs) power (exponent n) s.power_is s.count_fits s.places_fit
    s.short in (
      λ h. omega (arith, e.0 h, s.count_is, s.places_are),
      (λ h. omega (arith, e.1.0 h, s.count_is, s.places_are), λ h. omega (arith, e.1.1 h, s.count_is, s.places_are)),
    )

pub reach_more : (n bs : List ℕ) (count places power : ℕ) → IsMeasured n bs count places power
    → length bs + places + cond (has_minus n) power 0 < count + cond (not (has_minus n)) power 0
    → IsAtLeast (place_value 10 bs) n
reach_more n bs count places power s h =
    let f = bound_first bs s.bound in
    let more = more_digits (ours_of n) bs (raised n) (lowered n) (ours_first n count s.count_is s.some)
    (first_digits bs f) ((runs n bs count places power s).0 h) in
    let same : place_value 10 (ours_of n) * 10 ^ raised n ≡ significand n * 10 ^ raised n =
    ap (λ v. v * 10 ^ raised n) (ours_value n) in
    omega (arith, more, same)

pub reach_less : (n bs : List ℕ) (count places power : ℕ) → IsMeasured n bs count places power
    → count + cond (not (has_minus n)) power 0 < length bs + places + cond (has_minus n) power 0
    → IsAtLeast (place_value 10 bs) n → ⊥
reach_less n bs count places power s h reaches =
    let f = ours_first n count s.count_is s.some in
    let less = more_digits bs (ours_of n) (lowered n) (raised n) (bound_first bs s.bound)
    (first_digits (ours_of n) f) ((runs n bs count places power s).1.0 h) in
    let same : place_value 10 (ours_of n) * 10 ^ raised n ≡ significand n * 10 ^ raised n =
    ap (λ v. v * 10 ^ raised n) (ours_value n) in
    absurd (omega (arith, less, same, reaches))

pub reach_same : (n bs : List ℕ) (count places power : ℕ) → IsMeasured n bs count places power
    → count + cond (not (has_minus n)) power 0 ≡ length bs + places + cond (has_minus n) power 0
    → (r : Bool) → r ≡ not_below (ours_of n) bs
    → (r ≡ true → IsAtLeast (place_value 10 bs) n) × (r ≡ false → IsAtLeast (place_value 10 bs) n → ⊥)
reach_same n bs count places power s h r is =
    let f = bound_first bs s.bound in
    let g = ours_first n count s.count_is s.some in
    let c = same_digits (ours_of n) bs (raised n) (lowered n) (first_digits (ours_of n) g) (first_digits bs f)
    ((runs n bs count places power s).1.1 h) in
    let same : place_value 10 (ours_of n) * 10 ^ raised n ≡ significand n * 10 ^ raised n =
    ap (λ v. v * 10 ^ raised n) (ours_value n) in
    go (not_below (ours_of n) bs) c (sym is) same
  where
    go : (t : Bool)
        → Compared t (place_value 10 (ours_of n) * 10 ^ raised n) (place_value 10 bs * 10 ^ lowered n) → t ≡ r
        → place_value 10 (ours_of n) * 10 ^ raised n ≡ significand n * 10 ^ raised n
        → (r ≡ true → IsAtLeast (place_value 10 bs) n) × (r ≡ false → IsAtLeast (place_value 10 bs) n → ⊥)
    go true c e same = (λ x. omega (arith, c, same), λ x reaches. both_ways r x (sym e))
    go false c e same = (
      λ x. absurd (both_ways r (sym e) x),
      λ x reaches. absurd (omega (arith, c, same, reaches)),
    )

-- ---- the digits of a numeral as texts

digits_chars : (bs : List ℕ) → list_all is_ascii_digit bs ≡ true → chars bs ≡ bs
digits_chars bs h = chars-IsAscii bs (IsAscii-from_all bs (low bs h))
  where
    low : (cs : List ℕ) → list_all is_ascii_digit cs ≡ true → AllByRecursion (λ b. b < 128) cs
    low [] k = tt
    low (c ∷ cs) k =
        let p = and_parts (is_ascii_digit c) (list_all is_ascii_digit cs) k in
        (omega (arith, digit_code c p.0), low cs p.1)

pub bound_chars : (bs : List ℕ) → IsBound bs → chars bs ≡ bs
bound_chars bs h = digits_chars bs (first_digits bs (bound_first bs h))

pub tail_of : (t r front : List ℕ) → IsUtf8 t → IsUtf8 r → chars t ≡ front ++ chars r → IsTail t r
tail_of t r front u v e = record {
  front = encode_utf8_all front;
  text_is = sym (encodes-chars t u) ∙ ap encode_utf8_all e ∙ encodes-append front (chars r)
      ∙ ap (λ z. encode_utf8_all front ++ z) (encodes-chars r v);
  is_text = v;
}

pub letter_ends : (front cs : List ℕ) (c : ℕ) → is_exponent_letter c ≡ true
    → front ++ decimal_part (c ∷ cs) ≡ front
letter_ends front cs c h = ap (λ b. front ++ cond b [] (c ∷ decimal_part cs)) h ∙ append-nil front

pub letter_next : (front cs : List ℕ) (c : ℕ) → is_exponent_letter c ≡ false
    → (front ++ decimal_part (c ∷ cs) ≡ (front ++ (c ∷ [])) ++ decimal_part cs) × (power_part (c ∷ cs) ≡ power_part cs)
letter_next front cs c h = (
  ap (λ b. front ++ cond b [] (c ∷ decimal_part cs)) h ∙ sym (append_assoc front (c ∷ []) (decimal_part cs)),
  ap (λ b. cond b cs (power_part cs)) h,
)

pub measured : (n bs before after digits rest : List ℕ) (count places power : ℕ) → IsBound bs → length bs ≤ 309
    → before ≡ decimal_part n → after ≡ power_part n → digits ≡ without_zeros (digits_only before)
    → count ≡ length digits → count ≢ 0 → rest ≡ after_point before → places ≡ length (digits_only rest)
    → IsCapped power (place_value 10 (digits_only after)) → count < 2 ^ 64 → places < 2 ^ 64
    → IsMeasured n bs count places power
measured n bs before after digits rest count places power bound short b a d c some r p v count_fits places_fit =
    record {
      bound = bound;
      short = short;
      count_is = c ∙ ap length (d ∙ ap (λ z. without_zeros (digits_only z)) b);
      some = some;
      places_are = p ∙ ap (λ z. length (digits_only z)) (r ∙ ap after_point b);
      power_is = subst (λ z. IsCapped power (place_value 10 (digits_only z))) a v;
      count_fits = count_fits;
      places_fit = places_fit;
    }
