-- Digits of numbers of any size, and the number that they represent.
use Rattle.rl_syntax.proofs.Common.{◌≡◌, ℕ, zero, suc, ◌+◌, ◌*◌, ◌/◌, ◌%◌, ◌^◌, ◌<◌, ◌≤◌, ◌⊎◌, ◌&&◌, Bool, true, false, not, cond, eqb, List, [], ◌∷◌, ◌++◌, length, refl, sym, ap, subst, ◌∙◌, inl, inr, arith, nat_lt, digit_value, list_all, eqb-true, eq-eqb, ne_eqb, lt-ltb, and_parts, and_from, cases_Bool, cases_lt, agree_below_at}
use Rattle.std.proofs.lemmas.Bool.{eqb-false}
use Rattle.std.proofs.lemmas.Nat.{div-add-mod'}
use Rattle.std.proofs.Math.Nat.{pow-suc, pow-zero, mod-lt, mul-le-mul_left, mul-le-mul_right, pow-le-pow_right}
use Rattle.std.specs.Prelude.{reverse}
use Rattle.std.proofs.lemmas.List.{reverse-append}
use Rattle.std.specs.Fmt.{digit_glyph, digits_onto}
use Rattle.rl_syntax.specs.Texts.{begins_char}
use Rattle.rl_syntax.proofs.Basics.{all_weaker}
use Rattle.rl_syntax.specs.Spelling.{place_value}
use Rattle.rl_writing.specs.Integers.{numeral}

-- ---- the digit for a value below the base

-- The character is an ASCII digit of the base, and not an underscore.
abbrev pub is_glyph : ℕ → ℕ → Bool
is_glyph base c = (nat_lt c 128 && nat_lt (digit_value c) base) && not (eqb c 95)

abbrev glyph_test : Bool → ℕ → Bool
glyph_test upper d =
    let c = digit_glyph upper d in
    (nat_lt c 128 && eqb (digit_value c) d) && not (eqb c 95)

glyph_tests : (upper : Bool) (d : ℕ) → d < 16 → glyph_test upper d ≡ true
glyph_tests true d h = agree_below_at (glyph_test true) (λ d. true) 16 d refl h
glyph_tests false d h = agree_below_at (glyph_test false) (λ d. true) 16 d refl h

pub glyph_value : (upper : Bool) (d : ℕ) → d < 16 → digit_value (digit_glyph upper d) ≡ d
glyph_value upper d h =
    let c = digit_glyph upper d in
    let p = and_parts (nat_lt c 128 && eqb (digit_value c) d) (not (eqb c 95)) (glyph_tests upper d h) in
    eqb-true (digit_value c) d (and_parts (nat_lt c 128) (eqb (digit_value c) d) p.0).1

pub glyph_is : (base : ℕ) (upper : Bool) (d : ℕ) → base ≤ 16 → d < base → is_glyph base (digit_glyph upper d) ≡ true
glyph_is base upper d high h =
    let c = digit_glyph upper d in
    let p = and_parts (nat_lt c 128 && eqb (digit_value c) d) (not (eqb c 95)) (glyph_tests upper d (omega arith)) in
    let value = glyph_value upper d (omega arith) in
    and_from _ _ (and_from _ _ (and_parts (nat_lt c 128) (eqb (digit_value c) d) p.0).0
    (lt-ltb (digit_value c) base (omega (arith, value, h)))) p.1

-- ---- all digits of a number

-- If the divisor is at least 2, the quotient is at most half of the dividend.
pub halved : (n base : ℕ) → 2 ≤ base → n / base * 2 ≤ n
halved n base low = omega (arith, div-add-mod' n base, mul-le-mul_left (n / base) low)

abbrev now : ℕ → Bool → ℕ → List ℕ → List ℕ
now base upper n acc = digit_glyph upper (n % base) ∷ acc

ends : (k base : ℕ) (upper : Bool) (n : ℕ) (acc : List ℕ) → eqb (n / base) 0 ≡ true
    → digits_onto (suc k) base upper n acc ≡ now base upper n acc
ends k base upper n acc e =
    ap (λ b. cond b (now base upper n acc) (digits_onto k base upper (n / base) (now base upper n acc))) e

goes_on : (k base : ℕ) (upper : Bool) (n : ℕ) (acc : List ℕ) → eqb (n / base) 0 ≡ false
    → digits_onto (suc k) base upper n acc ≡ digits_onto k base upper (n / base) (now base upper n acc)
goes_on k base upper n acc e =
    ap (λ b. cond b (now base upper n acc) (digits_onto k base upper (n / base) (now base upper n acc))) e

no_quotient : (n base : ℕ) → 2 ≤ base → n ≤ 0 → eqb (n / base) 0 ≡ true
no_quotient n base low h = eq-eqb (n / base) 0 (omega (arith, halved n base low))

-- The digits of a number are computed within a limit of steps. A higher limit doesn't change the digits.
room : (base : ℕ) (upper : Bool) → 2 ≤ base → (k j n : ℕ) (acc : List ℕ) → n ≤ k → n ≤ j
    → digits_onto (suc k) base upper n acc ≡ digits_onto (suc j) base upper n acc
room base upper low zero j n acc h l =
    let e = no_quotient n base low h in
    ends zero base upper n acc e ∙ sym (ends j base upper n acc e)
room base upper low (suc k) zero n acc h l =
    let e = no_quotient n base low l in
    ends (suc k) base upper n acc e ∙ sym (ends zero base upper n acc e)
room base upper low (suc k) (suc j) n acc h l =
    elim (cases_Bool (eqb (n / base) 0)) [
      | inl e ↦ ends (suc k) base upper n acc e ∙ sym (ends (suc j) base upper n acc e)
      | inr e ↦
          let some = eqb-false (n / base) 0 e in
          let half = halved n base low in
          goes_on (suc k) base upper n acc e
          ∙ room base upper low k j (n / base) (now base upper n acc) (omega (arith, half)) (omega (arith, half))
          ∙ sym (goes_on (suc j) base upper n acc e)
    ]

-- The digits of the number `n`, followed by the digits `acc`.
pub digits_before : ℕ → Bool → ℕ → List ℕ → List ℕ
digits_before base upper n acc = digits_onto (suc n) base upper n acc

pub before_nothing : (base : ℕ) (upper : Bool) (n : ℕ) → digits_before base upper n [] ≡ numeral base upper n
unfolding digits_before numeral
before_nothing base upper n = refl

pub one_digit : (base : ℕ) (upper : Bool) (n : ℕ) (acc : List ℕ) → n / base ≡ 0
    → digits_before base upper n acc ≡ digit_glyph upper (n % base) ∷ acc
unfolding digits_before
one_digit base upper n acc e = ends n base upper n acc (eq-eqb (n / base) 0 e)

pub last_digit : (base : ℕ) (upper : Bool) (n : ℕ) (acc : List ℕ) → 2 ≤ base → (n / base ≡ 0 → ⊥)
    → digits_before base upper n acc ≡ digits_before base upper (n / base) (digit_glyph upper (n % base) ∷ acc)
unfolding digits_before
last_digit base upper zero acc low some = absurd (some (omega (arith, halved zero base low)))
last_digit base upper (suc m) acc low some =
    let half = halved (suc m) base low in
    goes_on (suc m) base upper (suc m) acc (ne_eqb (suc m / base) 0 some)
    ∙ room base upper low m (suc m / base) (suc m / base) (now base upper (suc m) acc) (omega (arith, half))
    (omega arith)

-- ---- the number that the digits represent

-- The number that the digits of `n`, followed by the digits `acc`, represent.
abbrev spelled : ℕ → ℕ → List ℕ → ℕ
spelled base n acc = n * base ^ length acc + place_value base acc

one_more : (base : ℕ) (upper : Bool) (n : ℕ) (acc : List ℕ) → 2 ≤ base → base ≤ 16
    → spelled base (n / base) (digit_glyph upper (n % base) ∷ acc) ≡ spelled base n acc
one_more base upper n acc low high =
    let rest : n % base < base = mod-lt n (omega arith) in
    let p = base ^ length acc in
    let v = place_value base acc in
    let value = glyph_value upper (n % base) (omega (arith, rest)) in
    let power : base ^ length (n ∷ acc) ≡ p * base = pow-suc base (length acc) in
    ap (λ z. n / base * z + (digit_value (digit_glyph upper (n % base)) * p + v)) power
    ∙ ap (λ z. n / base * (p * base) + (z * p + v)) value
    ∙ (let whole : n / base * (p * base) + (n % base * p + v) ≡ (n / base * base + n % base) * p + v = omega arith in
    whole)
    ∙ ap (λ z. z * p + v) (div-add-mod' n base)

value_ends : (k base : ℕ) (upper : Bool) (n : ℕ) (acc : List ℕ) → 2 ≤ base → base ≤ 16 → eqb (n / base) 0 ≡ true
    → place_value base (digits_onto (suc k) base upper n acc) ≡ spelled base n acc
value_ends k base upper n acc low high e =
    let p = base ^ length (n ∷ acc) in
    let v = place_value base (now base upper n acc) in
    let bare : v ≡ 0 * p + v = omega arith in
    ap (place_value base) (ends k base upper n acc e) ∙ bare ∙ ap (λ q. q * p + v) (sym (eqb-true (n / base) 0 e))
    ∙ one_more base upper n acc low high

value_onto : (base : ℕ) (upper : Bool) → 2 ≤ base → base ≤ 16 → (k n : ℕ) (acc : List ℕ) → n ≤ k
    → place_value base (digits_onto (suc k) base upper n acc) ≡ spelled base n acc
value_onto base upper low high zero n acc h = value_ends zero base upper n acc low high (no_quotient n base low h)
value_onto base upper low high (suc k) n acc h =
    elim (cases_Bool (eqb (n / base) 0)) [
      | inl e ↦ value_ends (suc k) base upper n acc low high e
      | inr e ↦
          let some = eqb-false (n / base) 0 e in
          ap (place_value base) (goes_on (suc k) base upper n acc e)
          ∙ value_onto base upper low high k (n / base) (now base upper n acc) (omega (arith, halved n base low))
          ∙ one_more base upper n acc low high
    ]

pub numeral_value : (base : ℕ) (upper : Bool) (n : ℕ) → 2 ≤ base → base ≤ 16
    → place_value base (numeral base upper n) ≡ n
unfolding numeral
numeral_value base upper n low high =
    let bare : n * base ^ 0 + 0 ≡ n = omega (arith, ap (λ p. n * p) (pow-zero base)) in
    value_onto base upper low high n n [] (omega arith) ∙ bare

-- ---- each character of a written number is a digit

glyphs_onto : (base : ℕ) (upper : Bool) → 2 ≤ base → base ≤ 16 → (k n : ℕ) (acc : List ℕ)
    → list_all (is_glyph base) acc ≡ true → list_all (is_glyph base) (digits_onto k base upper n acc) ≡ true
glyphs_onto base upper low high zero n acc h = h
glyphs_onto base upper low high (suc k) n acc h =
    let rest : n % base < base = mod-lt n (omega arith) in
    let more = and_from _ _ (glyph_is base upper (n % base) high rest) h in
    elim (cases_Bool (eqb (n / base) 0)) [
      | inl e ↦ ap (list_all (is_glyph base)) (ends k base upper n acc e) ∙ more
      | inr e ↦ ap (list_all (is_glyph base)) (goes_on k base upper n acc e)
          ∙ glyphs_onto base upper low high k (n / base) (now base upper n acc) more
    ]

pub numeral_glyphs : (base : ℕ) (upper : Bool) (n : ℕ) → 2 ≤ base → base ≤ 16
    → list_all (is_glyph base) (numeral base upper n) ≡ true
unfolding numeral
numeral_glyphs base upper n low high = glyphs_onto base upper low high (suc n) n [] refl

-- The list of digits isn't empty.
pub record IsSome (ds : List ℕ) : Type 0 where
  pub first : ℕ
  pub more : List ℕ
  pub is : ds ≡ first ∷ more

some_onto : (k base : ℕ) (upper : Bool) (n x : ℕ) (acc : List ℕ) → IsSome (digits_onto k base upper n (x ∷ acc))
some_onto zero base upper n x acc = record { first = x; more = acc; is = refl }
some_onto (suc k) base upper n x acc =
    elim (cases_Bool (eqb (n / base) 0)) [
      | inl e ↦ record { first = digit_glyph upper (n % base); more = x ∷ acc; is = ends k base upper n (x ∷ acc) e }
      | inr e ↦ subst IsSome (sym (goes_on k base upper n (x ∷ acc) e))
          (some_onto k base upper (n / base) (digit_glyph upper (n % base)) (x ∷ acc))
    ]

pub numeral_some : (base : ℕ) (upper : Bool) (n : ℕ) → IsSome (numeral base upper n)
unfolding numeral
numeral_some base upper n =
    elim (cases_Bool (eqb (n / base) 0)) [
      | inl e ↦ record { first = digit_glyph upper (n % base); more = []; is = ends n base upper n [] e }
      | inr e ↦ subst IsSome (sym (goes_on n base upper n [] e))
          (some_onto n base upper (n / base) (digit_glyph upper (n % base)) [])
    ]

pub numeral_digits : (base n : ℕ) (upper : Bool) → 2 ≤ base → base ≤ 16
    → list_all (λ c. nat_lt (digit_value c) base) (numeral base upper n) ≡ true
numeral_digits base n upper low high =
    all_weaker (is_glyph base) (λ c. nat_lt (digit_value c) base)
    (λ c h. (and_parts (nat_lt c 128) (nat_lt (digit_value c) base)
    (and_parts (nat_lt c 128 && nat_lt (digit_value c) base) (not (eqb c 95)) h).0).1) (numeral base upper n)
    (numeral_glyphs base upper n low high)

-- ---- the first digit of a number isn't zero, unless the number is 0

glyph_no_zero : (upper : Bool) (d : ℕ) → d < 16 → 0 < d → eqb (digit_glyph upper d) 48 ≡ false
glyph_no_zero upper d h some = ne_eqb (digit_glyph upper d) 48 (λ e.
    let zero_is : digit_value (digit_glyph upper d) ≡ 0 = ap digit_value e in
    absurd (omega (arith, glyph_value upper d h, zero_is, some)))

first_no_zero : (base : ℕ) (upper : Bool) → 2 ≤ base → base ≤ 16 → (k n : ℕ) (acc : List ℕ) → n ≤ k → 0 < n
    → begins_char 48 (digits_onto (suc k) base upper n acc) ≡ false
first_no_zero base upper low high zero n acc h some = absurd (omega arith)
first_no_zero base upper low high (suc k) n acc h some =
    elim (cases_Bool (eqb (n / base) 0)) [
      | inl e ↦
          let none : n / base ≡ 0 = eqb-true (n / base) 0 e in
          let last : n % base ≡ n = omega (arith, div-add-mod' n base, ap (λ q. q * base) none) in
          let less : n % base < base = mod-lt n (omega arith) in
          ap (begins_char 48) (ends (suc k) base upper n acc e)
          ∙ glyph_no_zero upper (n % base) (omega (arith, less)) (omega (arith, last))
      | inr e ↦
          let more = eqb-false (n / base) 0 e in
          ap (begins_char 48) (goes_on (suc k) base upper n acc e)
          ∙ first_no_zero base upper low high k (n / base) (now base upper n acc) (omega (arith, halved n base low))
          (omega (arith, more))
    ]

pub numeral_no_zero : (base n : ℕ) (upper : Bool) → 2 ≤ base → base ≤ 16 → 0 < n
    → begins_char 48 (numeral base upper n) ≡ false
unfolding numeral
numeral_no_zero base n upper low high some = first_no_zero base upper low high n n [] (omega arith) some

-- ---- the number of digits of a number

-- Dividing a number by a base of at least 2 removes at least one bit. If `count` divisions have removed at least `count`
-- bits, one more division removes at least one more.
pub fits_more : (n rest base count more bits : ℕ) → 2 ≤ base → rest ≡ n / base → more ≡ count + 1
    → n * 2 ^ count < 2 ^ bits → rest * 2 ^ more < 2 ^ bits
fits_more n rest base count more bits low rest_is is h =
    let same : more ≡ suc count = omega (arith, is) in
    let power : 2 ^ more ≡ 2 ^ count * 2 = ap (λ z. 2 ^ z) same ∙ pow-suc 2 count in
    let half = mul-le-mul_right (2 ^ count) (halved n base low) in
    let whole : n / base * 2 ^ more < 2 ^ bits = omega (arith, h, half, ap (λ z. n / base * z) power) in
    omega (arith, whole, ap (λ z. z * 2 ^ more) rest_is)

pub count_left : (n count bits : ℕ) → 0 < bits → n * 2 ^ count < 2 ^ bits → (0 < n) ⊎ (count ≡ 0) → count < bits
count_left n count bits some h (inr e) = omega arith
count_left n count bits some h (inl more) =
    elim (cases_lt count bits) [
      | inl a ↦ a
      | inr a ↦
          let large : 2 ^ bits ≤ 2 ^ count = pow-le-pow_right (omega arith) a in
          let one = mul-le-mul_right (2 ^ count) more in
          absurd (omega (arith, h, large, one))
    ]

-- ---- digits that were written, the last digit first

reversed : (xs ys : List ℕ) (d : ℕ) → ys ≡ xs ++ (d ∷ []) → reverse ys ≡ d ∷ reverse xs
reversed xs ys d e = ap reverse e ∙ reverse-append xs (d ∷ [])

-- The code writes the last digit of a number first. The digit that the code writes now is the first of the reversed digits.
now_first : (base : ℕ) (upper : Bool) (left last d : ℕ) (xs ys : List ℕ) → last ≡ left % base → ys ≡ xs ++ (d ∷ [])
    → d ≡ digit_glyph upper last → reverse ys ≡ digit_glyph upper (left % base) ∷ reverse xs
now_first base upper left last d xs ys last_is bytes is =
    reversed xs ys d bytes ∙ ap (λ z. z ∷ reverse xs) (is ∙ ap (digit_glyph upper) last_is)

-- If no digit is left after the one that is written now, the reversed digits are the whole number's digits.
pub put_first : (base : ℕ) (upper : Bool) (left rest last d : ℕ) (xs ys whole : List ℕ) → rest ≡ left / base
    → last ≡ left % base → ys ≡ xs ++ (d ∷ []) → d ≡ digit_glyph upper last → rest ≡ 0
    → digits_before base upper left (reverse xs) ≡ whole → reverse ys ≡ whole
put_first base upper left rest last d xs ys whole rest_is last_is bytes is none before =
    now_first base upper left last d xs ys last_is bytes is
    ∙ sym (one_digit base upper left (reverse xs) (sym rest_is ∙ none)) ∙ before

pub put_more : (base : ℕ) (upper : Bool) (left rest last d : ℕ) (xs ys whole : List ℕ) → 2 ≤ base → rest ≡ left / base
    → last ≡ left % base → ys ≡ xs ++ (d ∷ []) → d ≡ digit_glyph upper last → (rest ≡ 0 → ⊥)
    → digits_before base upper left (reverse xs) ≡ whole → digits_before base upper rest (reverse ys) ≡ whole
put_more base upper left rest last d xs ys whole low rest_is last_is bytes is some before =
    ap (λ z. digits_before base upper z (reverse ys)) rest_is
    ∙ ap (digits_before base upper (left / base)) (now_first base upper left last d xs ys last_is bytes is)
    ∙ sym (last_digit base upper left (reverse xs) low (λ e. some (rest_is ∙ e))) ∙ before
