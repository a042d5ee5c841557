-- Numbers in a file: the code has equal results for the text as written and for the text with CR LF read as LF.
use Rattle.rl_strict.proofs.Names.{◌≡◌, ℕ, ◌≤◌, Bool, true, false, not, ◌==◌, ◌&&◌, ◌||◌, cond, List, [], ◌∷◌, Option, Some, None, refl, sym, ap, ◌∙◌, arith, both_ways, is_ascii_digit, list_any, or_from, cond_both, first_passes, is_exponent_letter, is_run_part, le-ltb, place_value, without_underscores, and-false, apart, after_digits, after_power_sign, capped, digit_run_at, has_digit_at, has_value, magnitude_at, radix_at, radix_of, is_some_text, FlawKind, BadSuffix, BasedFloat, InvalidDigit, NoDigits, NoExponentDigit, NoFractionDigit, lf_text, is_float_mark, IsStop, Ending, NumberRead, as_float, as_integer, based_read_at, digits_end_at, ended, fraction_end_at, number_read_at, power_end_at, stopped, suffix_end_at, whole_read_at, suffix_rest}
use Rattle.rl_strict.proofs.FileTextLemmas.{by_first, other_kept, when_kept}
use Rattle.rl_strict.proofs.FileSuffixes.{both, first_read, front_read, run_read, some_read, suffix_rest_read}
use Rattle.rl_strict.proofs.ReadNumbers.{stop_of}

abbrev lf_ending : Ending → Ending
lf_ending e = (e.0, lf_text e.1)

abbrev pub lf_number : NumberRead → NumberRead
lf_number n = (n.0, n.1, lf_text n.2)

-- ---- sequences of digits

-- A CR is neither an underscore nor a digit, in any base up to 36.
cr_part : (radix : ℕ) → radix ≤ 36 → is_run_part (has_value radix) 13 ≡ false
cr_part radix h = or_from (has_value radix 13) (13 == 95) (le-ltb 36 radix h) refl

lf_part : (radix : ℕ) → radix ≤ 36 → is_run_part (has_value radix) 10 ≡ false
lf_part radix h = or_from (has_value radix 10) (10 == 95) (le-ltb 36 radix h) refl

after_read : (radix : ℕ) → radix ≤ 36 → (t : List ℕ) → after_digits radix (lf_text t) ≡ lf_text (after_digits radix t)
after_read radix h t = run_read (is_run_part (has_value radix)) (cr_part radix h) (lf_part radix h) t

row_read : (radix : ℕ) → radix ≤ 36 → (t : List ℕ) → digit_run_at radix (lf_text t) ≡ digit_run_at radix t
row_read radix h t = front_read (is_run_part (has_value radix)) (cr_part radix h) (lf_part radix h) t

has_read : (radix : ℕ) → radix ≤ 36 → (t : List ℕ) → has_digit_at radix (lf_text t) ≡ has_digit_at radix t
has_read radix h t = ap (list_any (has_value radix)) (row_read radix h t)

magnitude_read : (radix : ℕ) → radix ≤ 36 → (t : List ℕ) → magnitude_at radix (lf_text t) ≡ magnitude_at radix t
magnitude_read radix h t = ap (λ z. place_value radix (without_underscores z)) (row_read radix h t)

ten : 10 ≤ 36
ten = omega arith

-- ---- the text after a number's digits

suffix_end_read : (t : List ℕ) → suffix_end_at (lf_text t) ≡ lf_ending (suffix_end_at t)
unfolding suffix_end_at
suffix_end_read t =
    let x : List ℕ = suffix_rest t in
    ap (λ z. cond {A = Ending} (is_some_text z) (stopped BadSuffix z) (ended (lf_text t))) (suffix_rest_read t)
    ∙ ap (λ b. cond {A = Ending} b (stopped BadSuffix (lf_text x)) (ended (lf_text t))) (some_read x)
    ∙ both lf_ending (is_some_text x) (stopped BadSuffix x) (ended t) (stopped BadSuffix (lf_text x))
    (ended (lf_text t)) refl refl

sign_read : (t : List ℕ) → after_power_sign (lf_text t) ≡ lf_text (after_power_sign t)
sign_read t = by_first (λ z r. after_power_sign r ≡ lf_text (after_power_sign z)) refl (λ cs. refl)
    (λ c cs e. both lf_text (c == 43 || c == 45) cs (c ∷ cs) (lf_text cs) (c ∷ lf_text cs) refl (sym e)) t

power_read : (t : List ℕ) → power_end_at (lf_text t) ≡ lf_ending (power_end_at t)
unfolding power_end_at
power_read t = ap of (sign_read t) ∙ of_read (after_power_sign t)
  where
    of : List ℕ → Ending
    of w = cond (has_digit_at 10 w) (suffix_end_at (after_digits 10 w)) (stopped NoExponentDigit (after_digits 10 w))

    of_read : (w : List ℕ) → of (lf_text w) ≡ lf_ending (of w)
    of_read w =
        let rest : List ℕ = after_digits 10 w in
        let far : List ℕ = after_digits 10 (lf_text w) in
        ap (λ b. cond {A = Ending} b (suffix_end_at far) (stopped NoExponentDigit far)) (has_read 10 ten w)
        ∙ both lf_ending (has_digit_at 10 w) (suffix_end_at rest) (stopped NoExponentDigit rest) (suffix_end_at far)
        (stopped NoExponentDigit far) (ap suffix_end_at (after_read 10 ten w) ∙ suffix_end_read rest)
        (ap (stopped NoExponentDigit) (after_read 10 ten w))

digits_end_read : (t : List ℕ) → digits_end_at (lf_text t) ≡ lf_ending (digits_end_at t)
unfolding digits_end_at
digits_end_read t = by_first (λ z r. digits_end_at r ≡ lf_ending (digits_end_at z)) (suffix_end_read []) (λ cs.
    suffix_end_read (13 ∷ 10 ∷ cs)) (λ c cs e. both lf_ending (is_exponent_letter c) (power_end_at cs) (suffix_end_at (c
    ∷ cs)) (power_end_at (lf_text cs)) (suffix_end_at (c ∷ lf_text cs)) (power_read cs) (ap suffix_end_at (sym e) ∙
    suffix_end_read (c ∷ cs))) t

fraction_read : (t : List ℕ) → fraction_end_at (lf_text t) ≡ lf_ending (fraction_end_at t)
unfolding fraction_end_at
fraction_read t = by_first (λ z r. fraction_end_at r ≡ lf_ending (fraction_end_at z)) refl (λ cs. refl) (λ c cs e. both
    lf_ending (is_ascii_digit c) (digits_end_at (after_digits 10 (c ∷ cs))) (stopped NoFractionDigit (c ∷ cs))
    (digits_end_at (after_digits 10 (c ∷ lf_text cs))) (stopped NoFractionDigit (c ∷ lf_text cs)) (ap (λ z.
    digits_end_at (after_digits 10 z)) (sym e) ∙ ap digits_end_at (after_read 10 ten (c ∷ cs)) ∙ digits_end_read
    (after_digits 10 (c ∷ cs))) (ap (stopped NoFractionDigit) (sym e))) t

-- ---- the parse result of a number in a file

float_read : (e : Ending) → as_float (lf_ending e) ≡ lf_number (as_float e)
float_read (None, x) = refl
float_read (Some k, x) = refl

integer_read : (m : Option ℕ) (e : Ending) → as_integer m (lf_ending e) ≡ lf_number (as_integer m e)
integer_read m (None, x) = refl
integer_read m (Some k, x) = refl

integer_end : (m : Option ℕ) (t : List ℕ) → as_integer m (suffix_end_at (lf_text t))
    ≡ lf_number (as_integer m (suffix_end_at t))
integer_end m t = ap (as_integer m) (suffix_end_read t) ∙ integer_read m (suffix_end_at t)

whole_read : (m : Option ℕ) (t : List ℕ) → whole_read_at m (lf_text t) ≡ lf_number (whole_read_at m t)
unfolding whole_read_at
whole_read m t = by_first (λ z r. whole_read_at m r ≡ lf_number (whole_read_at m z)) (integer_end m [])
    (λ cs. integer_end m (13 ∷ 10 ∷ cs)) kept t
  where
    kept : (c : ℕ) (cs : List ℕ) → lf_text (c ∷ cs) ≡ c ∷ lf_text cs → whole_read_at m (c ∷ lf_text cs)
        ≡ lf_number (whole_read_at m (c ∷ cs))
    kept c cs e = both lf_number (c == 46) (as_float (fraction_end_at cs)) _ (as_float (fraction_end_at (lf_text cs))) _
        (ap as_float (fraction_read cs) ∙ float_read (fraction_end_at cs)) (both lf_number (is_exponent_letter c)
        (as_float (power_end_at cs)) (as_integer m (suffix_end_at (c ∷ cs))) (as_float (power_end_at (lf_text cs)))
        (as_integer m (suffix_end_at (c ∷ lf_text cs))) (ap as_float (power_read cs) ∙ float_read (power_end_at cs)) (ap
        (λ z. as_integer m (suffix_end_at z)) (sym e) ∙ integer_end m (c ∷ cs)))

based_read : (radix : ℕ) → radix ≤ 36 → (t : List ℕ) → based_read_at radix (lf_text t)
    ≡ lf_number (based_read_at radix t)
unfolding based_read_at
based_read radix h t =
    let far : List ℕ = after_digits radix (lf_text t) in
    ap (λ b. of b (magnitude_at radix (lf_text t)) far) (has_read radix h t)
    ∙ ap (λ m. of (has_digit_at radix t) m far) (magnitude_read radix h t)
    ∙ ap (of (has_digit_at radix t) (magnitude_at radix t)) (after_read radix h t)
    ∙ of_read (has_digit_at radix t) (magnitude_at radix t) (after_digits radix t)
  where
    plain : ℕ → List ℕ → NumberRead
    plain m z = cond (first_passes is_float_mark z) (as_float (stopped BasedFloat z))
        (as_integer (capped m) (suffix_end_at z))

    some : Bool → ℕ → List ℕ → NumberRead
    some b m z = cond (not b) (as_float (stopped NoDigits z)) (plain m z)

    of : Bool → ℕ → List ℕ → NumberRead
    of b m z = cond (first_passes is_ascii_digit z) (as_float (stopped InvalidDigit z)) (some b m z)

    plain_read : (m : ℕ) (z : List ℕ) → plain m (lf_text z) ≡ lf_number (plain m z)
    plain_read m z =
        ap (λ b. cond {A = NumberRead} b (as_float (stopped BasedFloat (lf_text z)))
        (as_integer (capped m) (suffix_end_at (lf_text z)))) (first_read is_float_mark refl z)
        ∙ both lf_number (first_passes is_float_mark z) (as_float (stopped BasedFloat z))
        (as_integer (capped m) (suffix_end_at z)) (as_float (stopped BasedFloat (lf_text z)))
        (as_integer (capped m) (suffix_end_at (lf_text z))) refl (integer_end (capped m) z)

    some_text_of : (b : Bool) (m : ℕ) (z : List ℕ) → some b m (lf_text z) ≡ lf_number (some b m z)
    some_text_of b m z = both lf_number (not b) (as_float (stopped NoDigits z)) (plain m z)
        (as_float (stopped NoDigits (lf_text z))) (plain m (lf_text z)) refl (plain_read m z)

    of_read : (b : Bool) (m : ℕ) (z : List ℕ) → of b m (lf_text z) ≡ lf_number (of b m z)
    of_read b m z =
        ap (λ d. cond {A = NumberRead} d (as_float (stopped InvalidDigit (lf_text z))) (some b m (lf_text z)))
        (first_read is_ascii_digit refl z)
        ∙ both lf_number (first_passes is_ascii_digit z) (as_float (stopped InvalidDigit z)) (some b m z)
        (as_float (stopped InvalidDigit (lf_text z))) (some b m (lf_text z)) refl (some_text_of b m z)

-- ---- the base of a number

abbrev lf_radix : ℕ × List ℕ → ℕ × List ℕ
lf_radix p = (p.0, lf_text p.1)

small_letter : (c : ℕ) → radix_of c ≤ 36
small_letter c = cond_both (c == 98) 2 _ (λ n. n ≤ 36) (λ e. omega arith) (λ e. cond_both (c == 111) 8 _ (λ n. n ≤ 36)
    (λ e. omega arith) (λ e. cond_both (c == 120) 16 10 (λ n. n ≤ 36) (λ e. omega arith) (λ e. omega arith)))

small_radix : (t : List ℕ) → (radix_at t).0 ≤ 36
unfolding radix_at
small_radix [] = ten
small_radix (z ∷ []) = ten
small_radix (z ∷ c ∷ cs) = cond_both {A = ℕ × List ℕ} (z == 48 && not (radix_of c == 10)) (radix_of c, cs)
    (10, z ∷ c ∷ cs) (λ p. p.0 ≤ 36) (λ e. small_letter c) (λ e. ten)

radix_read : (z : ℕ) (t : List ℕ) → lf_text (z ∷ t) ≡ z ∷ lf_text t → radix_at (z ∷ lf_text t)
    ≡ lf_radix (radix_at (z ∷ t))
unfolding radix_at
radix_read z t kept = by_first (λ u r. lf_text (z ∷ u) ≡ z ∷ r → radix_at (z ∷ r) ≡ lf_radix (radix_at (z ∷ u)))
    (λ e. ap ten_of (sym e)) line other t kept
  where
    Radix : Type 0
    Radix = ℕ × List ℕ

    ten_of : List ℕ → Radix
    ten_of x = (10, x)

    line : (cs : List ℕ) → lf_text (z ∷ 13 ∷ 10 ∷ cs) ≡ z ∷ 10 ∷ lf_text cs → radix_at (z ∷ 10 ∷ lf_text cs)
        ≡ lf_radix (radix_at (z ∷ 13 ∷ 10 ∷ cs))
    line cs e = ap (λ b. cond {A = Radix} b (10, lf_text cs) (10, z ∷ 10 ∷ lf_text cs)) (and-false (z == 48))
        ∙ ap ten_of (sym e)
        ∙ sym (ap (λ b. lf_radix (cond {A = Radix} b (10, 10 ∷ cs) (10, z ∷ 13 ∷ 10 ∷ cs))) (and-false (z == 48)))

    other : (c : ℕ) (cs : List ℕ) → lf_text (c ∷ cs) ≡ c ∷ lf_text cs → lf_text (z ∷ c ∷ cs) ≡ z ∷ c ∷ lf_text cs
        → radix_at (z ∷ c ∷ lf_text cs) ≡ lf_radix (radix_at (z ∷ c ∷ cs))
    other c cs k e = both lf_radix (z == 48 && not (radix_of c == 10)) (radix_of c, cs) (10, z ∷ c ∷ cs)
        (radix_of c, lf_text cs) (10, z ∷ c ∷ lf_text cs) refl (ap ten_of (sym e))

abbrev read_by : ℕ × List ℕ → NumberRead
read_by q = cond (q.0 == 10) (whole_read_at (capped (magnitude_at 10 q.1)) (after_digits 10 q.1))
    (based_read_at q.0 q.1)

by_read : (q : ℕ × List ℕ) → q.0 ≤ 36 → read_by (lf_radix q) ≡ lf_number (read_by q)
by_read q h =
    let far : List ℕ = after_digits 10 (lf_text q.1) in
    let m : ℕ = magnitude_at 10 q.1 in
    both lf_number (q.0 == 10) (whole_read_at (capped m) (after_digits 10 q.1)) (based_read_at q.0 q.1)
    (whole_read_at (capped (magnitude_at 10 (lf_text q.1))) far) (based_read_at q.0 (lf_text q.1))
    (ap (λ n. whole_read_at (capped n) far) (magnitude_read 10 ten q.1)
    ∙ ap (whole_read_at (capped m)) (after_read 10 ten q.1) ∙ whole_read (capped m) (after_digits 10 q.1))
    (based_read q.0 h q.1)

-- Reading CR LF as LF doesn't change the parse result of a text that begins with a digit.
pub number_read : (t : List ℕ) → first_passes is_ascii_digit t ≡ true → number_read_at (lf_text t)
    ≡ lf_number (number_read_at t)
unfolding number_read_at
number_read [] d = absurd (both_ways true (sym d) refl)
number_read (z ∷ u) d =
    let e = when_kept z u (other_kept z u (apart is_ascii_digit z 13 d refl)) in
    ap (λ x. read_by (radix_at x)) e ∙ ap read_by (radix_read z u e) ∙ by_read (radix_at (z ∷ u)) (small_radix (z ∷ u))

-- ---- the position where parsing a number stops

pub file_stop : (t rest : List ℕ) (k : FlawKind) → first_passes is_ascii_digit t ≡ true
    → ◌≡◌ {A = NumberRead} (Some k, None, rest) (number_read_at t) → IsStop (lf_text t) k (lf_text rest)
file_stop t rest k d e = stop_of (lf_text t) k (lf_text rest) (first_read is_ascii_digit refl t ∙ d)
    (ap lf_number e ∙ sym (number_read t d))
