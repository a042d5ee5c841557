-- The code's parser of numbers, as a function on lists of characters: after each part of a number, parsing continues with
-- the next part.
use Rattle.rl_strict.proofs.Names.{◌≡◌, ◌≢◌, ℕ, ◌⊎◌, ◌||◌, ◌&&◌, Bool, true, false, not, ◌==◌, cond, List, [], ◌∷◌, ◌++◌, Option, Some, None, refl, sym, ap, ◌∙◌, inl, inr, append_assoc, and_parts, both_ways, eqb-true, or_from, or_parts, is_ascii_digit, list_all, list_any, after_run, first_passes, is_run_part, is_underscore, Base, Binary, Octal, Decimal, Hexadecimal, radix, prefix, is_exponent_letter, is_some, is_continue, is_start, is_power_sign, IsDigits, IsNumberSuffix, all_same, any_same, apart, digit_is_ten, after_digits, after_power_sign, capped, digit_run_at, has_digit_at, has_value, magnitude_at, radix_at, radix_of, is_some_text, run_first, run_all, run_past, is_number_suffix, is_strict_suffix, BadSuffix, BasedFloat, InvalidDigit, NoDigits, NoExponentDigit, NoFractionDigit, is_float_mark, suffix_rest, Ending, NumberRead, as_float, as_integer, based_read_at, digits_end_at, ended, fraction_end_at, number_read_at, power_end_at, stopped, suffix_end_at, whole_read_at}
use Rattle.rl_strict.proofs.StrictWordLemmas.{number_suffix_complete}

-- ---- the results of parsing a number

-- The result of parsing a number, without the number's magnitude.
abbrev pub end_of : NumberRead → Ending
end_of r = (r.0, r.2)

-- Parsing reached the end of the text without a flaw.
abbrev pub is_read : Ending → Bool
is_read e = not (is_some e.0)

abbrev pub Passes : (List ℕ → Ending) → List ℕ → Type 0
Passes read t = is_read (read t) ≡ true

abbrev pub Fails : (List ℕ → Ending) → List ℕ → Type 0
Fails read t = is_read (read t) ≡ false

abbrev pub number_end_at : List ℕ → Ending
number_end_at t = end_of (number_read_at t)

abbrev pub whole_end_at : List ℕ → Ending
whole_end_at y = end_of (whole_read_at None y)

float_end : (e : Ending) → end_of (as_float e) ≡ e
float_end (None, x) = refl
float_end (Some k, x) = refl

int_end : (m : Option ℕ) (e : Ending) → end_of (as_integer m e) ≡ e
int_end m (None, x) = refl
int_end m (Some k, x) = refl

-- ---- tests of the first character

pub both_fail : (f g : ℕ → Bool) (z : List ℕ) → first_passes f z ≡ false → first_passes g z ≡ false
    → first_passes (λ c. f c || g c) z ≡ false
both_fail f g [] h k = refl
both_fail f g (c ∷ cs) h k = or_from (f c) (g c) h k

pub each_fails : (f g : ℕ → Bool) (z : List ℕ) → first_passes (λ c. f c || g c) z ≡ false → (first_passes f z ≡ false)
    × (first_passes g z ≡ false)
each_fails f g [] h = (refl, refl)
each_fails f g (c ∷ cs) h = or_parts (f c) (g c) h

-- ---- sequences of digits

abbrev pub in_row : ℕ → Bool
in_row = is_run_part (has_value 10)

same_row : (d : List ℕ) → list_all (is_run_part is_ascii_digit) d ≡ list_all in_row d
same_row = all_same (is_run_part is_ascii_digit) in_row (λ c. ap (λ b. b || (c == 95)) (digit_is_ten c))

-- If each character is an ASCII digit or an underscore, each character has a value in base ten or is an underscore.
pub row_part : (d : List ℕ) → list_all (is_run_part is_ascii_digit) d ≡ true → list_all in_row d ≡ true
row_part d h = sym (same_row d) ∙ h

-- If each character has a value in base ten or is an underscore, each character is an ASCII digit or an underscore.
pub part_row : (d : List ℕ) → list_all in_row d ≡ true → list_all (is_run_part is_ascii_digit) d ≡ true
part_row d h = same_row d ∙ h

pub some_value : (d : List ℕ) → list_any is_ascii_digit d ≡ list_any (has_value 10) d
some_value d = any_same is_ascii_digit (has_value 10) digit_is_ten d

-- If a text begins with a digit, the digits and underscores at its beginning are decimal digits by the definition
-- `IsDigits`.
pub front_digits : (t : List ℕ) → first_passes is_ascii_digit t ≡ true → IsDigits (digit_run_at 10 t)
front_digits t h = (run_first t h, part_row (digit_run_at 10 t) (run_all in_row t))

-- ---- a suffix

pub all_run : (test : ℕ → Bool) (cs : List ℕ) → list_all test cs ≡ not (is_some_text (after_run test cs))
all_run test [] = refl
all_run test (c ∷ cs) = go (all_run test cs) (test c)
  where
    go : list_all test cs ≡ not (is_some_text (after_run test cs)) → (b : Bool) → (b && list_all test cs)
        ≡ not (is_some_text (cond b (after_run test cs) (c ∷ cs)))
    go ih true = ih
    go ih false = refl

pub suffix_whole : (t : List ℕ) → first_passes is_underscore t ≡ false → is_number_suffix t
    ≡ not (is_some_text (suffix_rest t))
unfolding is_strict_suffix suffix_rest
suffix_whole [] u = refl
suffix_whole (c ∷ cs) u = ap (λ b. not b && (cond b (is_some_text cs) (is_start c) && list_all is_continue cs)) u
    ∙ go (is_start c)
  where
    go : (b : Bool) → (b && list_all is_continue cs) ≡ not (is_some_text (cond b (after_run is_continue cs) (c ∷ cs)))
    go true = all_run is_continue cs
    go false = refl

-- For a text that doesn't begin with an underscore, the parser of suffixes finds no flaw exactly if the text passes the test
-- of number suffixes.
pub suffix_reads : (t : List ℕ) → first_passes is_underscore t ≡ false → is_read (suffix_end_at t) ≡ is_number_suffix t
unfolding suffix_end_at
suffix_reads t u = go (is_some_text (suffix_rest t)) ∙ sym (suffix_whole t u)
  where
    go : (b : Bool) → is_read (cond b (stopped BadSuffix (suffix_rest t)) (ended t)) ≡ not b
    go true = refl
    go false = refl

pub suffix_is_read : (x : List ℕ) → IsNumberSuffix x → Passes suffix_end_at x
suffix_is_read x s = suffix_reads x s.1 ∙ number_suffix_complete x s

-- ---- an exponent

abbrev pub is_sign : ℕ → Bool
is_sign c = is_power_sign (c ∷ [])

abbrev pub IsSign : List ℕ → Type 0
IsSign sign = (sign ≡ []) ⊎ ((sign ≡ 43 ∷ []) ⊎ (sign ≡ 45 ∷ []))

-- `t` is an optional sign followed by `rest`. Without a sign, `rest` doesn't begin with a sign.
pub record SignCut (t rest : List ℕ) : Type 0 where
  pub sign : List ℕ
  pub is_sign_of : IsSign sign
  pub text_is : t ≡ sign ++ rest
  pub bare : sign ≡ [] → first_passes is_sign rest ≡ false

pub sign_cut : (t : List ℕ) → SignCut t (after_power_sign t)
sign_cut [] = record { sign = []; is_sign_of = inl refl; text_is = refl; bare = λ e. refl }
sign_cut (c ∷ cs) = go (c == 43) refl (c == 45) refl
  where
    go : (p : Bool) → (c == 43) ≡ p → (m : Bool) → (c == 45) ≡ m → SignCut (c ∷ cs) (cond (p || m) cs (c ∷ cs))
    go true a m b = record { sign = 43 ∷ []; is_sign_of = inr (inl refl); text_is = ap (λ z. z ∷ cs) (eqb-true c 43 a); bare = λ e. absurd (cc) }
    go false a true b = record { sign = 45 ∷ []; is_sign_of = inr (inr refl); text_is = ap (λ z. z ∷ cs) (eqb-true c 45 b); bare = λ e. absurd (cc) }
    go false a false b = record { sign = []; is_sign_of = inl refl; text_is = refl; bare = λ e. or_from (c == 43) (c == 45) a b }

-- After the letter of an exponent, `after_power_sign` skips the sign, if there is one.
sign_past : (sign z : List ℕ) → IsSign sign → (sign ≡ [] → first_passes is_sign z ≡ false)
    → after_power_sign (sign ++ z) ≡ z
sign_past sign z (inl e) n = ap (λ s. after_power_sign (s ++ z)) e ∙ bare z (n e)
  where
    bare : (z : List ℕ) → first_passes is_sign z ≡ false → after_power_sign z ≡ z
    bare [] h = refl
    bare (c ∷ cs) h = ap (λ b. cond b cs (c ∷ cs)) h
sign_past sign z (inr (inl e)) n = ap (λ s. after_power_sign (s ++ z)) e
sign_past sign z (inr (inr e)) n = ap (λ s. after_power_sign (s ++ z)) e

-- If digits and underscores include a digit, they don't begin with a sign.
pub row_bare : (run x : List ℕ) → list_all in_row run ≡ true → list_any (has_value 10) run ≡ true
    → first_passes is_sign (run ++ x) ≡ false
row_bare [] x each some = absurd (cc)
row_bare (c ∷ cs) x each some =
    let p = and_parts (in_row c) (list_all in_row cs) each in
    or_from (c == 43) (c == 45) (apart in_row c 43 p.0 refl) (apart in_row c 45 p.0 refl)

-- The result of parsing the text after the digits of an exponent. The first argument tells whether the exponent has a digit.
abbrev pub power_tail : Bool → List ℕ → Ending
power_tail some y = cond some (suffix_end_at y) (stopped NoExponentDigit y)

pub power_is : (sign run x : List ℕ) (some : Bool) → IsSign sign → (sign ≡ [] → first_passes is_sign (run ++ x) ≡ false)
    → list_all in_row run ≡ true → list_any (has_value 10) run ≡ some → first_passes in_row x ≡ false → power_end_at
    (sign ++ (run ++ x)) ≡ power_tail some x
unfolding power_end_at
power_is sign run x some s bare each is stops =
    let p = run_past in_row run x each stops in
    ap (λ z. power_tail (has_digit_at 10 z) (after_digits 10 z)) (sign_past sign (run ++ x) s bare)
    ∙ ap (λ z. power_tail (list_any (has_value 10) z) (after_digits 10 (run ++ x))) p.0
    ∙ ap (power_tail (list_any (has_value 10) run)) p.1
    ∙ ap (λ b. power_tail b x) is

-- ---- the text after digits, after a dot, and after a whole part

pub digits_power : (c : ℕ) (z : List ℕ) → is_exponent_letter c ≡ true → digits_end_at (c ∷ z) ≡ power_end_at z
unfolding digits_end_at
digits_power c z l = ap (λ b. cond b (power_end_at z) (suffix_end_at (c ∷ z))) l

pub digits_plain : (x : List ℕ) → first_passes is_exponent_letter x ≡ false → digits_end_at x ≡ suffix_end_at x
unfolding digits_end_at
digits_plain [] h = refl
digits_plain (c ∷ cs) h = ap (λ b. cond b (power_end_at cs) (suffix_end_at (c ∷ cs))) h

pub fraction_is : (f x : List ℕ) → IsDigits f → first_passes in_row x ≡ false
    → fraction_end_at (f ++ x) ≡ digits_end_at x
unfolding fraction_end_at
fraction_is [] x d stops = absurd (both_ways false refl d.0)
fraction_is (c ∷ cs) x d stops =
    let z : List ℕ = c ∷ (cs ++ x) in
    ap (λ b. cond b (digits_end_at (after_digits 10 z)) (stopped NoFractionDigit z)) d.0
    ∙ ap digits_end_at (run_past in_row (c ∷ cs) x (row_part (c ∷ cs) d.1) stops).1

pub fraction_none : (c : ℕ) (e : List ℕ) → is_ascii_digit c ≡ false
    → fraction_end_at (c ∷ e) ≡ stopped NoFractionDigit (c ∷ e)
unfolding fraction_end_at
fraction_none c e h = ap (λ b. cond b (digits_end_at (after_digits 10 (c ∷ e))) (stopped NoFractionDigit (c ∷ e))) h

pub whole_dot : (z : List ℕ) → whole_end_at (46 ∷ z) ≡ fraction_end_at z
unfolding whole_read_at
whole_dot z = float_end (fraction_end_at z)

pub whole_digits : (x : List ℕ) → first_passes (λ c. c == 46) x ≡ false → whole_end_at x ≡ digits_end_at x
unfolding whole_read_at digits_end_at
whole_digits [] h = int_end None (suffix_end_at [])
whole_digits (c ∷ cs) h =
    ap (λ b. end_of (cond b (as_float (fraction_end_at cs)) (cond (is_exponent_letter c) (as_float (power_end_at cs))
    (as_integer None (suffix_end_at (c ∷ cs)))))) h ∙ go (is_exponent_letter c)
  where
    go : (e : Bool) → end_of (cond e (as_float (power_end_at cs)) (as_integer None (suffix_end_at (c ∷ cs))))
        ≡ cond e (power_end_at cs) (suffix_end_at (c ∷ cs))
    go true = float_end (power_end_at cs)
    go false = int_end None (suffix_end_at (c ∷ cs))

-- If neither a dot nor the letter of an exponent follows a number's whole part, parsing continues with the suffix.
pub whole_plain : (x : List ℕ) → first_passes is_float_mark x ≡ false → whole_end_at x ≡ suffix_end_at x
whole_plain x h =
    let p = each_fails (λ c. c == 46) is_exponent_letter x h in
    whole_digits x p.0 ∙ digits_plain x p.1

-- After a number's whole part, the position where parsing stops doesn't depend on the number's magnitude.
whole_end : (m : Option ℕ) (y : List ℕ) → end_of (whole_read_at m y) ≡ whole_end_at y
unfolding whole_read_at
whole_end m [] = int_end m (suffix_end_at []) ∙ sym (int_end None (suffix_end_at []))
whole_end m (c ∷ cs) = go (c == 46) (is_exponent_letter c)
  where
    go : (b e : Bool) → end_of (cond b (as_float (fraction_end_at cs)) (cond e (as_float (power_end_at cs))
        (as_integer m (suffix_end_at (c ∷ cs))))) ≡ end_of (cond b (as_float (fraction_end_at cs))
        (cond e (as_float (power_end_at cs)) (as_integer None (suffix_end_at (c ∷ cs)))))
    go true e = refl
    go false true = refl
    go false false = int_end m (suffix_end_at (c ∷ cs)) ∙ sym (int_end None (suffix_end_at (c ∷ cs)))

-- ---- a number

-- In a decimal number, parsing skips the digits of the whole part, and continues with the text after them.
pub decimal_is : (t w x : List ℕ) → radix_at t ≡ (10, t) → t ≡ w ++ x → IsDigits w → first_passes in_row x ≡ false
    → number_end_at t ≡ whole_end_at x
unfolding number_read_at
decimal_is t w x at text d stops =
    ap (λ (q : ℕ × List ℕ). end_of (cond (q.0 == 10)
    (whole_read_at (capped (magnitude_at 10 q.1)) (after_digits 10 q.1)) (based_read_at q.0 q.1))) at
    ∙ whole_end (capped (magnitude_at 10 t)) (after_digits 10 t)
    ∙ ap whole_end_at (ap (after_digits 10) text ∙ (run_past in_row w x (row_part w d.1) stops).1)

-- ---- the text after the whole part of a decimal number

-- Whether the whole part is `0` and the character is the letter of a base prefix, as the `x` of `0x`.
abbrev pub names : List ℕ → ℕ → Bool
names [] c = false
names (a ∷ []) c = a == 48 && not (radix_of c == 10)
names (a ∷ b ∷ ws) c = false

not_named : (b : Bool) (r : ℕ) (cs u : List ℕ) → (cond {A = ℕ × List ℕ} (b && not (r == 10)) (r, cs) (10, u)).0 ≡ 10
    → (b && not (r == 10)) ≡ false
not_named false r cs u h = refl
not_named true r cs u h = go (r == 10) refl h
  where
    go : (d : Bool) → (r == 10) ≡ d → (cond {A = ℕ × List ℕ} (not d) (r, cs) (10, u)).0 ≡ 10 → not d ≡ false
    go true e k = refl
    go false e k = let same : false ≡ true = sym e ∙ ap (λ z. z == 10) k in absurd (cc)

-- The whole part of a decimal number and the character after it aren't a base prefix such as `0x`.
pub names_none : (w z : List ℕ) → (radix_at (w ++ z)).0 ≡ 10 → first_passes (names w) z ≡ false
unfolding radix_at
names_none w [] h = refl
names_none [] (c ∷ cs) h = refl
names_none (a ∷ []) (c ∷ cs) h = not_named (a == 48) (radix_of c) cs (a ∷ c ∷ cs) h
names_none (a ∷ b ∷ ws) (c ∷ cs) h = refl

-- A number stays decimal if another text follows its whole part. The whole part and the first character of this text must
-- not be a base prefix such as `0x`.
ten_stays : (w z x : List ℕ) → first_passes is_ascii_digit w ≡ true → (radix_at (w ++ z)).0 ≡ 10
    → first_passes (names w) x ≡ false → radix_at (w ++ x) ≡ (10, w ++ x)
unfolding radix_at
ten_stays [] z x d h k = absurd (cc)
ten_stays (a ∷ []) z [] d h k = refl
ten_stays (a ∷ []) z (c ∷ cs) d h k = ap (λ b. cond {A = ℕ × List ℕ} b (radix_of c, cs) (10, a ∷ c ∷ cs)) k
ten_stays (a ∷ b ∷ ws) z x d h k = ap (λ t. cond {A = ℕ × List ℕ} t (radix_of b, ws ++ x) (10, a ∷ b ∷ (ws ++ x)))
    (not_named (a == 48) (radix_of b) (ws ++ z) (a ∷ b ∷ (ws ++ z)) h)

-- Whether the character continues a decimal whole part, or makes the whole part before it a base prefix, as the `x` of `0x`.
abbrev pub ten_first : List ℕ → ℕ → Bool
ten_first w c = in_row c || names w c

pub ten_is : (w y x : List ℕ) → IsDigits w → (radix_at (w ++ y)).0 ≡ 10 → first_passes (ten_first w) x ≡ false
    → number_end_at (w ++ x) ≡ whole_end_at x
ten_is w y x d ten ok =
    let p = each_fails in_row (names w) x ok in
    decimal_is (w ++ x) w x (ten_stays w y x d.0 ten p.1) refl d p.0

-- ---- numbers with a base prefix

abbrev pub of_base : Base → ℕ → Bool
of_base b = has_value (radix b)

abbrev pub in_base : Base → ℕ → Bool
in_base b = is_run_part (of_base b)

-- The result of parsing a number with a base prefix from the end of its digits on. `digit` tells whether a decimal digit
-- follows, `none` whether there are no digits, and `mark` whether a dot or the letter of an exponent follows.
abbrev pub row_tail : Bool → Bool → Bool → List ℕ → Ending
row_tail digit none mark y = cond digit (stopped InvalidDigit y)
    (cond none (stopped NoDigits y) (cond mark (stopped BasedFloat y) (suffix_end_at y)))

abbrev pub row_end : Base → List ℕ → List ℕ → Ending
row_end b run y = row_tail (first_passes is_ascii_digit y) (not (list_any (of_base b) run))
    (first_passes is_float_mark y) y

based_end : (b : Base) (t : List ℕ) → end_of (based_read_at (radix b) t)
    ≡ row_end b (digit_run_at (radix b) t) (after_digits (radix b) t)
unfolding based_read_at
based_end b t = go (first_passes is_ascii_digit y) (not (has_digit_at (radix b) t)) (first_passes is_float_mark y)
  where
    y : List ℕ
    y = after_digits (radix b) t

    m : Option ℕ
    m = capped (magnitude_at (radix b) t)

    go : (digit none mark : Bool) → end_of (cond digit (as_float (stopped InvalidDigit y))
        (cond none (as_float (stopped NoDigits y)) (cond mark (as_float (stopped BasedFloat y))
        (as_integer m (suffix_end_at y))))) ≡ row_tail digit none mark y
    go true none mark = refl
    go false true mark = refl
    go false false true = refl
    go false false false = int_end m (suffix_end_at y)

-- If a number begins with a base prefix, the text after the prefix is parsed in this base.
number_based : (b : Base) (x : List ℕ) → b ≢ Decimal → number_end_at (prefix b ++ x)
    ≡ end_of (based_read_at (radix b) x)
unfolding number_read_at radix_at
number_based Binary x n = refl
number_based Octal x n = refl
number_based Hexadecimal x n = refl
number_based Decimal x n = absurd (n refl)

-- After a base prefix and a sequence of digits, parsing continues with the text after the digits.
pub based_is : (b : Base) (run x : List ℕ) → b ≢ Decimal → list_all (in_base b) run ≡ true
    → first_passes (in_base b) x ≡ false → number_end_at ((prefix b ++ run) ++ x) ≡ row_end b run x
based_is b run x n each stops =
    let p = run_past (in_base b) run x each stops in
    ap number_end_at (append_assoc (prefix b) run x) ∙ number_based b (run ++ x) n ∙ based_end b (run ++ x)
    ∙ ap (λ z. row_end b z (after_digits (radix b) (run ++ x))) p.0 ∙ ap (row_end b run) p.1

-- After the digits of a base, parsing continues with the suffix, unless there is no digit, or a decimal digit, a dot or the
-- letter of an exponent follows.
pub row_plain : (b : Base) (run x : List ℕ) → list_any (of_base b) run ≡ true → first_passes is_ascii_digit x ≡ false
    → first_passes is_float_mark x ≡ false → row_end b run x ≡ suffix_end_at x
row_plain b run x some digit mark =
    ap (λ z. row_tail z (not (list_any (of_base b) run)) (first_passes is_float_mark x) x) digit
    ∙ ap (λ z. row_tail false (not z) (first_passes is_float_mark x) x) some
    ∙ ap (λ z. row_tail false false z x) mark
