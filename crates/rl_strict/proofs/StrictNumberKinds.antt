-- Where the definition of a kind of flaw in a number holds, the parser of numbers stops with this kind. So the definitions
-- of two kinds never hold at one position.
use Rattle.rl_strict.proofs.Names.{◌≡◌, ◌≢◌, ℕ, Bool, true, false, not, ◌==◌, cond, List, [], ◌∷◌, ◌++◌, refl, sym, ap, ◌∙◌, inl, inr, append_assoc, and_parts, both_ways, and_from, or_cases, or_from, or_right, eqb-true, is_ascii_digit, list_all, list_any, and_right, false_from_ne_true, first_passes, is_underscore, Base, Binary, Decimal, is_exponent_letter, is_power_sign, IsDigits, apart, letter_no_part, has_value, radix_at, radix_of, letter_no_dot, FlawKind, NoExponentDigit, NoDigits, InvalidDigit, BasedFloat, NoFractionDigit, EndsInPower, IsBasedRun, IsDigitFlaw, IsStrictFraction, is_float_mark, power_end_at, stopped}
use Rattle.rl_strict.proofs.NumberEnds.{IsSign, based_is, decimal_is, digits_power, each_fails, fraction_is, fraction_none, in_base, in_row, is_sign, names, number_end_at, of_base, power_is, row_part, row_tail, whole_digits, whole_dot, whole_end_at}

-- ---- numbers with a base prefix

-- The result of parsing a number with a base prefix depends on three tests: `digit` tells whether a decimal digit follows
-- the number's digits, `none` whether there are no digits, and `mark` whether a dot or the letter of an exponent follows.
row_is : (b : Base) (run front rest : List ℕ) (digit none mark : Bool) → IsBasedRun b run front → first_passes (in_base
    b) rest ≡ false → first_passes is_ascii_digit rest ≡ digit → not (list_any (of_base b) run) ≡ none → first_passes
    is_float_mark rest ≡ mark → number_end_at (front ++ rest) ≡ row_tail digit none mark rest
row_is b run front rest digit none mark r stops d n m =
    ap number_end_at (ap (λ z. z ++ rest) r.front_is) ∙ based_is b run rest r.not_decimal r.each stops
    ∙ ap (λ z. row_tail z (not (list_any (of_base b) run)) (first_passes is_float_mark rest) rest) d
    ∙ ap (λ z. row_tail digit z (first_passes is_float_mark rest) rest) n
    ∙ ap (λ z. row_tail digit none z rest) m

-- Underscores aren't digits.
no_digits : (b : Base) (run : List ℕ) → list_all is_underscore run ≡ true → list_any (of_base b) run ≡ false
no_digits b [] h = refl
no_digits b (c ∷ cs) h =
    let p = and_parts (is_underscore c) (list_all is_underscore cs) h in
    or_from (of_base b c) (list_any (of_base b) cs)
    (ap (of_base b) (eqb-true c 95 p.0) ∙ mark b) (no_digits b cs p.1)
  where
    mark : (b : Base) → of_base b 95 ≡ false
    mark Binary = refl
    mark other = refl

-- If a test fails for the underscore, a text whose first character passes the test doesn't begin with an underscore.
no_underscore : (test : ℕ → Bool) (rest : List ℕ) → test 95 ≡ false → first_passes test rest ≡ true
    → first_passes is_underscore rest ≡ false
no_underscore test [] n h = refl
no_underscore test (c ∷ cs) n h = apart test c 95 h n

row_ends : (b : Base) (rest : List ℕ) → first_passes (of_base b) rest ≡ false → first_passes is_underscore rest ≡ false
    → first_passes (in_base b) rest ≡ false
row_ends b [] h u = refl
row_ends b (c ∷ cs) h u = or_from (of_base b c) (is_underscore c) h u

mark_no_digit : (rest : List ℕ) → first_passes is_float_mark rest ≡ true → first_passes is_ascii_digit rest ≡ false
mark_no_digit [] h = refl
mark_no_digit (c ∷ cs) h = false_from_ne_true (is_ascii_digit c) (λ d.
    let dot : (c == 46) ≡ false = apart is_ascii_digit c 46 d refl in
    let low : (c == 101) ≡ false = apart is_ascii_digit c 101 d refl in
    let high : (c == 69) ≡ false = apart is_ascii_digit c 69 d refl in
    both_ways (is_float_mark c) (or_from (c == 46) (is_exponent_letter c) dot
    (or_from (c == 101) (c == 69) low high)) h)

-- ---- decimal numbers

-- A dot or an exponent's letter is neither a decimal digit nor an underscore.
never_row : (c : ℕ) → is_float_mark c ≡ true → in_row c ≡ false
never_row c h = elim (or_cases (c == 46) (is_exponent_letter c) h) [
  | inl a ↦ ap in_row (eqb-true c 46 a)
  | inr a ↦ letter_no_part c a
]

mark_names : (w : List ℕ) (c : ℕ) → is_float_mark c ≡ true → names w c ≡ false
mark_names [] c h = refl
mark_names (a ∷ b ∷ ws) c h = refl
mark_names (a ∷ []) c h = and_right (a == 48) (not (radix_of c == 10))
    (elim (or_cases (c == 46) (is_exponent_letter c) h) [
      | inl e ↦ ap (λ z. not (radix_of z == 10)) (eqb-true c 46 e)
      | inr e ↦ elim (or_cases (c == 101) (c == 69) e) [
        | inl g ↦ ap (λ z. not (radix_of z == 10)) (eqb-true c 101 g)
        | inr g ↦ ap (λ z. not (radix_of z == 10)) (eqb-true c 69 g)
      ]
    ])

row_no_base : (w : List ℕ) (c : ℕ) (cs : List ℕ) → IsDigits w → is_float_mark c ≡ true → radix_at (w ++ (c ∷ cs))
    ≡ (10, w ++ (c ∷ cs))
unfolding radix_at
row_no_base [] c cs d mark = absurd (both_ways false refl d.0)
row_no_base (a ∷ []) c cs d mark = ap (λ b. cond {A = ℕ × List ℕ} b (radix_of c, cs) (10, a ∷ c ∷ cs))
    (mark_names (a ∷ []) c mark)
row_no_base (a ∷ b ∷ ws) c cs d mark = ap (λ t. cond {A = ℕ × List ℕ} t (radix_of b, ws ++ (c ∷ cs))
    (10, a ∷ b ∷ (ws ++ (c ∷ cs)))) (and_right (a == 48) (not (radix_of b == 10)) (in_row_names b
    (and_parts (in_row b) (list_all in_row ws) (and_parts (in_row a) (list_all in_row (b ∷ ws)) (row_part (a ∷ b ∷ ws)
    d.1)).1).0))
  where
    in_row_names : (b : ℕ) → in_row b ≡ true → not (radix_of b == 10) ≡ false
    in_row_names b h =
        let low : (b == 98) ≡ false = apart in_row b 98 h refl in
        let middle : (b == 111) ≡ false = apart in_row b 111 h refl in
        let high : (b == 120) ≡ false = apart in_row b 120 h refl in
        rw (low, middle, high) refl

-- If a dot or an exponent's letter follows a decimal whole part, parsing continues with this dot or letter.
whole_is : (w : List ℕ) (c : ℕ) (cs : List ℕ) → IsDigits w → is_float_mark c ≡ true → number_end_at (w ++ (c ∷ cs))
    ≡ whole_end_at (c ∷ cs)
whole_is w c cs d mark = decimal_is (w ++ (c ∷ cs)) w (c ∷ cs) (row_no_base w c cs d mark) refl d (never_row c mark)

sign_of : (sign : List ℕ) → is_power_sign sign ≡ true → IsSign sign
sign_of [] h = inl refl
sign_of (c ∷ []) h = elim (or_cases (c == 43) (c == 45) h) [
  | inl a ↦ inr (inl (ap (λ z. z ∷ []) (eqb-true c 43 a)))
  | inr a ↦ inr (inr (ap (λ z. z ∷ []) (eqb-true c 45 a)))
]
sign_of (c ∷ d ∷ cs) h = absurd (cc)

-- Underscores with a text after them don't begin with a sign. If there are no underscores, the text itself must not begin
-- with a sign.
marks_no_sign : (us rest : List ℕ) → list_all is_underscore us ≡ true → (us ≡ [] → first_passes is_sign rest ≡ false)
    → first_passes is_sign (us ++ rest) ≡ false
marks_no_sign [] rest h n = n refl
marks_no_sign (c ∷ cs) rest h n =
    let p = and_parts (is_underscore c) (list_all is_underscore cs) h in
    ap is_sign (eqb-true c 95 p.0)

marks_row : (us : List ℕ) → list_all is_underscore us ≡ true → list_all in_row us ≡ true
marks_row [] h = refl
marks_row (c ∷ cs) h =
    let p = and_parts (is_underscore c) (list_all is_underscore cs) h in
    and_from (in_row c) (list_all in_row cs)
    (or_right (has_value 10 c) (is_underscore c) p.0) (marks_row cs p.1)

-- ---- each kind of flaw

power_kind : (front rest : List ℕ) → (p : EndsInPower front) → first_passes in_row rest ≡ false
    → (p.sign ++ p.underscores ≡ [] → first_passes is_sign rest ≡ false)
    → number_end_at (front ++ rest) ≡ stopped NoExponentDigit rest
power_kind front rest p stops bare = go p.fraction p.is_fraction p.front_is
  where
    tail : List ℕ
    tail = p.sign ++ (p.underscores ++ rest)

    mark : is_float_mark p.letter ≡ true
    mark = or_right (p.letter == 46) (is_exponent_letter p.letter) p.is_letter

    joined : (z : List ℕ) → front ≡ z ++ (p.letter ∷ (p.sign ++ p.underscores)) → front ++ rest ≡ z ++ (p.letter ∷ tail)
    joined z e = ap (λ y. y ++ rest) e ∙ append_assoc z (p.letter ∷ (p.sign ++ p.underscores)) rest
        ∙ ap (λ y. z ++ (p.letter ∷ y)) (append_assoc p.sign p.underscores rest)

    last : power_end_at tail ≡ stopped NoExponentDigit rest
    last = power_is p.sign p.underscores rest false (sign_of p.sign p.is_sign)
        (λ e. marks_no_sign p.underscores rest p.all_underscores (λ n. bare (ap (λ z. z ++ p.underscores) e ∙ n)))
        (marks_row p.underscores p.all_underscores) (no_digits Decimal p.underscores p.all_underscores) stops

    go : (fraction : List ℕ) → IsStrictFraction fraction → front ≡ p.whole ++ (fraction ++ (p.letter ∷ (p.sign ++
        p.underscores))) → number_end_at (front ++ rest) ≡ stopped NoExponentDigit rest
    go fraction (inl none) e =
        let text = joined p.whole (e ∙ ap (λ z. p.whole ++ (z ++ (p.letter ∷ (p.sign ++ p.underscores)))) none) in
        ap number_end_at text ∙ whole_is p.whole p.letter tail p.is_whole mark
        ∙ whole_digits (p.letter ∷ tail) (letter_no_dot p.letter p.is_letter)
        ∙ digits_power p.letter tail p.is_letter ∙ last
    go fraction (inr (digits, d, is)) e =
        let text : front ++ rest ≡ p.whole ++ (46 ∷ (digits ++ (p.letter ∷ tail))) = joined (p.whole ++ (46 ∷ digits))
        (e ∙ ap (λ z. p.whole ++ (z ++ (p.letter ∷ (p.sign ++ p.underscores)))) is
        ∙ sym (append_assoc p.whole (46 ∷ digits) (p.letter ∷ (p.sign ++ p.underscores))))
        ∙ append_assoc p.whole (46 ∷ digits) (p.letter ∷ tail) in
        ap number_end_at text ∙ whole_is p.whole 46 (digits ++ (p.letter ∷ tail)) p.is_whole refl
        ∙ whole_dot (digits ++ (p.letter ∷ tail))
        ∙ fraction_is digits (p.letter ∷ tail) d (letter_no_part p.letter p.is_letter)
        ∙ digits_power p.letter tail p.is_letter ∙ last

fraction_kind : (front rest whole : List ℕ) → IsDigits whole → front ≡ whole ++ (46 ∷ []) → rest ≢ []
    → first_passes is_ascii_digit rest ≡ false → number_end_at (front ++ rest) ≡ stopped NoFractionDigit rest
fraction_kind front [] whole d e some n = absurd (some refl)
fraction_kind front (c ∷ cs) whole d e some n =
    ap number_end_at (ap (λ z. z ++ (c ∷ cs)) e ∙ append_assoc whole (46 ∷ []) (c ∷ cs))
    ∙ whole_is whole 46 (c ∷ cs) d refl ∙ whole_dot (c ∷ cs) ∙ fraction_none c cs n

-- Where the definition of a kind of flaw in a number's digits holds, the parser of numbers stops with this kind.
pub digit_kind : (k : FlawKind) (front rest : List ℕ) → IsDigitFlaw k front rest
    → number_end_at (front ++ rest) ≡ stopped k rest
digit_kind NoDigits front rest (b, run, r, marks, none) =
    let p = each_fails is_ascii_digit (in_base b) rest none in
    row_is b run front rest false true (first_passes is_float_mark rest) r p.1 p.0 (ap not (no_digits b run marks)) refl
digit_kind InvalidDigit front rest (b, run, r, digit, other) =
    row_is b run front rest true (not (list_any (of_base b) run)) (first_passes is_float_mark rest) r
    (row_ends b rest other (no_underscore is_ascii_digit rest refl digit)) digit refl refl
digit_kind BasedFloat front rest (b, run, r, some, mark, other) =
    row_is b run front rest false false true r (row_ends b rest other (no_underscore is_float_mark rest refl mark))
    (mark_no_digit rest mark) (ap not some) mark
digit_kind NoFractionDigit front rest (whole, d, e, some, n) = fraction_kind front rest whole d e some n
digit_kind NoExponentDigit front rest (p, stops, bare) = power_kind front rest p stops bare
digit_kind k front rest h = absurd h
