-- The new characters of numbers, according to the style's rules.
use Rattle.rl_syntax.proofs.Common.{◌≡◌, ℕ, ◌⊎◌, ◌||◌, ◌&&◌, Bool, true, false, not, ◌==◌, cond, nat_lt, List, [], ◌∷◌, ◌++◌, length, Some, None, refl, sym, ap, ap₂, subst, ◌∙◌, inl, inr, arith, and_from, and_parts, cases_Bool, eqb-true, or_parts, digit_value, is_ascii_digit, list_all, list_any, flat_map, ⊤}
use Rattle.std.specs.Prelude.{Option}
use Rattle.rl_syntax.specs.Texts.{first_passes, is_run_part}
use Rattle.rl_syntax.proofs.Basics.{apart}
use Rattle.rl_lenient.proofs.Names.{flat_map-append}
use Rattle.rl_syntax.specs.Spelling.{place_value, without_underscores}
use Rattle.rl_syntax.specs.Strict.{IsDecimalText, IsDigits}
use Rattle.rl_lexer.specs.Lexemes.{is_base_letter}
use Rattle.rl_style.specs.declared.style.Case.{Case}
use Rattle.rl_style.specs.declared.style.Case.TheVariants.{Lower, Upper}
use Rattle.rl_style.specs.Cases.{cased, exponent_letter}
use Rattle.rl_style.proofs.CaseLemmas.{cased_underscore, cased_value, none_right, twice_cased}

-- The new characters for a character of a number. The three flags tell whether underscores are dropped, whether the number is
-- hexadecimal, and whether a plus is dropped. The next arguments are the case of the digits and the case of an exponent's
-- letter.
abbrev pub becomes : Bool → Bool → Bool → Option Case → Option Case → ℕ → List ℕ
becomes drops hex plus digits letter c =
    cond ((drops && c == 95) || ((not hex && plus) && c == 43)) []
    (cond hex (cased digits c) (exponent_letter letter c) ∷ [])

-- ---- the new characters of hexadecimal numbers

hex_dropped : (b plus : Bool) (digits letter : Option Case) (c : ℕ) → b ≡ true
    → cond (b || ((not true && plus) && c == 43)) [] (cond true (cased digits c) (exponent_letter letter c) ∷ []) ≡ []
hex_dropped true plus digits letter c h = refl
hex_dropped false plus digits letter c h = absurd (cc)

hex_kept : (b plus : Bool) (digits letter : Option Case) (c : ℕ) → b ≡ false
    → cond (b || ((not true && plus) && c == 43)) [] (cond true (cased digits c) (exponent_letter letter c) ∷ [])
    ≡ cased digits c ∷ []
hex_kept true plus digits letter c h = absurd (cc)
hex_kept false plus digits letter c h = refl

-- ---- the new characters of numbers of other bases

letter_stays : (letter : Option Case) (c : ℕ) → (c == 69) ≡ false → (c == 101) ≡ false → exponent_letter letter c ≡ c
letter_stays None c a b = refl
letter_stays (Some Lower) c a b = ap (λ z. cond z 101 c) a
letter_stays (Some Upper) c a b = ap (λ z. cond z 69 c) b

other_kept : (b plus : Bool) (digits letter : Option Case) (c : ℕ) → b ≡ false → (c == 43) ≡ false → (c == 69) ≡ false
    → (c == 101) ≡ false
    → cond (b || ((not false && plus) && c == 43)) [] (cond false (cased digits c) (exponent_letter letter c) ∷ [])
    ≡ c ∷ []
other_kept true plus digits letter c h p l u = absurd (cc)
other_kept false plus digits letter c h p l u =
    ap (λ z. cond (plus && z) [] (exponent_letter letter c ∷ [])) p
    ∙ ap (λ z. cond z [] (exponent_letter letter c ∷ [])) (none_right plus)
    ∙ ap (λ z. z ∷ []) (letter_stays letter c l u)

other_dropped : (b plus : Bool) (digits letter : Option Case) (c : ℕ) → b ≡ true
    → cond (b || ((not false && plus) && c == 43)) [] (cond false (cased digits c) (exponent_letter letter c) ∷ []) ≡ []
other_dropped true plus digits letter c h = refl
other_dropped false plus digits letter c h = absurd (cc)

-- In a number that isn't hexadecimal, each character other than an underscore, a plus, `e` and `E` is unchanged.
pub stays : (drops plus : Bool) (digits letter : Option Case) (c : ℕ) → (c == 95) ≡ false → (c == 43) ≡ false
    → (c == 69) ≡ false → (c == 101) ≡ false → becomes drops false plus digits letter c ≡ c ∷ []
stays drops plus digits letter c n p l u = other_kept (drops && c == 95) plus digits letter c
    (ap (λ z. drops && z) n ∙ none_right drops) p l u

-- ---- the new characters of a sequence of digits

-- The function `f` replaces the character `c` by a character with an equal value, or `c` is an underscore that `f` drops.
abbrev pub Keeps : (ℕ → List ℕ) → ℕ → Type 0
Keeps f c =
    ((f c ≡ []) × ((c == 95) ≡ true))
    ⊎ ((d : ℕ) × (f c ≡ d ∷ []) × (digit_value d ≡ digit_value c) × ((d == 95) ≡ (c == 95)))

abbrev pub RowKeeps : (ℕ → List ℕ) → List ℕ → Type 0
RowKeeps f [] = ⊤
RowKeeps f (c ∷ cs) = Keeps f c × RowKeeps f cs

pub hex_keeps : (drops plus : Bool) (digits letter : Option Case) (run : List ℕ)
    → RowKeeps (becomes drops true plus digits letter) run
hex_keeps drops plus digits letter [] = tt
hex_keeps drops plus digits letter (c ∷ cs) = (
  one (cases_Bool (drops && c == 95)),
  hex_keeps drops plus digits letter
      cs,
)
  where
    one : ((drops && c == 95) ≡ true) ⊎ ((drops && c == 95) ≡ false) → Keeps (becomes drops true plus digits letter) c
    one (inl h) = inl (hex_dropped (drops && c == 95) plus digits letter c h, (and_parts drops (c == 95) h).1)
    one (inr h) = inr (
      cased digits c,
      hex_kept (drops && c == 95) plus digits letter c h,
      cased_value digits c,
      cased_underscore digits c,
    )

-- The function `f` doesn't change the character `c`, or `c` is an underscore that `f` drops.
abbrev pub Stays : (ℕ → List ℕ) → ℕ → Type 0
Stays f c = ((f c ≡ []) × ((c == 95) ≡ true)) ⊎ (f c ≡ c ∷ [])

abbrev pub RowStays : (ℕ → List ℕ) → List ℕ → Type 0
RowStays f [] = ⊤
RowStays f (c ∷ cs) = Stays f c × RowStays f cs

pub row_stays : (test : ℕ → Bool) (drops plus : Bool) (digits letter : Option Case) (run : List ℕ) → test 43 ≡ false
    → test 69 ≡ false → test 101 ≡ false → list_all test run ≡ true
    → RowStays (becomes drops false plus digits letter) run
row_stays test drops plus digits letter [] p l u h = tt
row_stays test drops plus digits letter (c ∷ cs) p l u h =
    let q = and_parts (test c) (list_all test cs) h in
    (one q.0 (cases_Bool (drops && c == 95)), row_stays test drops plus digits letter cs p l u q.1)
  where
    one : test c ≡ true → ((drops && c == 95) ≡ true) ⊎ ((drops && c == 95) ≡ false)
        → Stays (becomes drops false plus digits letter) c
    one t (inl h) = inl (other_dropped (drops && c == 95) plus digits letter c h, (and_parts drops (c == 95) h).1)
    one t (inr h) = inr (other_kept (drops && c == 95) plus digits letter c h (apart test c 43 t p)
        (apart test c 69 t l)
        (apart test c 101 t u))

pub keeps_of : (f : ℕ → List ℕ) (run : List ℕ) → RowStays f run → RowKeeps f run
keeps_of f [] h = tt
keeps_of f (c ∷ cs) h = (one h.0, keeps_of f cs h.1)
  where
    one : Stays f c → Keeps f c
    one (inl a) = inl a
    one (inr a) = inr (c, a, refl, refl)

-- ---- properties of a sequence that rewriting doesn't change

abbrev pub of_base : ℕ → ℕ → Bool
of_base base c = nat_lt (digit_value c) base

pub each_kept : (f : ℕ → List ℕ) (base : ℕ) (run : List ℕ) → RowKeeps f run
    → list_all (is_run_part (of_base base)) run ≡ true → list_all (is_run_part (of_base base)) (flat_map f run) ≡ true
each_kept f base [] k h = refl
each_kept f base (c ∷ cs) k h =
    let p = and_parts (is_run_part (of_base base) c) (list_all (is_run_part (of_base base)) cs) h in
    let more = each_kept f base cs k.1 p.1 in
    elim k.0 [
      | inl a ↦ ap (λ z. list_all (is_run_part (of_base base)) (z ++ flat_map f cs)) a.0 ∙ more
      | inr a ↦ ap (λ z. list_all (is_run_part (of_base base)) (z ++ flat_map f cs)) a.1
          ∙ and_from (is_run_part (of_base base) a.0) (list_all (is_run_part (of_base base)) (flat_map f cs))
          (ap₂ (λ v b. nat_lt v base || b) a.2 a.3 ∙ p.0) more
    ]

pub some_kept : (f : ℕ → List ℕ) (base : ℕ) (run : List ℕ) → RowKeeps f run → of_base base 95 ≡ false
    → list_any (of_base base) (flat_map f run) ≡ list_any (of_base base) run
some_kept f base [] k n = refl
some_kept f base (c ∷ cs) k n =
    let more = some_kept f base cs k.1 n in
    elim k.0 [
      | inl a ↦ ap (λ z. list_any (of_base base) (z ++ flat_map f cs)) a.0 ∙ more
          ∙ ap (λ b. b || list_any (of_base base) cs) (sym (ap (of_base base) (eqb-true c 95 a.1) ∙ n))
      | inr a ↦ ap (λ z. list_any (of_base base) (z ++ flat_map f cs)) a.1
          ∙ ap₂ (λ v b. nat_lt v base || b) a.2 more
    ]

-- Two sequences of digits have equally many digits, and the digits at each position have equal values.
abbrev Alike : List ℕ → List ℕ → Type 0
Alike [] [] = ⊤
Alike (x ∷ xs) (y ∷ ys) = (digit_value x ≡ digit_value y) × Alike xs ys
Alike _ _ = ⊥

alike_value : (base : ℕ) (xs ys : List ℕ) → Alike xs ys → (length xs ≡ length ys)
    × (place_value base xs ≡ place_value base ys)
alike_value base [] [] h = (refl, refl)
alike_value base [] (y ∷ ys) h = absurd h
alike_value base (x ∷ xs) [] h = absurd h
alike_value base (x ∷ xs) (y ∷ ys) h =
    let more = alike_value base xs ys h.1 in
    let count = more.0 in
    (omega (arith, count), rw (h.0, more.0, more.1) refl)

bare_alike : (f : ℕ → List ℕ) (run : List ℕ) → RowKeeps f run → Alike (without_underscores (flat_map f run))
    (without_underscores run)
bare_alike f [] k = tt
bare_alike f (c ∷ cs) k =
    let more = bare_alike f cs k.1 in
    let Rest : List ℕ → List ℕ → Type 0 = λ x y. Alike (without_underscores (x ++ flat_map f cs)) y in
    elim k.0 [
      | inl a ↦ subst (λ z. Alike (without_underscores (z ++ flat_map f cs)) (without_underscores (c ∷ cs))) (sym a.0)
          (subst (λ b. Alike (without_underscores (flat_map f cs)) (cond (not b) (c ∷ without_underscores cs)
          (without_underscores cs))) (sym a.1) more)
      | inr a ↦ subst (λ z. Alike (without_underscores (z ++ flat_map f cs)) (without_underscores (c ∷ cs))) (sym a.1)
          (subst (λ b. Alike (cond (not b) (a.0 ∷ without_underscores (flat_map f cs))
          (without_underscores (flat_map f cs)))
          (cond (not (c == 95)) (c ∷ without_underscores cs) (without_underscores cs))) (sym a.3)
          (go (c == 95) a.0 a.2 more))
    ]
  where
    go : (b : Bool) (d : ℕ) → digit_value d ≡ digit_value c
        → Alike (without_underscores (flat_map f cs)) (without_underscores cs)
        → Alike (cond (not b) (d ∷ without_underscores (flat_map f cs)) (without_underscores (flat_map f cs)))
        (cond (not b) (c ∷ without_underscores cs) (without_underscores cs))
    go true d e m = m
    go false d e m = (e, m)

pub number_kept : (f : ℕ → List ℕ) (base : ℕ) (run : List ℕ) → RowKeeps f run
    → place_value base (without_underscores (flat_map f run)) ≡ place_value base (without_underscores run)
number_kept f base run k = (alike_value base _ _ (bare_alike f run k)).1

-- ---- the new characters of decimal digits

pub digits_each : (f : ℕ → List ℕ) (run : List ℕ) → RowStays f run → list_all (is_run_part is_ascii_digit) run ≡ true
    → list_all (is_run_part is_ascii_digit) (flat_map f run) ≡ true
digits_each f [] k h = refl
digits_each f (c ∷ cs) k h =
    let p = and_parts (is_run_part is_ascii_digit c) (list_all (is_run_part is_ascii_digit) cs) h in
    let more = digits_each f cs k.1 p.1 in
    elim k.0 [
      | inl a ↦ ap (λ z. list_all (is_run_part is_ascii_digit) (z ++ flat_map f cs)) a.0 ∙ more
      | inr a ↦ ap (λ z. list_all (is_run_part is_ascii_digit) (z ++ flat_map f cs)) a
          ∙ and_from (is_run_part is_ascii_digit c) (list_all (is_run_part is_ascii_digit) (flat_map f cs)) p.0 more
    ]

pub some_stays : (test : ℕ → Bool) (f : ℕ → List ℕ) (run : List ℕ) → test 95 ≡ false → RowStays f run
    → list_any test (flat_map f run) ≡ list_any test run
some_stays test f [] n k = refl
some_stays test f (c ∷ cs) n k =
    let more = some_stays test f cs n k.1 in
    elim k.0 [
      | inl a ↦ ap (λ z. list_any test (z ++ flat_map f cs)) a.0 ∙ more
          ∙ ap (λ b. b || list_any test cs) (sym (ap test (eqb-true c 95 a.1) ∙ n))
      | inr a ↦ ap (λ z. list_any test (z ++ flat_map f cs)) a ∙ ap (λ b. test c || b) more
    ]

pub digits_some : (f : ℕ → List ℕ) (run : List ℕ) → RowStays f run
    → list_any is_ascii_digit (flat_map f run) ≡ list_any is_ascii_digit run
digits_some f run k = some_stays is_ascii_digit f run refl k

pub digits_stay : (f : ℕ → List ℕ) (d : List ℕ) → RowStays f d → IsDigits d → IsDigits (flat_map f d)
digits_stay f [] k h = absurd (let e : false ≡ true = h.0 in cc)
digits_stay f (c ∷ cs) k h = (first k.0, digits_each f (c ∷ cs) k h.1)
  where
    first : Stays f c → first_passes is_ascii_digit (f c ++ flat_map f cs) ≡ true
    first (inl a) = absurd (let e : false ≡ true = sym (ap is_ascii_digit (eqb-true c 95 a.1)) ∙ h.0 in cc)
    first (inr a) = ap (λ z. first_passes is_ascii_digit (z ++ flat_map f cs)) a ∙ h.0

-- If no underscore is dropped, rewriting a sequence of decimal digits changes no character.
pub row_kept : (test : ℕ → Bool) (plus : Bool) (digits letter : Option Case) (run : List ℕ) → test 43 ≡ false
    → test 69 ≡ false → test 101 ≡ false → list_all test run ≡ true
    → flat_map (becomes false false plus digits letter) run ≡ run
row_kept test plus digits letter [] p l u h = refl
row_kept test plus digits letter (c ∷ cs) p l u h =
    let q = and_parts (test c) (list_all test cs) h in
    ap (λ z. z ++ flat_map (becomes false false plus digits letter) cs) (other_kept false plus digits letter c refl
    (apart test c 43 q.0 p) (apart test c 69 q.0 l) (apart test c 101 q.0 u))
    ∙ ap (λ z. c ∷ z) (row_kept test plus digits letter cs p l u q.1)

-- ---- a rewritten decimal number doesn't begin with a base prefix

second_off : (a b : Bool) → b ≡ false → (a && (b && true)) ≡ false
second_off a b h = ap (λ z. a && (z && true)) h ∙ none_right a

second_tells : (c d : ℕ) (ds : List ℕ) → (d == 98) ≡ false → (d == 111) ≡ false → (d == 120) ≡ false
    → IsDecimalText (c ∷ d ∷ ds)
second_tells c d ds a b e =
    ap (λ z. z || (c == 48 && (d == 111 && true)) || (c == 48 && (d == 120 && true))) (second_off (c == 48) (d == 98) a)
    ∙ ap (λ z. z || (c == 48 && (d == 120 && true))) (second_off (c == 48) (d == 111) b)
    ∙ second_off (c == 48) (d == 120) e

alone : (c : ℕ) → IsDecimalText (c ∷ [])
alone c =
    ap (λ z. z || (c == 48 && false) || (c == 48 && false)) (none_right (c == 48))
    ∙ ap (λ z. z || (c == 48 && false)) (none_right (c == 48)) ∙ none_right (c == 48)

-- If decimal digits are followed by a text that doesn't begin with the letter of a base, the whole text doesn't begin with the
-- prefix of a base.
pub decimal_by : (d z : List ℕ) → IsDigits d → first_passes is_base_letter z ≡ false → IsDecimalText (d ++ z)
decimal_by [] z h n = absurd (let e : false ≡ true = h.0 in cc)
decimal_by (c ∷ []) [] h n = alone c
decimal_by (c ∷ []) (e ∷ es) h n =
    let p = or_parts (e == 120 || e == 111) (e == 98) n in
    let q = or_parts (e == 120) (e == 111) p.0 in
    second_tells c e es p.1 q.1 q.0
decimal_by (c ∷ b ∷ ds) z h n =
    let test : ℕ → Bool = is_run_part is_ascii_digit in
    let p = and_parts (test c) (list_all test (b ∷ ds)) h.1 in
    let q = and_parts (test b) (list_all test ds) p.1 in
    second_tells c b (ds ++ z) (apart test b 98 q.0 refl) (apart test b 111 q.0 refl) (apart test b 120 q.0 refl)

-- ---- if the characters of a number are rewritten again, nothing changes

again_hex : (drops plus : Bool) (digits letter : Option Case) (c : ℕ)
    → flat_map (becomes drops true plus digits letter) (becomes drops true plus digits letter c)
    ≡ becomes drops true plus digits letter c
again_hex drops plus digits letter c = go (cases_Bool (drops && c == 95))
  where
    f : ℕ → List ℕ
    f = becomes drops true plus digits letter

    go : ((drops && c == 95) ≡ true) ⊎ ((drops && c == 95) ≡ false)
        → flat_map (becomes drops true plus digits letter) (becomes drops true plus digits letter c)
        ≡ becomes drops true plus digits letter c
    go (inl h) =
        let e = hex_dropped (drops && c == 95) plus digits letter c h in
        ap (flat_map (becomes drops true plus digits letter)) e ∙ sym e
    go (inr h) =
        let e = hex_kept (drops && c == 95) plus digits letter c h in
        let d : ℕ = cased digits c in
        let same : (drops && d == 95) ≡ false = ap (λ z. drops && z) (cased_underscore digits c) ∙ h in
        ap (flat_map (becomes drops true plus digits letter)) e
        ∙ ap (λ z. z ++ []) (hex_kept (drops && d == 95) plus digits letter d same
        ∙ ap (λ z. z ∷ []) (twice_cased digits c))
        ∙ sym e

-- Used to prove a property of all characters: it suffices to prove it for an underscore, for a plus, for `e`, for `E`, and
-- for each other character.
pub by_character : (P : ℕ → Type 0) (c : ℕ) → P 95 → P 43 → P 69 → P 101
    → ((c == 95) ≡ false → (c == 43) ≡ false → (c == 69) ≡ false → (c == 101) ≡ false → P c) → P c
by_character P c under plus upper lower other =
    elim (cases_Bool (c == 95)) [
      | inl a ↦ subst P (sym (eqb-true c 95 a)) under
      | inr n ↦ elim (cases_Bool (c == 43)) [
        | inl a ↦ subst P (sym (eqb-true c 43 a)) plus
        | inr a ↦ elim (cases_Bool (c == 69)) [
          | inl b ↦ subst P (sym (eqb-true c 69 b)) upper
          | inr b ↦ elim (cases_Bool (c == 101)) [
            | inl d ↦ subst P (sym (eqb-true c 101 d)) lower
            | inr d ↦ other n a b d
          ]
        ]
      ]
    ]

abbrev Again : Bool → Bool → Option Case → Option Case → ℕ → Type 0
Again drops plus digits letter c =
    flat_map (becomes drops false plus digits letter) (becomes drops false plus digits letter c)
    ≡ becomes drops false plus digits letter c

again_under : (drops plus : Bool) (digits letter : Option Case) → Again drops plus digits letter 95
again_under true plus digits letter = refl
again_under false true digits None = refl
again_under false true digits (Some Lower) = refl
again_under false true digits (Some Upper) = refl
again_under false false digits None = refl
again_under false false digits (Some Lower) = refl
again_under false false digits (Some Upper) = refl

again_plus : (drops plus : Bool) (digits letter : Option Case) → Again drops plus digits letter 43
again_plus true true digits letter = refl
again_plus false true digits letter = refl
again_plus true false digits None = refl
again_plus true false digits (Some Lower) = refl
again_plus true false digits (Some Upper) = refl
again_plus false false digits None = refl
again_plus false false digits (Some Lower) = refl
again_plus false false digits (Some Upper) = refl

again_letter : (drops plus : Bool) (digits letter : Option Case) → Again drops plus digits letter 69
    × Again drops plus digits letter 101
again_letter true true digits None = (refl, refl)
again_letter true true digits (Some Lower) = (refl, refl)
again_letter true true digits (Some Upper) = (refl, refl)
again_letter true false digits None = (refl, refl)
again_letter true false digits (Some Lower) = (refl, refl)
again_letter true false digits (Some Upper) = (refl, refl)
again_letter false true digits None = (refl, refl)
again_letter false true digits (Some Lower) = (refl, refl)
again_letter false true digits (Some Upper) = (refl, refl)
again_letter false false digits None = (refl, refl)
again_letter false false digits (Some Lower) = (refl, refl)
again_letter false false digits (Some Upper) = (refl, refl)

again_other : (drops plus : Bool) (digits letter : Option Case) (c : ℕ) → Again drops plus digits letter c
again_other drops plus digits letter c =
    let letters = again_letter drops plus digits letter in
    by_character (Again drops plus digits letter) c (again_under drops plus digits letter)
    (again_plus drops plus digits letter) letters.0 letters.1
    (λ n p u l. let e = stays drops plus digits letter c n p u l in
    ap (flat_map (becomes drops false plus digits letter)) e ∙ ap (λ z. z ++ []) e ∙ sym e)

again : (drops hex plus : Bool) (digits letter : Option Case) (c : ℕ)
    → flat_map (becomes drops hex plus digits letter) (becomes drops hex plus digits letter c)
    ≡ becomes drops hex plus digits letter c
again drops true plus digits letter c = again_hex drops plus digits letter c
again drops false plus digits letter c = again_other drops plus digits letter c

pub twice : (drops hex plus : Bool) (digits letter : Option Case) (cs : List ℕ)
    → flat_map (becomes drops hex plus digits letter) (flat_map (becomes drops hex plus digits letter) cs)
    ≡ flat_map (becomes drops hex plus digits letter) cs
twice drops hex plus digits letter [] = refl
twice drops hex plus digits letter (c ∷ cs) =
    let f : ℕ → List ℕ = becomes drops hex plus digits letter in
    flat_map-append f (f c) (flat_map f cs)
    ∙ ap (λ z. z ++ flat_map f (flat_map f cs)) (again drops hex plus digits letter c)
    ∙ ap (λ z. f c ++ z) (twice drops hex plus digits letter cs)
