-- Digits that underscores divide into groups, and the underscores at the end of a sequence.
use Rattle.rl_syntax.proofs.Common.{◌≡◌, ℕ, ◌||◌, ◌&&◌, Bool, true, false, not, ◌==◌, cond, List, [], ◌∷◌, ◌++◌, length, refl, sym, ap, ◌∙◌, append-nil, and_from, and_parts, eqb-true, is_ascii_digit, list_all, list_any, list_all-append}
use Rattle.std.proofs.lemmas.List.Elements.{filter-append}
use Rattle.rl_syntax.proofs.Basics.{apart}
use Rattle.rl_syntax.specs.Texts.{first_passes, is_run_part, is_underscore}
use Rattle.rl_lexer.proofs.LexemeRows.{not_among}
use Rattle.rl_syntax.specs.Spelling.{without_underscores}
use Rattle.rl_syntax.specs.Strict.{IsDigits}
use Rattle.rl_style.specs.Cases.{trimmed}
use Rattle.rl_style.specs.Groups.{ending, spaced}
use Rattle.rl_style.proofs.Trimmed.{IsTrim, any_left, passing_chars, none_of, none_trim, only, trim_tail, trimmed_join}

pub not_false : (b : Bool) → not b ≡ true → b ≡ false
not_false true h = absurd (cc)
not_false false h = refl

abbrev pub other : ℕ → Bool
other c = not (c == 95)

abbrev pub mark : Bool → List ℕ
mark b = cond b (95 ∷ []) []

-- If all characters of a sequence pass a test that a plus fails, the sequence contains no plus.
pub plus_free : (test : ℕ → Bool) (cs : List ℕ) → test 43 ≡ false → list_all test cs ≡ true
    → list_all (λ c. not (c == 43)) cs ≡ true
plus_free test [] n h = refl
plus_free test (c ∷ cs) n h =
    let p = and_parts (test c) (list_all test cs) h in
    and_from (not (c == 43)) (list_all (λ c. not (c == 43)) cs) (ap not (apart test c 43 p.0 n))
    (plus_free test cs n p.1)

-- ---- the digits of a sequence, without its underscores

pub bare_other : (cs : List ℕ) → list_all other (without_underscores cs) ≡ true
bare_other [] = refl
bare_other (c ∷ cs) = go (other c) refl (bare_other cs)
  where
    go : (b : Bool) → other c ≡ b → list_all other (without_underscores cs) ≡ true
        → list_all other (cond b (c ∷ without_underscores cs) (without_underscores cs)) ≡ true
    go true h more = and_from (other c) (list_all other (without_underscores cs)) h more
    go false h more = more

pub bare_all : (test : ℕ → Bool) (cs : List ℕ) → list_all test cs ≡ true → list_all test (without_underscores cs) ≡ true
bare_all test [] h = refl
bare_all test (c ∷ cs) h =
    let p = and_parts (test c) (list_all test cs) h in
    go (other c) p.0 (bare_all test cs p.1)
  where
    go : (b : Bool) → test c ≡ true → list_all test (without_underscores cs) ≡ true
        → list_all test (cond b (c ∷ without_underscores cs) (without_underscores cs)) ≡ true
    go true k more = and_from (test c) (list_all test (without_underscores cs)) k more
    go false k more = more

under_fails : (test : ℕ → Bool) (c : ℕ) → test 95 ≡ false → other c ≡ false → test c ≡ false
under_fails test c n h = ap test (eq h) ∙ n
  where
    eq : other c ≡ false → c ≡ 95
    eq e = is_under c (off (c == 95) e)
      where
        off : (b : Bool) → not b ≡ false → b ≡ true
        off true k = refl
        off false k = absurd (cc)

        is_under : (c : ℕ) → (c == 95) ≡ true → c ≡ 95
        is_under c k = eqb-true c 95 k

pub bare_kept : (test : ℕ → Bool) (cs : List ℕ) → test 95 ≡ false → passing_chars test (without_underscores cs) ≡ passing_chars test
    cs
bare_kept test [] n = refl
bare_kept test (c ∷ cs) n = go (other c) refl (bare_kept test cs n)
  where
    go : (b : Bool) → other c ≡ b → passing_chars test (without_underscores cs) ≡ passing_chars test cs
        → passing_chars test (cond b (c ∷ without_underscores cs) (without_underscores cs)) ≡ passing_chars test (c ∷ cs)
    go true h more = ap (λ z. cond (test c) (c ∷ z) z) more
    go false h more = more ∙ ap (λ b. cond b (c ∷ passing_chars test cs) (passing_chars test cs)) (sym (under_fails test c n h))

bare_any : (test : ℕ → Bool) (cs : List ℕ) → test 95 ≡ false → list_any test (without_underscores cs) ≡ list_any test
    cs
bare_any test [] n = refl
bare_any test (c ∷ cs) n = go (other c) refl (bare_any test cs n)
  where
    go : (b : Bool) → other c ≡ b → list_any test (without_underscores cs) ≡ list_any test cs
        → list_any test (cond b (c ∷ without_underscores cs) (without_underscores cs)) ≡ list_any test (c ∷ cs)
    go true h more = ap (λ b. test c || b) more
    go false h more = more ∙ ap (λ b. b || list_any test cs) (sym (under_fails test c n h))

-- ---- digits with underscores between them

spaced_all : (p test : ℕ → Bool) (ds : List ℕ) → p 95 ≡ true → list_all p ds ≡ true → list_all p (spaced test ds)
    ≡ true
spaced_all p test [] m h = refl
spaced_all p test (d ∷ ds) m h =
    let q = and_parts (p d) (list_all p ds) h in
    and_from (p d) _ q.0 (go (test (length ds)) (spaced_all p test ds m q.1))
  where
    go : (b : Bool) → list_all p (spaced test ds) ≡ true → list_all p (mark b ++ spaced test ds) ≡ true
    go true k = and_from (p 95) (list_all p (spaced test ds)) m k
    go false k = k

spaced_kept : (p test : ℕ → Bool) (ds : List ℕ) → p 95 ≡ false → passing_chars p (spaced test ds) ≡ passing_chars p ds
spaced_kept p test [] n = refl
spaced_kept p test (d ∷ ds) n = ap (λ z. cond (p d) (d ∷ z) z) (go (test (length ds)) ∙ spaced_kept p test ds n)
  where
    go : (b : Bool) → passing_chars p (mark b ++ spaced test ds) ≡ passing_chars p (spaced test ds)
    go true = ap (λ b. cond b (95 ∷ passing_chars p (spaced test ds)) (passing_chars p (spaced test ds))) n
    go false = refl

spaced_any : (p test : ℕ → Bool) (ds : List ℕ) → p 95 ≡ false → list_any p (spaced test ds) ≡ list_any p ds
spaced_any p test [] n = refl
spaced_any p test (d ∷ ds) n = ap (λ b. p d || b) (go (test (length ds)) ∙ spaced_any p test ds n)
  where
    go : (b : Bool) → list_any p (mark b ++ spaced test ds) ≡ list_any p (spaced test ds)
    go true = ap (λ b. b || list_any p (spaced test ds)) n
    go false = refl

spaced_trim : (test : ℕ → Bool) (ds : List ℕ) → test 0 ≡ false → list_all other ds ≡ true → IsTrim (spaced test ds)
spaced_trim test [] z h = refl
spaced_trim test (d ∷ []) z h =
    let p = and_parts (other d) true h in
    ap (λ b. trimmed (d ∷ (mark b ++ []))) z ∙ ap (λ b. cond (b && true) [] (d ∷ [])) (not_false (d == 95) p.0)
    ∙ ap (λ b. d ∷ (mark b ++ [])) (sym z)
spaced_trim test (d ∷ e ∷ ds) z h =
    let p = and_parts (other d) (list_all other (e ∷ ds)) h in
    let q = and_parts (other e) (list_all other ds) p.1 in
    let rest : List ℕ = spaced test (e ∷ ds) in
    let some : only rest ≡ false = ap (λ b. b && only (mark (test (length ds)) ++ spaced test ds))
    (not_false (e == 95) q.0) in
    trimmed_join (d ∷ mark (test (length (e ∷ ds)))) rest some
    ∙ ap (λ y. (d ∷ mark (test (length (e ∷ ds)))) ++ y) (spaced_trim test (e ∷ ds) z p.1)

-- ---- the underscores at the end of a sequence

pub ending_only : (cs : List ℕ) → only (ending cs) ≡ true
ending_only [] = refl
ending_only (c ∷ cs) = go (only (c ∷ cs)) refl (ending_only cs)
  where
    go : (b : Bool) → only (c ∷ cs) ≡ b → only (ending cs) ≡ true → only (cond b (c ∷ cs) (ending cs)) ≡ true
    go true h more = h
    go false h more = more

ending_all : (test : ℕ → Bool) (cs : List ℕ) → list_all test cs ≡ true → list_all test (ending cs) ≡ true
ending_all test [] h = refl
ending_all test (c ∷ cs) h = go (only (c ∷ cs)) (ending_all test cs (and_parts (test c) (list_all test cs) h).1)
  where
    go : (b : Bool) → list_all test (ending cs) ≡ true → list_all test (cond b (c ∷ cs) (ending cs)) ≡ true
    go true more = h
    go false more = more

pub ending_none : (cs : List ℕ) → IsTrim cs → ending cs ≡ []
ending_none [] h = refl
ending_none (c ∷ cs) h = ap (λ b. cond b (c ∷ cs) (ending cs)) (none_trim c cs h) ∙ ending_none cs (trim_tail c cs h)

ending_join : (a u : List ℕ) → IsTrim a → only u ≡ true → ending (a ++ u) ≡ u
ending_join [] [] h k = refl
ending_join [] (c ∷ u) h k = ap (λ b. cond b (c ∷ u) (ending u)) k
ending_join (c ∷ a) u h k =
    let some : only ((c ∷ a) ++ u) ≡ false = list_all-append is_underscore (c ∷ a) u
    ∙ ap (λ b. b && only u) (none_trim c a h) in
    ap (λ b. cond b (c ∷ (a ++ u)) (ending (a ++ u))) some ∙ ending_join a u (trim_tail c a h) k

-- A sequence without underscores has none at its end.
pub clear_ending : (cs : List ℕ) → list_all other cs ≡ true → ending cs ≡ []
clear_ending [] h = refl
clear_ending (c ∷ cs) h =
    let p = and_parts (other c) (list_all other cs) h in
    ap (λ b. cond (b && only cs) (c ∷ cs) (ending cs)) (not_false (c == 95) p.0) ∙ clear_ending cs p.1

pub only_ending : (cs : List ℕ) → only cs ≡ true → ending cs ≡ cs
only_ending [] h = refl
only_ending (c ∷ cs) h = ap (λ b. cond b (c ∷ cs) (ending cs)) h

-- ---- digits in groups, and the underscores at the end of the sequence

abbrev pub row_spaced : (ℕ → Bool) → List ℕ → List ℕ
row_spaced test run = spaced test (without_underscores run) ++ ending run

pub row_all : (p test : ℕ → Bool) (run : List ℕ) → p 95 ≡ true → list_all p run ≡ true
    → list_all p (row_spaced test run) ≡ true
row_all p test run m h =
    list_all-append p (spaced test (without_underscores run)) (ending run)
    ∙ and_from _ _ (spaced_all p test (without_underscores run) m (bare_all p run h)) (ending_all p run h)

pub row_kept : (p test : ℕ → Bool) (run : List ℕ) → p 95 ≡ false → passing_chars p (row_spaced test run) ≡ passing_chars p run
row_kept p test run n =
    filter-append p (spaced test (without_underscores run)) (ending run)
    ∙ ap (λ z. passing_chars p (spaced test (without_underscores run)) ++ z) (none_of p (ending run) n (ending_only run))
    ∙ append-nil (passing_chars p (spaced test (without_underscores run)))
    ∙ spaced_kept p test (without_underscores run) n ∙ bare_kept p run n

pub row_some : (p test : ℕ → Bool) (run : List ℕ) → p 95 ≡ false → list_any p run ≡ true
    → list_any p (row_spaced test run) ≡ true
row_some p test run n h = any_left p (spaced test (without_underscores run)) (ending run)
    (spaced_any p test (without_underscores run) n ∙ bare_any p run n ∙ h)

-- If a sequence of digits doesn't begin with an underscore, the division into groups doesn't change its first character.
pub row_first : (test : ℕ → Bool) (c : ℕ) (cs : List ℕ) → (c == 95) ≡ false
    → row_spaced test (c ∷ cs)
    ≡ c ∷ ((mark (test (length (without_underscores cs))) ++ spaced test (without_underscores cs)) ++ ending cs)
row_first test c cs h =
    ap (λ b. spaced test (cond (not b) (c ∷ without_underscores cs) (without_underscores cs)) ++ ending (c ∷ cs)) h
    ∙ ap (λ b. (c ∷ (mark (test (length (without_underscores cs))) ++ spaced test (without_underscores cs)))
    ++ cond (b && only cs) (c ∷ cs) (ending cs)) h

pub row_digits : (test : ℕ → Bool) (run : List ℕ) → IsDigits run → IsDigits (row_spaced test run)
row_digits test [] h = absurd (let e : false ≡ true = h.0 in cc)
row_digits test (c ∷ cs) h = (
  ap (first_passes is_ascii_digit) (row_first test c cs (not_among c 95 is_ascii_digit h.0 refl)) ∙ h.0,
  row_all (is_run_part is_ascii_digit) test (c ∷ cs) refl h.1,
)

pub row_ending : (test : ℕ → Bool) (run : List ℕ) → test 0 ≡ false → ending (row_spaced test run) ≡ ending run
row_ending test run z = ending_join (spaced test (without_underscores run)) (ending run)
    (spaced_trim test (without_underscores run) z (bare_other run)) (ending_only run)

pub row_trim : (test : ℕ → Bool) (run : List ℕ) → test 0 ≡ false → IsTrim run → IsTrim (row_spaced test run)
row_trim test run z h =
    let none : ending run ≡ [] = ending_none run h in
    let ds : List ℕ = spaced test (without_underscores run) in
    let is : row_spaced test run ≡ ds = ap (λ y. ds ++ y) none ∙ append-nil ds in
    ap trimmed is
    ∙ spaced_trim test (without_underscores run) z (bare_other run) ∙ sym is
