-- Leading characters of a text that pass a test (`run`), the text after them (`after_run`), and the suffixes of numbers.
use Rattle.rl_syntax.proofs.Common.{◌≡◌, ℕ, Bool, true, false, not, ◌&&◌, ◌==◌, cond, List, [], ◌∷◌, ◌++◌, refl, ap, ◌∙◌, inl, inr, and_parts, and_from, not-true, not_from_false, list_all}
use Rattle.rl_lenient.proofs.Names.{first_passes, xid_ok, IsSuffix, is_blank, after_run}
use Rattle.rl_lenient.specs.Mirrors.NumberAt.{run, is_suffix}
use Rattle.rl_lenient.specs.Mirrors.UnitAt.{after_blanks}
use Rattle.rl_lenient.proofs.DigitRowLemmas.{run_yes, run_no}

-- Each character that `run` returns passes the test.
pub run_all : (test : ℕ → Bool) (t : List ℕ) → list_all test (run test t) ≡ true
unfolding run
run_all test [] = refl
run_all test (c ∷ cs) = go (run_all test cs) (test c) refl
  where
    go : list_all test (run test cs) ≡ true → (b : Bool) → test c ≡ b → list_all test (cond b (c ∷ run test cs) [])
        ≡ true
    go ih true h = ap (λ b. b && list_all test (run test cs)) h ∙ ih
    go ih false h = refl

-- The text that `after_run` returns doesn't begin with a character that passes the test.
pub run_ends : (test : ℕ → Bool) (t : List ℕ) → first_passes test (after_run test t) ≡ false
run_ends test [] = refl
run_ends test (c ∷ cs) = go (run_ends test cs) (test c) refl
  where
    go : first_passes test (after_run test cs) ≡ false → (b : Bool) → test c ≡ b
        → first_passes test (cond b (after_run test cs) (c ∷ cs)) ≡ false
    go ih true h = ih
    go ih false h = h

-- A text is the leading characters that `run` returns, and the text that `after_run` returns.
pub run_join : (test : ℕ → Bool) (t : List ℕ) → t ≡ run test t ++ after_run test t
unfolding run
run_join test [] = refl
run_join test (c ∷ cs) = go (run_join test cs) (test c)
  where
    go : cs ≡ run test cs ++ after_run test cs → (b : Bool) → c ∷ cs ≡ cond b (c ∷ run test cs) []
        ++ cond b (after_run test cs) (c ∷ cs)
    go ih true = ap (λ z. c ∷ z) ih
    go ih false = refl

-- All characters of `row` pass a test, and x doesn't begin with a character that passes the test. Then the leading passing
-- characters of `row ++ x` are `row`, and x follows them.
pub run_past : (test : ℕ → Bool) (row x : List ℕ) → list_all test row ≡ true → first_passes test x ≡ false
    → (run test (row ++ x) ≡ row) × (after_run test (row ++ x) ≡ x)
unfolding run
run_past test [] [] h k = (refl, refl)
run_past test [] (c ∷ cs) h k = run_no test c cs k
run_past test (d ∷ row) x h k =
    let b = and_parts (test d) (list_all test row) h in
    let y = run_yes test d (row ++ x) b.0 in
    let ih = run_past test row x b.1 k in
    (y.0 ∙ ap (λ z. d ∷ z) ih.0, y.1 ∙ ih.1)

-- A suffix of a number passes the test `is_suffix`.
pub suffix_complete : (x : List ℕ) → IsSuffix x → is_suffix x ≡ true
suffix_complete [] (h, k) = refl
suffix_complete (c ∷ cs) (inl e, k) = absurd (cc)
suffix_complete (c ∷ cs) (inr h, k) = and_from (not (c == 95)) (xid_ok (c ∷ cs)) (not_from_false (c == 95) k) h

-- A text that passes the test `is_suffix` is a suffix of a number.
pub suffix_sound : (x : List ℕ) → is_suffix x ≡ true → IsSuffix x
suffix_sound [] h = (inl refl, refl)
suffix_sound (c ∷ cs) h =
    let b = and_parts (not (c == 95)) (xid_ok (c ∷ cs)) h in
    (inr b.1, not-true (c == 95) b.0)

-- `after_run is_blank` and `after_blanks` return the same text: the text after leading white space.
pub run_is_blanks : (t : List ℕ) → after_run is_blank t ≡ after_blanks t
unfolding after_blanks
run_is_blanks [] = refl
run_is_blanks (c ∷ cs) = ap (λ z. cond (is_blank c) z (c ∷ cs)) (run_is_blanks cs)
