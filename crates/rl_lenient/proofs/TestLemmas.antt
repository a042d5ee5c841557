-- Tests of the first character of a text, and of all characters.
use Rattle.rl_syntax.proofs.Common.{◌≡◌, ◌∙◌, ℕ, Bool, true, false, List, [], ◌∷◌, ◌++◌, refl, sym, ap, list_all}
use Rattle.rl_lenient.proofs.Names.{first_passes}
use Rattle.std.proofs.lemmas.Bool.{and_left, and_right}

-- If a text begins with a character that passes a test, so does the text with any other text appended.
pub passes_more : (test : ℕ → Bool) (a b : List ℕ) → first_passes test a ≡ true → first_passes test (a ++ b) ≡ true
passes_more test [] b h = absurd (cc)
passes_more test (c ∷ cs) b h = h

-- A text begins with `front` and the character c, and its first character fails a test. Then the first character of each
-- text that begins with `front` and c fails the test.
pub goes_on : (test : ℕ → Bool) (front rest t : List ℕ) (c : ℕ) (cs e : List ℕ) → t ≡ front ++ rest → rest ≡ c ∷ cs
    → first_passes test t ≡ false → first_passes test (front ++ (c ∷ e)) ≡ false
goes_on test [] rest t c cs e a b k = sym (ap (first_passes test) (a ∙ b)) ∙ k
goes_on test (x ∷ xs) rest t c cs e a b k = sym (ap (first_passes test) a) ∙ k

-- If a text doesn't begin with a character that passes a test, no prefix `front` of the text begins with one.
pub front_passes : (test : ℕ → Bool) (front rest t : List ℕ) → t ≡ front ++ rest → first_passes test t ≡ false
    → first_passes test front ≡ false
front_passes test [] rest t e h = refl
front_passes test (x ∷ xs) rest t e h = sym (ap (first_passes test) e) ∙ h

-- If a list contains an element that fails a test, not all elements pass the test.
pub all_breaks : (f : ℕ → Bool) (xs : List ℕ) (c : ℕ) (e : List ℕ) → f c ≡ false → list_all f (xs ++ (c ∷ e)) ≡ false
all_breaks f [] c e h = and_left (f c) (list_all f e) h
all_breaks f (x ∷ xs) c e h = and_right (f x) (list_all f (xs ++ (c ∷ e))) (all_breaks f xs c e h)
