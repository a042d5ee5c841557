-- The suffixes of literals in Rust's grammar are the texts that pass the tests `is_strict_suffix` and `is_number_suffix`.
use Rattle.rl_strict.proofs.Names.{◌≡◌, ◌≢◌, ℕ, ◌||◌, ◌&&◌, Bool, true, not, ◌==◌, cond, List, [], ◌∷◌, refl, ap, subst, sym, ◌∙◌, inl, inr, and_from, and_parts, both_ways, cases_Bool, eqb-true, not-true, not_from_false, list_all, is_xid_start, is_xid_continue, is_underscore, first_passes, IsStrictSuffix, IsWord, is_white, is_continue, is_start, IsNumberSuffix, is_number_suffix, is_strict_suffix, is_some_text, all_weaker}
use Rattle.rl_syntax.proofs.WhiteLemmas.{continues, starts}

-- If all characters of a text pass two tests, all of them pass the conjunction of the tests.
pub all_both : (f g : ℕ → Bool) (cs : List ℕ) → list_all f cs ≡ true → list_all g cs ≡ true
    → list_all (λ c. f c && g c) cs ≡ true
all_both f g [] h k = refl
all_both f g (c ∷ cs) h k =
    let p = and_parts (f c) (list_all f cs) h in
    let q = and_parts (g c) (list_all g cs) k in
    and_from (f c && g c) (list_all (λ c. f c && g c) cs) (and_from (f c) (g c) p.0 q.0) (all_both f g cs p.1 q.1)

-- If all characters of a text pass the conjunction of two tests, all of them pass each test.
pub all_apart : (f g : ℕ → Bool) (cs : List ℕ) → list_all (λ c. f c && g c) cs ≡ true → (list_all f cs ≡ true)
    × (list_all g cs ≡ true)
all_apart f g [] h = (refl, refl)
all_apart f g (c ∷ cs) h =
    let p = and_parts (f c && g c) (list_all (λ c. f c && g c) cs) h in
    let q = and_parts (f c) (g c) p.0 in
    let r = all_apart f g cs p.1 in
    (and_from (f c) (list_all f cs) q.0 r.0, and_from (g c) (list_all g cs) q.1 r.1)

-- The first character of an identifier passes the test that `is_strict_suffix` makes of a text's first character.
word_front : (c : ℕ) (cs : List ℕ) → is_start c ≡ true → c ∷ cs ≢ 95 ∷ []
    → cond (c == 95) (is_some_text cs) (is_start c) ≡ true
word_front c cs s n = elim (cases_Bool (c == 95)) [
  | inl a ↦ ap (λ b. cond b (is_some_text cs) (is_start c)) a
      ∙ more cs (λ e. n (ap (λ z. z ∷ cs) (eqb-true c 95 a) ∙ ap (λ z. 95 ∷ z) e))
  | inr a ↦ ap
      (λ b. cond b (is_some_text cs) (is_start c)) a ∙ s
]
  where
    more : (cs : List ℕ) → cs ≢ [] → is_some_text cs ≡ true
    more [] n = absurd (n refl)
    more (d ∷ ds) n = refl

-- A suffix of a quoted literal passes the test `is_strict_suffix`.
pub strict_suffix_complete : (x : List ℕ) → IsStrictSuffix x → is_strict_suffix x ≡ true
unfolding is_strict_suffix
strict_suffix_complete [] h = refl
strict_suffix_complete (c ∷ cs) (inl e) = absurd (cc)
strict_suffix_complete (c ∷ cs) (inr w) =
    let p = and_parts (c == 95 || is_xid_start c) (list_all is_xid_continue cs) w.identifier in
    and_from (cond (c == 95) (is_some_text cs) (is_start c)) (list_all is_continue cs)
    (word_front c cs (starts c p.0) w.not_underscore) (all_weaker is_xid_continue is_continue continues cs p.1)

-- The text without its first character.
abbrev following : List ℕ → List ℕ
following [] = []
following (c ∷ cs) = cs

-- A first character and further characters of an identifier are an identifier, unless they are `_` alone.
word_of : (c : ℕ) (cs : List ℕ) → is_start c ≡ true → list_all is_continue cs ≡ true → c ∷ cs ≢ 95 ∷ []
    → IsWord (c ∷ cs)
word_of c cs s h n =
    let p = and_parts (c == 95 || is_xid_start c) (not (is_white c)) s in
    record {
      identifier = and_from (c == 95 || is_xid_start c) (list_all is_xid_continue cs) p.0
          (all_apart is_xid_continue (λ c. not (is_white c)) cs h).0;
      not_underscore = n;
    }

-- A text that passes the test `is_strict_suffix` is a suffix of a quoted literal.
pub strict_suffix_sound : (x : List ℕ) → is_strict_suffix x ≡ true → IsStrictSuffix x
unfolding is_strict_suffix
strict_suffix_sound [] h = inl refl
strict_suffix_sound (c ∷ cs) h =
    let p = and_parts (cond (c == 95) (is_some_text cs) (is_start c)) (list_all is_continue cs) h in
    elim (cases_Bool (c == 95)) [
      | inl a ↦
          let some : is_some_text cs ≡ true = ap (λ b. cond b (is_some_text cs) (is_start c)) (sym a) ∙ p.0 in
          let At : ℕ → Type 0 = λ z. is_start z ≡ true in
          inr (word_of c cs (subst At (sym (eqb-true c 95 a)) refl) p.1
          (λ e. both_ways (is_some_text cs) (ap (λ z. is_some_text (following z)) e) some))
      | inr a ↦
          let start : is_start c ≡ true = ap (λ b. cond b (is_some_text cs) (is_start c)) (sym a) ∙ p.0 in
          inr (word_of c cs start p.1 (λ e. both_ways (c == 95) a (ap (λ z. first_passes is_underscore z) e)))
    ]

-- A suffix of a number passes the test `is_number_suffix`.
pub number_suffix_complete : (x : List ℕ) → IsNumberSuffix x → is_number_suffix x ≡ true
number_suffix_complete x s = and_from (not (first_passes is_underscore x)) (is_strict_suffix x)
    (not_from_false (first_passes is_underscore x) s.1) (strict_suffix_complete x s.0)

-- A text that passes the test `is_number_suffix` is a suffix of a number.
pub number_suffix_sound : (x : List ℕ) → is_number_suffix x ≡ true → IsNumberSuffix x
number_suffix_sound x h =
    let p = and_parts (not (first_passes is_underscore x)) (is_strict_suffix x) h in
    (strict_suffix_sound x p.1, not-true (first_passes is_underscore x) p.0)
