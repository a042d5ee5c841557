-- Single iterations of the loops that lex a token.
use Rattle.rl_syntax.proofs.Common.{◌≡◌, ◌≢◌, ℕ, ◌⊎◌, inl, inr, ◌||◌, ◌&&◌, true, false, ◌==◌, cond, List, [], ◌∷◌, ◌++◌, append-nil, drop, Some, None, refl, sym, subst, ◌∙◌, ap, arith, and_parts, ne_eqb, list_all, nat_tests}
use Rattle.rl_lexer.proofs.LexemeRows.{quote_now}
use Rattle.rl_lexer.specs.Lexemes.{begins_hashes}
use Rattle.rl_lexer.specs.Mirrors.LexemeAt.{after_quote, after_raw, after_apostrophe}
use Rattle.rl_syntax.specs.declared.scan.Marks.{Marks}
use Rattle.rl_syntax.specs.Scanning.{is_one_of, is_other, IsNextMark}
use Rattle.rl_syntax.proofs.ScanLemmas.{not_first, not_second}
use Rattle.rl_syntax.proofs.Basics.{false_unless}

-- A character that is neither a quote nor a backslash doesn't change the result of the search for the end of a string literal.
pub quote_passes : (s t : List ℕ) (c : ℕ) → s ≡ c ∷ t → c ≢ 34 → c ≢ 92 → after_quote t ≡ after_quote s
quote_passes s t c e a b =
    sym (ap after_quote e ∙ go t (false_unless (c == 34) (λ h. let q : c ≡ 34 = grind (arith, nat_tests) in a q))
    (false_unless (c == 92) (λ h. let q : c ≡ 92 = grind (arith, nat_tests) in b q)))
  where
    go : (t : List ℕ) → (c == 34) ≡ false → (c == 92) ≡ false → after_quote (c ∷ t) ≡ after_quote t
    go [] p q = ap (λ x. cond x (Some []) None) p
    go (e ∷ t) p q = ap (λ x. cond x (Some (e ∷ t)) (cond (c == 92) (after_quote t) (after_quote (e ∷ t)))) p
        ∙ ap (λ x. cond x (after_quote t) (after_quote (e ∷ t))) q

-- ---- the end of a literal, found by the next delimiter in its text

quote_over : (m : Marks) (run s : List ℕ) → m.first ≡ 34 → m.second ≡ 92 → list_all (is_other m) run ≡ true
    → after_quote (run ++ s) ≡ after_quote s
quote_over m [] s a b h = refl
quote_over m (c ∷ run) s a b h =
    let parts = and_parts (is_other m c) (list_all (is_other m) run) h in
    sym (quote_passes (c ∷ (run ++ s)) (run ++ s) c refl (λ e. not_first m c parts.0 (e ∙ sym a))
    (λ e. not_second m c parts.0 (e ∙ sym b))) ∙ quote_over m run s a b parts.1

quote_at : (m : Marks) (s t : List ℕ) (k : ℕ) → m.first ≡ 34 → m.second ≡ 92 → IsNextMark m s k t → after_quote s
    ≡ after_quote (k ∷ t)
quote_at m s t k a b next = ap after_quote next.text_is ∙ quote_over m next.front (k ∷ t) a b next.others

pub quote_none : (m : Marks) (s : List ℕ) → m.first ≡ 34 → m.second ≡ 92 → list_all (is_other m) s ≡ true
    → after_quote s ≡ None
quote_none m s a b h = ap after_quote (sym (append-nil s)) ∙ quote_over m s [] a b h

pub quote_found : (m : Marks) (s t : List ℕ) (k : ℕ) → m.first ≡ 34 → m.second ≡ 92 → IsNextMark m s k t → k ≡ 34
    → after_quote s ≡ Some t
quote_found m s t k a b next is = quote_at m s t k a b next ∙ ap (λ c. after_quote (c ∷ t)) is ∙ quote_now t

pub quote_taken : (m : Marks) (s t u : List ℕ) (k c : ℕ) → m.first ≡ 34 → m.second ≡ 92 → IsNextMark m s k t → k ≡ 92
    → t ≡ c ∷ u → after_quote s ≡ after_quote u
quote_taken m s t u k c a b next is more = quote_at m s t k a b next ∙ ap (λ d. after_quote (d ∷ t)) is
    ∙ ap (λ z. after_quote (92 ∷ z)) more

pub quote_open : (m : Marks) (s t : List ℕ) (k : ℕ) → m.first ≡ 34 → m.second ≡ 92 → IsNextMark m s k t → k ≡ 92 → t
    ≡ [] → after_quote s ≡ None
quote_open m s t k a b next is none = quote_at m s t k a b next ∙ ap (λ d. after_quote (d ∷ t)) is
    ∙ ap (λ z. after_quote (92 ∷ z)) none

raw_over : (m : Marks) (n : ℕ) (run s : List ℕ) → m.first ≡ 34 → list_all (is_other m) run ≡ true
    → after_raw n (run ++ s) ≡ after_raw n s
raw_over m n [] s a h = refl
raw_over m n (c ∷ run) s a h =
    let parts = and_parts (is_other m c) (list_all (is_other m) run) h in
    ap (λ b. cond (b && begins_hashes n (run ++ s)) (Some (drop n (run ++ s))) (after_raw n (run ++ s)))
    (ne_eqb c 34 (λ e. not_first m c parts.0 (e ∙ sym a))) ∙ raw_over m n run s a parts.1

raw_at : (m : Marks) (n : ℕ) (s t : List ℕ) (k : ℕ) → m.first ≡ 34 → IsNextMark m s k t → k ≡ 34 → after_raw n s
    ≡ cond (begins_hashes n t) (Some (drop n t)) (after_raw n t)
raw_at m n s t k a next is = ap (after_raw n) next.text_is ∙ raw_over m n next.front (k ∷ t) a next.others
    ∙ ap (λ c. after_raw n (c ∷ t)) is

pub raw_none : (m : Marks) (n : ℕ) (s : List ℕ) → m.first ≡ 34 → list_all (is_other m) s ≡ true → after_raw n s ≡ None
raw_none m n s a h = ap (after_raw n) (sym (append-nil s)) ∙ raw_over m n s [] a h

pub raw_found : (m : Marks) (n : ℕ) (s t : List ℕ) (k : ℕ) → m.first ≡ 34 → IsNextMark m s k t → k ≡ 34
    → begins_hashes n t ≡ true → after_raw n s ≡ Some (drop n t)
raw_found m n s t k a next is h = raw_at m n s t k a next is ∙ ap (λ b. cond b (Some (drop n t)) (after_raw n t)) h

pub raw_passes : (m : Marks) (n : ℕ) (s t : List ℕ) (k : ℕ) → m.first ≡ 34 → IsNextMark m s k t → k ≡ 34
    → begins_hashes n t ≡ false → after_raw n s ≡ after_raw n t
raw_passes m n s t k a next is h = raw_at m n s t k a next is ∙ ap (λ b. cond b (Some (drop n t)) (after_raw n t)) h

-- If a search looks for two characters, the character that it finds is one of the two.
pub which : (m : Marks) (a b k : ℕ) → m ≡ record { first = a; second = b; third = b; fourth = b } → is_one_of m k ≡ true
    → (k ≡ a) ⊎ (k ≡ b)
which m a b k e h = go (subst (λ z. is_one_of z k ≡ true) e h)
  where
    go : (k == a || k == b || k == b || k == b) ≡ true → (k ≡ a) ⊎ (k ≡ b)
    go h = grind (arith, nat_tests)

pub only : (m : Marks) (a k : ℕ) → m ≡ record { first = a; second = a; third = a; fourth = a } → is_one_of m k ≡ true
    → k ≡ a
only m a k e h = elim (which m a a k e h) [ inl is ↦ is | inr is ↦ is ]

pub apostrophe_step : (s t : List ℕ) (c : ℕ) → s ≡ c ∷ t → c ≢ 39 → c ≢ 10 → after_apostrophe t ≡ after_apostrophe s
apostrophe_step s t c e quote line =
    let q : (c == 39) ≡ false = grind (arith, nat_tests) in
    let n : (c == 10) ≡ false = grind (arith, nat_tests) in
    sym (ap after_apostrophe e ∙ ap (λ b. cond b (Some t) (cond (c == 10) None (after_apostrophe t))) q
    ∙ ap (λ b. cond b None (after_apostrophe t)) n)
