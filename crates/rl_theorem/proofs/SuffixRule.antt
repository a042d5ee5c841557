-- The suffix of a literal, by both definitions.
use Rattle.rl_syntax.proofs.Common.{◌≡◌, ℕ, ◌||◌, Bool, true, false, eqb, List, [], ◌∷◌, ◌++◌, refl, sym, ap, ◌∙◌, inl, inr, append-nil, list_all, and_parts, and_from, or_left, or_right, or_cases, is_xid_start, is_xid_continue}
use Rattle.rl_syntax.specs.Texts.{IsWord, xid_ok, first_passes}
use Rattle.rl_syntax.specs.Strict.{IsStrictSuffix}
use Rattle.rl_theorem.specs.Notation.{Text, One, ◌⋅◌, ◌∣◌, Means, maybe, any_of, end}
use Rattle.rl_theorem.specs.RustRules.{identifier_or_keyword, suffix}
use Rattle.rl_theorem.proofs.RuleParts.{none_passes, passes_none, then_unless, unless_before, before_unless, run_to, run_from, or_same}

pub end_here : Means end [] [] []
end_here = (refl, refl, none_passes (λ c. true) [] refl)

pub at_end : (text after value : List ℕ) → Means end text after value → (text ≡ []) × (after ≡ []) × (value ≡ [])
at_end text after value (t, v, none) = (t, empty after (passes_none (λ c. true) after none), v)
  where
    empty : (after : List ℕ) → (first_passes (λ c. true) after) ≡ false → after ≡ []
    empty [] h = refl
    empty (c ∷ cs) h = absurd (cc)

-- ---- identifiers

pub identifier_to : (x after : List ℕ) → xid_ok x ≡ true → Means identifier_or_keyword x after x
identifier_to [] after h = absurd (cc)
identifier_to (c ∷ cs) after h =
    let (start, more) = and_parts (eqb c 95 || is_xid_start c) (list_all is_xid_continue cs) h in
    (c ∷ [], cs, c ∷ [], cs, refl, refl, begins_with (cs ++ after) start, run_to is_xid_continue cs after more)
  where
    begins_with : (after : List ℕ) → (eqb c 95 || is_xid_start c) ≡ true → Means (any_of (95 ∷ []) ∣ One is_xid_start) (c ∷ []) after (c ∷ [])
    begins_with after h =
        elim (or_cases (eqb c 95) (is_xid_start c) h) [
          | inl u ↦ inl (c, or_left (eqb c 95) false u, refl, refl)
          | inr s ↦ inr (c, s, refl, refl)
        ]

pub alone : (b : Bool) → (b || false) ≡ true → b ≡ true
alone b h = or_same b [] ∙ h

pub identifier_from : (x after v : List ℕ) → Means identifier_or_keyword x after v → xid_ok x ≡ true
identifier_from x after v (u, w, p, q, x_is, v_is, first, more) =
    let all = (run_from is_xid_continue w after q more).0 in
    go first all
  where
    go : Means (any_of (95 ∷ []) ∣ One is_xid_start) u (w ++ after) p → list_all is_xid_continue w ≡ true → xid_ok x ≡ true
    go (inl (c, is, u_is, p_is)) all =
        ap xid_ok (x_is ∙ ap (λ k. k ++ w) u_is)
        ∙ and_from (eqb c 95 || is_xid_start c) (list_all is_xid_continue w)
        (or_left (eqb c 95) (is_xid_start c) (alone (eqb c 95) is)) all
    go (inr (c, is, u_is, p_is)) all =
        ap xid_ok (x_is ∙ ap (λ k. k ++ w) u_is)
        ∙ and_from (eqb c 95 || is_xid_start c) (list_all is_xid_continue w) (or_right (eqb c 95) (is_xid_start c) is) all

-- ---- suffixes

word_to : (x : List ℕ) → IsWord x → Means suffix x [] x
word_to x word =
    unless_before identifier_or_keyword (Text (95 ∷ []) ⋅ end) x [] x (λ u w v e m.
    let (is, none) = then_unless (Text (95 ∷ [])) (One (λ c. true)) u w v m in
    let (u_is, w_is, v_is) = at_end [] w [] (refl, refl, none) in
    word.not_underscore (sym (append-nil x) ∙ e ∙ ap (λ k. u ++ k) w_is ∙ append-nil u ∙ is.0))
    (identifier_to x [] word.identifier)

word_from : (x v : List ℕ) → Means suffix x [] v → IsWord x
word_from x v m =
    let (none, is) = before_unless identifier_or_keyword (Text (95 ∷ []) ⋅ end) x [] v m in
    record {
      identifier = identifier_from x [] v is;
      not_underscore = λ e. none (95 ∷ []) [] [] (append-nil x ∙ e) (95 ∷ [], [], [], [], refl, refl, (refl, refl), end_here);
    }

pub suffix_to : (x : List ℕ) → IsStrictSuffix x → (v : List ℕ) × Means (maybe suffix) x [] v
suffix_to x (inl none) = ([], inl (none, refl))
suffix_to x (inr word) = (x, inr (word_to x word))

pub suffix_from : (x v : List ℕ) → Means (maybe suffix) x [] v → IsStrictSuffix x
suffix_from x v (inl (none, v_is)) = inl none
suffix_from x v (inr m) = inr (word_from x v m)
