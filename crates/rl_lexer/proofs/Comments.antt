-- Lemmas about the ends of block and line comments: the models of the code agree with the definitions.
use Rattle.rl_syntax.proofs.Common.{◌≡◌, ℕ, suc, zero, ◌⊎◌, inl, inr, Bool, true, false, not, ◌&&◌, ◌==◌, cond, List, [], ◌∷◌, ◌++◌, Option, Some, refl, sym, ◌∙◌, ap, arith, append_assoc, nat_tests, list_all, IsTrue}
use Rattle.rl_syntax.specs.Trivia.{is_comment_line, is_comment_block, Inside, End, Other, Nested, inside_text, IsInside, BeginsNoMark}
use Rattle.rl_lexer.specs.Mirrors.SkippedAt.{after_block, after_line}
use Rattle.rl_syntax.proofs.Basics.{false_unless}

-- The text after the outermost of nested block comments, where the given text follows a closing delimiter, and `depth`
-- comments are still open. If `depth` is 0, the result is the given text.
abbrev pub closed : ℕ → List ℕ → Option (List ℕ)
closed zero t = Some t
closed (suc d) t = after_block d t

pub after_block-step : (d c e : ℕ) (t : List ℕ) → after_block d (c ∷ e ∷ t)
    ≡ cond (c == 42 && e == 47) (closed d t) (cond (c == 47 && e == 42) (after_block (suc d) t) (after_block d (e ∷ t)))
after_block-step zero c e t = refl
after_block-step (suc d) c e t = refl

pub chosen : {A : Type 0} (b : Bool) (x y z : A) → cond b x y ≡ z → ((b ≡ true) × (x ≡ z)) ⊎ ((b ≡ false) × (y ≡ z))
chosen true x y z e = inl (refl, e)
chosen false x y z e = inr (refl, e)

pub chosen3 : {A : Type 0} (a b : Bool) (x y z w : A) → cond a x (cond b y z) ≡ w → ((a ≡ true) × (x ≡ w))
    ⊎ (((a ≡ false) × (b ≡ true) × (y ≡ w)) ⊎ ((a ≡ false) × (b ≡ false) × (z ≡ w)))
chosen3 true b x y z w e = inl (refl, e)
chosen3 false true x y z w e = inr (inl (refl, refl, e))
chosen3 false false x y z w e = inr (inr (refl, refl, e))

pub both : (c k e l : ℕ) → (c == k && e == l) ≡ true → (c ≡ k) × (e ≡ l)
both c k e l h = (grind (arith, nat_tests), grind (arith, nat_tests))

pub not_both : (c k e l : ℕ) → (c == k && e == l) ≡ false → c ≡ k → e ≡ l → ⊥
not_both c k e l h p q = grind (arith, nat_tests)

-- The text `t` consists of the remaining text of n nested block comments, each up to its closing delimiter, and of the
-- text `r`.
abbrev pub Closes : ℕ → List ℕ → List ℕ → Type 0
Closes zero t r = t ≡ r
Closes (suc n) t r = (i : Inside) × (m : List ℕ) × IsInside i × (t ≡ inside_text i ++ m) × Closes n m r

pub same_Some : {A : Type 0} (x y : A) → Some x ≡ Some y → x ≡ y
same_Some x y e = cc

no_mark : (c e : ℕ) (t m : List ℕ) (i : Inside) → e ∷ t ≡ inside_text i ++ m → (c == 42 && e == 47) ≡ false
    → (c == 47 && e == 42) ≡ false → BeginsNoMark (c ∷ inside_text i)
no_mark c e t m i same a b = record {
  no_opener = λ rest h. let g : e ∷ t ≡ 42 ∷ rest ++ m = same
      ∙ ap (λ x. x ++ m) (let u : inside_text i ≡ 42 ∷ rest = cc in u) in not_both c 47 e 42 b (cc) (cc);
  no_closer = λ rest h. let g : e ∷ t ≡ 47 ∷ rest ++ m = same
      ∙ ap (λ x. x ++ m) (let u : inside_text i ≡ 47 ∷ rest = cc in u) in not_both c 42 e 47 a (cc) (cc);
}

closes_other : (d c e : ℕ) (t r : List ℕ) → (c == 42 && e == 47) ≡ false → (c == 47 && e == 42) ≡ false
    → Closes (suc d) (e ∷ t) r → Closes (suc d) (c ∷ e ∷ t) r
closes_other d c e t r a b (i, m, is, same, more) = (
  Other c i,
  m,
  (no_mark c e t m i same a b, is),
  ap (λ x. c ∷ x)
      same,
  more,
)

closes_nested : (d c e : ℕ) (t r : List ℕ) → (c ≡ 47) × (e ≡ 42) → Closes (suc (suc d)) t r
    → Closes (suc d) (c ∷ e ∷ t) r
closes_nested d c e t r q (i, m, is, same, (j, k, js, same', more)) = (
  Nested i j,
  k,
  (is, js),
  (let s : t ≡ (inside_text i ++ inside_text j) ++ k = same
      ∙ ap (λ x. inside_text i ++ x) same' ∙ sym (append_assoc (inside_text i) (inside_text j) k) in cc),
  more,
)

closes_end : (d c e : ℕ) (t r : List ℕ) → (c ≡ 42) × (e ≡ 47) → Closes d t r → Closes (suc d) (c ∷ e ∷ t) r
closes_end d c e t r q more = (End, t, tt, cc, more)

closed_sound : (d : ℕ) (t r : List ℕ) → closed d t ≡ Some r → ((d : ℕ) → after_block d t ≡ Some r → Closes (suc d) t r)
    → Closes d t r
closed_sound zero t r h more = same_Some t r h
closed_sound (suc d) t r h more = more d h

pub after_block-sound : (d : ℕ) (t r : List ℕ) → after_block d t ≡ Some r → Closes (suc d) t r
after_block-sound d [] r h = absurd (cc)
after_block-sound d (c ∷ []) r h = absurd (cc)
after_block-sound d (c ∷ e ∷ t) r h =
    elim (chosen3 (c == 42 && e == 47) (c == 47 && e == 42) (closed d t) (after_block (suc d) t) (after_block d (e ∷ t))
    (Some r) (sym (after_block-step d c e t) ∙ h)) [
      | inl (is, x) ↦ closes_end d c e t r (both c 42 e 47 is) (closed_sound d t r x (λ n. after_block-sound n t r))
      | inr (inl (_, is, y)) ↦ closes_nested d c e t r (both c 47 e 42 is) (after_block-sound (suc d) t r y)
      | inr (inr (a, b, y)) ↦ closes_other d c e t r a b (after_block-sound d (e ∷ t) r y)
    ]

-- The text inside a block comment, with the closing delimiter, isn't empty.
inside_cons : (i : Inside) → (e : ℕ) × (u : List ℕ) × (inside_text i ≡ e ∷ u)
inside_cons End = (42, 47 ∷ [], refl)
inside_cons (Other c i) = (c, inside_text i, refl)
inside_cons (Nested i j) = (47, 42 ∷ inside_text i ++ inside_text j, refl)

pub block_goes_on : (d c e : ℕ) (t : List ℕ) → (c == 42 && e == 47) ≡ false → (c == 47 && e == 42) ≡ false
    → after_block d (c ∷ e ∷ t) ≡ after_block d (e ∷ t)
block_goes_on d c e t a b = after_block-step d c e t ∙ ap (λ x. cond x (closed d t)
    (cond (c == 47 && e == 42) (after_block (suc d) t) (after_block d (e ∷ t)))) a
    ∙ ap (λ x. cond x (after_block (suc d) t) (after_block d (e ∷ t))) b

past_other : (d c : ℕ) (s t : List ℕ) → BeginsNoMark (c ∷ s) → (e : ℕ) (u : List ℕ) → s ≡ e ∷ u
    → after_block d (c ∷ s ++ t) ≡ after_block d (s ++ t)
past_other d c s t none e u same =
    let a : (c == 42 && e == 47) ≡ false = false_unless (c == 42 && e == 47)
    (λ h. let q : (c ≡ 42) × (e ≡ 47) = both c 42 e 47 h in none.no_closer u cc) in
    let b : (c == 47 && e == 42) ≡ false = false_unless (c == 47 && e == 42)
    (λ h. let q : (c ≡ 47) × (e ≡ 42) = both c 47 e 42 h in none.no_opener u cc) in
    let g : s ++ t ≡ e ∷ u ++ t = ap (λ x. x ++ t) same in
    ap (λ x. after_block d (c ∷ x)) g ∙ block_goes_on d c e (u ++ t) a b ∙ sym (ap (λ x. after_block d x) g)

pub after_block-past : (i : Inside) (d : ℕ) (t : List ℕ) → IsInside i → after_block d (inside_text i ++ t) ≡ closed d t
after_block-past End d t is = after_block-step d 42 47 t
after_block-past (Other c i) d t (none, is) =
    let (e, u, same) = inside_cons i in
    past_other d c (inside_text i) t none e u same ∙ after_block-past i d t is
after_block-past (Nested i j) d t (is, js) =
    after_block-step d 47 42 ((inside_text i ++ inside_text j) ++ t)
    ∙ ap (λ x. after_block (suc d) x) (append_assoc (inside_text i) (inside_text j) t)
    ∙ after_block-past i (suc d) (inside_text j ++ t) is
    ∙ after_block-past j d t js

-- The text contains no LF.
abbrev pub OneLine : List ℕ → Type 0
OneLine t = IsTrue (list_all (λ c. not (c == 10)) t)

pub after_line-past : (body t : List ℕ) → OneLine body → after_line (body ++ 10 ∷ t) ≡ t
after_line-past [] t h = refl
after_line-past (c ∷ body) t h = grind (arith, nat_tests, after_line-past body t)

pub after_line-open : (body : List ℕ) → OneLine body → after_line body ≡ []
after_line-open [] h = refl
after_line-open (c ∷ body) h = grind (arith, nat_tests, after_line-open body)

pub plain_line-same : (body t : List ℕ) → is_comment_line (body ++ 10 ∷ t) ≡ is_comment_line body
plain_line-same [] t = refl
plain_line-same (c ∷ []) t = refl
plain_line-same (c ∷ d ∷ body) t = refl

pub plain_block-same : (i : Inside) (t : List ℕ) → is_comment_block (inside_text i ++ t)
    ≡ is_comment_block (inside_text i)
plain_block-same End t = refl
plain_block-same (Other c End) t = refl
plain_block-same (Other c (Other d i)) t = refl
plain_block-same (Other c (Nested i j)) t = refl
plain_block-same (Nested i j) t = refl
