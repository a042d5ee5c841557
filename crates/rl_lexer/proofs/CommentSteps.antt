-- One iteration of the search for the end of a comment.
use Rattle.rl_syntax.proofs.Common.{◌≡◌, ℕ, suc, zero, ◌+◌, ◌-◌, ◌<◌, ◌≤◌, Bool, true, false, not, ◌&&◌, ◌==◌, cond, List, [], ◌∷◌, ◌++◌, append-nil, length, get_or, take, drop, Option, Some, None, subst, Bor, IfSome, IfNone, refl, sym, ◌∙◌, ap, arith, prefix_len-le-length, and_from, and_parts, ne_eqb, IsUtf8-nil, chars, list_all, prefix_len}
use Rattle.std.proofs.Common.{add-one}
use Rattle.std.specs.Option.{unwrap_or}
use Rattle.std.proofs.lemmas.List.{drop_more, get_or-drop, drop-drop, length-drop}
use Rattle.std.proofs.Math.Seq.{take-length}
use Rattle.rl_syntax.specs.Texts.{IsTail}
use Rattle.rl_lexer.specs.Mirrors.SkippedAt.{after_block, after_line}
use Rattle.rl_syntax.specs.Scanning.{is_other, line_ends, IsNextMark}
use Rattle.rl_syntax.specs.declared.scan.Marks.{Marks}
use Rattle.rl_lexer.proofs.Comments.{closed, after_block-step, block_goes_on, both, OneLine, after_line-past, after_line-open}
use Rattle.rl_syntax.proofs.Basics.{false_unless}
use Rattle.rl_lexer.proofs.LexemeSteps.{only}
use Rattle.rl_syntax.proofs.ScanLemmas.{drop_next, not_first, not_second}

-- A choice by the characters `c` and `e` inside a block comment: `x` if they are a closing delimiter, `y` if they are
-- an opening delimiter, and `z` otherwise.
abbrev Turns : ℕ → ℕ → ℕ → Option (List ℕ) → Option (List ℕ) → Option (List ℕ) → Option (List ℕ)
Turns d c e x y z = cond (c == 42 && e == 47) x (cond (c == 47 && e == 42) y z)

neither : (c : ℕ) (x y z : Option (List ℕ)) → z ≡ Turns 0 c 0 x y z
neither c x y z = go (c == 42) (c == 47)
  where
    go : (a b : Bool) → z ≡ cond (a && false) x (cond (b && false) y z)
    go true true = refl
    go true false = refl
    go false true = refl
    go false false = refl

turn : (d c : ℕ) (u : List ℕ) → after_block d (c ∷ u) ≡ Turns d c (get_or u 0 0) (closed d (drop 1 u))
    (after_block (suc d) (drop 1 u)) (after_block d u)
turn d c [] = neither c (closed d []) None None
turn d c (e ∷ t) = after_block-step d c e t

turn_at : (s : List ℕ) (i d : ℕ) → i < length s → after_block d (drop i s)
    ≡ Turns d (get_or s i 0) (get_or s (i + 1) 0) (closed d (drop (i + 1 + 1) s))
    (after_block (suc d) (drop (i + 1 + 1) s)) (after_block d (drop (i + 1) s))
turn_at s i d l =
    ap (after_block d) (drop_more s i 0 l)
    ∙ turn d (get_or s i 0) (drop (i + 1) s)
    ∙ ap (λ e. Turns d (get_or s i 0) e (closed d (drop 1 (drop (i + 1) s)))
    (after_block (suc d) (drop 1 (drop (i + 1) s))) (after_block d (drop (i + 1) s)))
    (get_or-drop (i + 1) s 0 0 ∙ ap (λ k. get_or s k 0) (let e : i + 1 + 0 ≡ i + 1 = omega arith in e))
    ∙ ap (λ t. Turns d (get_or s i 0) (get_or s (i + 1) 0) (closed d t) (after_block (suc d) t)
    (after_block d (drop (i + 1) s))) (drop-drop 1 (i + 1) s)

pub block_closes : (s : List ℕ) (i d : ℕ) → i < length s → get_or s i 0 ≡ 42 → get_or s (i + 1) 0 ≡ 47
    → after_block d (drop i s) ≡ closed d (drop (i + 1 + 1) s)
block_closes s i d l p q =
    turn_at s i d l
    ∙ ap (λ c. Turns d c (get_or s (i + 1) 0) (closed d (drop (i + 1 + 1) s)) (after_block (suc d) (drop (i + 1 + 1) s))
    (after_block d (drop (i + 1) s))) p
    ∙ ap (λ e. Turns d 42 e (closed d (drop (i + 1 + 1) s)) (after_block (suc d) (drop (i + 1 + 1) s))
    (after_block d (drop (i + 1) s))) q

pub block_opens : (s : List ℕ) (i d : ℕ) → i < length s → get_or s i 0 ≡ 47 → get_or s (i + 1) 0 ≡ 42
    → after_block d (drop i s) ≡ after_block (d + 1) (drop (i + 1 + 1) s)
block_opens s i d l p q =
    turn_at s i d l
    ∙ ap (λ c. Turns d c (get_or s (i + 1) 0) (closed d (drop (i + 1 + 1) s)) (after_block (suc d) (drop (i + 1 + 1) s))
    (after_block d (drop (i + 1) s))) p
    ∙ ap (λ e. Turns d 47 e (closed d (drop (i + 1 + 1) s)) (after_block (suc d) (drop (i + 1 + 1) s))
    (after_block d (drop (i + 1) s))) q
    ∙ ap (λ n. after_block n (drop (i + 1 + 1) s)) (sym (add-one d))

pub block_goes : (s : List ℕ) (i d : ℕ) → i < length s → (get_or s i 0 ≡ 42 → get_or s (i + 1) 0 ≡ 47 → ⊥)
    → (get_or s i 0 ≡ 47 → get_or s (i + 1) 0 ≡ 42 → ⊥) → after_block d (drop i s) ≡ after_block d (drop (i + 1) s)
block_goes s i d l p q =
    turn_at s i d l
    ∙ ap (λ b. cond b (closed d (drop (i + 1 + 1) s)) (cond (get_or s i 0 == 47 && get_or s (i + 1) 0 == 42)
    (after_block (suc d) (drop (i + 1 + 1) s)) (after_block d (drop (i + 1) s))))
    (false_unless (get_or s i 0 == 42 && get_or s (i + 1) 0 == 47)
    (λ h. let k : (get_or s i 0 ≡ 42) × (get_or s (i + 1) 0 ≡ 47) = both (get_or s i 0) 42 (get_or s (i + 1) 0) 47 h
    in p k.0 k.1))
    ∙ ap (λ b. cond b (after_block (suc d) (drop (i + 1 + 1) s)) (after_block d (drop (i + 1) s)))
    (false_unless (get_or s i 0 == 47 && get_or s (i + 1) 0 == 42)
    (λ h. let k : (get_or s i 0 ≡ 47) × (get_or s (i + 1) 0 ≡ 42) = both (get_or s i 0) 47 (get_or s (i + 1) 0) 42 h
    in q k.0 k.1))

-- After the closing delimiter of a nested block comment, one block comment fewer is open.
pub closed-down : (d : ℕ) (t : List ℕ) → 0 < d → closed d t ≡ after_block (d - 1) t
closed-down zero t l = absurd (omega arith)
closed-down (suc d) t l = ap (λ n. after_block n t) (let e : d ≡ suc d - 1 = omega arith in e)

-- If the byte at an index isn't 0, the index is inside the text.
pub next_inside : (s : List ℕ) (i n : ℕ) → get_or s i 0 ≡ n → 0 < n → i < length s
next_inside [] i n e l = absurd (omega arith)
next_inside (x ∷ s) zero n e l = omega arith
next_inside (x ∷ s) (suc i) n e l = omega (arith, next_inside s i n e l)

-- The slice of a text from an index up to the end of the text is the text without the bytes before the index.
rest_whole : (s : List ℕ) (i : ℕ) → take (length s - i) (drop i s) ≡ drop i s
rest_whole s i = ap (λ n. take n (drop i s)) (sym (length-drop i s)) ∙ take-length (drop i s)

-- A character inside a block comment that is neither `*` nor `/` doesn't change the result of the search for the
-- comment's end.
goes_over : (m : Marks) (d c : ℕ) (t : List ℕ) → m.first ≡ 42 → m.second ≡ 47 → is_other m c ≡ true
    → after_block d (c ∷ t) ≡ after_block d t
goes_over m d c [] star slash h = refl
goes_over m d c (e ∷ t) star slash h =
    block_goes_on d c e t
    (false_unless (c == 42 && e == 47) (λ is. not_first m c h ((both c 42 e 47 is).0 ∙ sym star)))
    (false_unless (c == 47 && e == 42) (λ is. not_second m c h ((both c 47 e 42 is).0 ∙ sym slash)))

run_over : (m : Marks) (d : ℕ) (t : List ℕ) → m.first ≡ 42 → m.second ≡ 47
    → after_block d (drop (prefix_len (is_other m) t) t) ≡ after_block d t
run_over m d [] star slash = refl
run_over m d (c ∷ t) star slash = go (is_other m c) refl (run_over m d t star slash)
  where
    go : (b : Bool) → is_other m c ≡ b → after_block d (drop (prefix_len (is_other m) t) t) ≡ after_block d t
        → after_block d (drop (cond b (1 + prefix_len (is_other m) t) 0) (c ∷ t)) ≡ after_block d (c ∷ t)
    go true h more = ap (after_block d) (drop_next (prefix_len (is_other m) t) c t) ∙ more
        ∙ sym (goes_over m d c t star slash h)
    go false h more = refl

pub block_runs : (m : Marks) (s : List ℕ) (i d n : ℕ) → m ≡ record { first = 42; second = 47; third = 47; fourth = 47 }
    → n ≡ prefix_len (is_other m) (take (length s - i) (drop i s)) → after_block d (drop (i + n) s)
    ≡ after_block d (drop i s)
block_runs m s i d n is e =
    ap (after_block d) (sym (drop-drop n i s)) ∙ ap (λ k. after_block d (drop k (drop i s)))
    (e ∙ ap (prefix_len (is_other m)) (rest_whole s i))
    ∙ run_over m d (drop i s) (ap (λ z. z.first) is) (ap (λ z. z.second) is)

pub run_inside : (m : Marks) (s : List ℕ) (i n : ℕ) → n ≡ prefix_len (is_other m) (take (length s - i) (drop i s))
    → i ≤ length s → i + n ≤ length s
run_inside m s i n e l = omega (
  arith,
  e ∙ ap (prefix_len (is_other m)) (rest_whole s i),
  prefix_len-le-length
      (is_other m) (drop i s),
  length-drop i s,
)

-- ---- line comments

pub one_line : (m : Marks) (s : List ℕ) → m.first ≡ 10 → list_all (is_other m) s ≡ true → OneLine s
one_line m [] is h = refl
one_line m (c ∷ s) is h =
    let parts = and_parts (is_other m c) (list_all (is_other m) s) h in
    and_from (not (c == 10)) (list_all (λ c. not (c == 10)) s)
    (ap not (ne_eqb c 10 (λ e. not_first m c parts.0 (e ∙ sym is)))) (one_line m s is parts.1)

-- If a search finds an LF, the text after the LF is the text after the line.
pub line_found : (m : Marks) (s t : List ℕ) (k : ℕ) → m ≡ record { first = 10; second = 10; third = 10; fourth = 10 }
    → IsNextMark m s k t → t ≡ after_line s
line_found m s t k is next =
    sym (ap after_line (next.text_is ∙ ap (λ c. next.front ++ (c ∷ t)) (only m 10 k is next.is_mark))
    ∙ after_line-past next.front t (one_line m next.front (ap (λ z. z.first) is) next.others))

chars_nil : chars [] ≡ []
unfolding chars
chars_nil = refl

pub line_open : (m : Marks) (s : List ℕ) → m ≡ record { first = 10; second = 10; third = 10; fourth = 10 }
    → list_all (is_other m) s ≡ true → chars [] ≡ after_line s
line_open m s is h = chars_nil ∙ sym (after_line-open s (one_line m s (ap (λ z. z.first) is) h))

pub nothing_tail : (t : List ℕ) → IsTail t []
nothing_tail t = record { front = t; text_is = sym (append-nil t); is_text = IsUtf8-nil }

-- The code returns the text after the first LF, or an empty text if there is no LF. This is the text after the line by the
-- definitions.
pub line_rest : (s : List ℕ) (found : Option (Bor (List ℕ))) (none rest : Bor (List ℕ))
    → IfSome found (λ r. IsNextMark line_ends (chars s) 10 (chars r.now))
    → IfNone found (list_all (is_other line_ends) (chars s) ≡ true) → IfSome found (λ r. IsTail s r.now)
    → none.now ≡ [] → rest ≡ unwrap_or found none → (chars rest.now ≡ after_line (chars s)) × IsTail s rest.now
line_rest s (Some r) none rest next lacks tail empty is = (
  ap (λ z. chars z.now) is ∙ line_found line_ends (chars s) (chars r.now) 10 refl next,
  subst (λ z. IsTail s z.now) (sym is) tail,
)
line_rest s None none rest next lacks tail empty is = (
  ap (λ z. chars z.now) is ∙ ap chars empty ∙ line_open line_ends (chars s) refl lacks,
  subst (λ z. IsTail s z.now) (sym is) (subst (IsTail s) (sym empty) (nothing_tail s)),
)
