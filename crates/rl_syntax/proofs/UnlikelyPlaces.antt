-- Byte offsets before which neither a literal nor a comment begins.
use Rattle.rl_syntax.proofs.Common.{◌≡◌, ℕ, zero, suc, ◌+◌, ◌≤◌, ◌≢◌, Bool, true, false, not, cond, List, [], ◌∷◌, map, length, drop, refl, sym, ap, ◌∙◌, arith, prefix_len, mask_l, chunk, count_trailing_zeros}
use Rattle.rl_syntax.proofs.LaneLemmas.{run_stops, run_through}
use Rattle.rl_syntax.proofs.UnlikelyLanes.{around-length}
use Rattle.rl_syntax.specs.Mirrors.UnlikelyAt.{around, begins_none, first_or, may_begin, may_begin_at, unlikely_after, literal_free_prefix_len}

-- Whether neither a literal nor a comment begins at the second of two adjacent bytes.
abbrev pub is_past : ℕ × ℕ → Bool
is_past x = not (may_begin x)

abbrev is_none_at : ℕ × ℕ × ℕ → Bool
is_none_at x = begins_none x.0 x.1 x.2

none_opposite : (x : ℕ × ℕ × ℕ) → not (is_none_at x) ≡ may_begin_at x
none_opposite x = refl

unlikely_run : (p : ℕ) (bs : List ℕ) → unlikely_after p bs ≡ prefix_len is_none_at (around p bs)
unlikely_run p [] = refl
unlikely_run p (c ∷ cs) = ap (λ n. cond (begins_none p c (first_or 0 cs)) (suc n) 0) (unlikely_run c cs)
    ∙ more (begins_none p c (first_or 0 cs)) (prefix_len is_none_at (around c cs))
  where
    more : (b : Bool) (n : ℕ) → cond b (suc n) 0 ≡ cond b (1 + n) 0
    more true n = omega arith
    more false n = refl

-- If `n` of the leading elements that pass a test are dropped, the number of leading elements that pass it is smaller by
-- `n`.
on_from : {X : Type 0} (q : X → Bool) (n : ℕ) (xs : List X) → n ≤ prefix_len q xs → prefix_len q xs
    ≡ n + prefix_len q (drop n xs)
on_from q zero xs h = omega arith
on_from q (suc n) [] h = absurd (omega arith)
on_from q (suc n) (x ∷ xs) h = go (q x) refl h (on_from q n xs)
  where
    go : (b : Bool) → q x ≡ b → suc n ≤ cond b (1 + prefix_len q xs) 0
        → (n ≤ prefix_len q xs → prefix_len q xs ≡ n + prefix_len q (drop n xs))
        → prefix_len q (x ∷ xs) ≡ suc n + prefix_len q (drop n xs)
    go true e h more =
        let here : prefix_len q (x ∷ xs) ≡ 1 + prefix_len q xs = ap (λ b. cond b (1 + prefix_len q xs) 0) e in
        omega (arith, here, more (omega arith))
    go false e h more = absurd (omega arith)

-- The lowest set bit of the mask of sixteen bytes is at the first of these bytes at which a literal or a comment may begin.
pub first_place : (bs : List ℕ) (at m : ℕ) → at ≤ literal_free_prefix_len bs → at + 16 ≤ length bs
    → m ≡ mask_l (map may_begin_at (chunk at 16 (around 0 bs))) → m ≢ 0 → at + count_trailing_zeros 64 m
    ≡ literal_free_prefix_len bs
first_place bs at m front room bits some =
    let xs = around 0 bs in
    let whole = unlikely_run 0 bs in
    let on = on_from is_none_at at xs (omega (arith, front, whole)) in
    let run = run_stops may_begin_at is_none_at none_opposite xs at 16 (omega (arith, room, around-length 0 bs)) (omega arith)
    (omega (arith, bits, some)) in
    let same = ap (count_trailing_zeros 64) bits in
    omega (arith, whole, on, run, same)

-- If no bit of the mask of sixteen bytes is set, neither a literal nor a comment begins at any of these bytes.
pub none_among : (bs : List ℕ) (at m : ℕ) → at ≤ literal_free_prefix_len bs → at + 16 ≤ length bs
    → m ≡ mask_l (map may_begin_at (chunk at 16 (around 0 bs))) → m ≡ 0 → at + 16 ≤ literal_free_prefix_len bs
none_among bs at m front room bits none =
    let xs = around 0 bs in
    let whole = unlikely_run 0 bs in
    let on = on_from is_none_at at xs (omega (arith, front, whole)) in
    let run = run_through may_begin_at is_none_at none_opposite xs at 16 (omega (arith, room, around-length 0 bs))
    (sym bits ∙ none) in
    omega (arith, whole, on, run)
