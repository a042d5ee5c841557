-- Vectors of sixteen bytes and their masks, from which the leading ASCII characters of a text that pass a test are counted.
use Rattle.rl_syntax.proofs.Common.{◌≡◌, ℕ, suc, ◌+◌, ◌%◌, ◌^◌, ◌<◌, ◌≤◌, Bool, true, not, List, [], ◌∷◌, map, length, get_or, replicate, refl, sym, ap, ap₂, ◌∙◌, arith, agree_below, agree_below_at, map-map, mask_l-mod, length-chunk, length-map, chunk, zip2, mask_l, top}
use Rattle.std.proofs.Common.{Fits, w8}
use Rattle.std.proofs.lemmas.Simd.{zip2-map, get_or-chunk}
use Rattle.rl_syntax.specs.Mirrors.RunsAt.{is_run_byte, ends_run}

-- Combining the vectors of two functions `f` and `g` by the operation `h` gives the vector of `h (f x) (g x)`, for the
-- elements `x` of `v`.
pub joined : (h : ℕ → ℕ → ℕ) (f g : ℕ → ℕ) (v : List ℕ) {a b : List ℕ} → a ≡ map f v → b ≡ map g v → zip2 h a b
    ≡ map (λ x. h (f x) (g x)) v
joined h f g v p q = ap₂ (zip2 h) p q ∙ zip2-map h f g v

pub splat_is : (v : List ℕ) (n y : ℕ) → length v ≡ n → replicate n y ≡ map (λ _. y) v
splat_is [] n y e = ap (λ k. replicate k y) (sym e)
splat_is (x ∷ xs) n y e = ap (λ k. replicate k y) (sym e) ∙ ap (λ r. y ∷ r) (splat_is xs (length xs) y refl)

-- Two tests that agree on all bytes give equal results for each element of a list of bytes.
same_tests : (p q : ℕ → Bool) → agree_below p q 256 ≡ true → (v : List ℕ)
    → ((k : ℕ) → k < length v → get_or v k 0 < 256) → map p v ≡ map q v
same_tests p q all [] fits = refl
same_tests p q all (x ∷ xs) fits = ap₂ (λ a b. a ∷ b) (agree_below_at p q 256 x all (fits 0 (omega arith)))
    (same_tests p q all xs (λ k short. fits (suc k) (omega arith)))

-- If the top bits in a vector are the results of a test for sixteen bytes, the vector's mask has a set bit for each byte
-- that passes the test.
pub masked_as : (q : ℕ → Bool) (d : List ℕ) (i n : ℕ) (f : ℕ → ℕ) {z : List ℕ} → i + n ≤ length d → n ≤ 64
    → ((k : ℕ) → Fits w8 (get_or d k 0)) → z ≡ map f (chunk i n d) → agree_below (λ x. top 7 (f x)) q 256 ≡ true
    → mask_l (map (top 7) z) % 2 ^ 64 ≡ mask_l (map q (chunk i n d))
masked_as q d i n f room few fits lanes all =
    let v = chunk i n d in
    let long = length-chunk i n d room in
    ap (λ l. mask_l l % 2 ^ 64) (ap (map (top 7)) lanes ∙ map-map (top 7) f v)
    ∙ mask_l-mod (map (λ x. top 7 (f x)) v) 64 (omega (arith, length-map v (λ x. top 7 (f x)), long))
    ∙ ap mask_l (same_tests (λ x. top 7 (f x)) q all v (λ k short. omega
    (arith, (fits (i + k)).fits, get_or-chunk i n d k 0 (omega (arith, long)))))

-- A byte ends a sequence of identifier characters or white space exactly if it doesn't belong to the sequence.
pub ends_opposite : (word : Bool) (c : ℕ) → not (is_run_byte word c) ≡ ends_run word c
ends_opposite word c = refl
