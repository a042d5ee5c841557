-- A search over sixteen bytes computes a mask, from which the leading bytes that pass a test are counted.
use Rattle.rl_syntax.proofs.Common.{◌≡◌, ℕ, ◌+◌, ◌*◌, ◌%◌, ◌^◌, ◌<◌, ◌≤◌, ◌||◌, ◌&&◌, nat_le, Bool, true, false, not, cond, eqb, List, [], ◌∷◌, map, length, drop, refl, sym, ap, ap₂, ◌∙◌, arith, length-chunk, mask_l-mod, length-map, prefix_len-le-length, eq-eqb, ne_eqb, nat_tests, prefix_len, bit_or, chunk, mask_l, zip2, top, count_trailing_zeros}
use Rattle.std.proofs.Common.{bit_and, nat_eq, nat_lt}
use Rattle.std.proofs.lemmas.Simd.{chunk-drop, leading_from_mask_l, trailing_mask_l}
use Rattle.std.proofs.lemmas.List.Folds.{prefix_len-append}
use Rattle.rl_syntax.specs.declared.scan.Marks.{Marks}
use Rattle.rl_syntax.specs.Scanning.{is_one_of}
use Rattle.rl_syntax.specs.Mirrors.StopsAt.{goes_on, stops}

-- ---- lanes that are all ones where a test holds, and else 0

abbrev pub lane : Bool → ℕ
lane b = cond b 255 0

lane_or : (a b : Bool) → bit_or (lane a) (lane b) ≡ lane (a || b)
lane_or true true = refl
lane_or true false = refl
lane_or false true = refl
lane_or false false = refl

lane_top : (b : Bool) → top 7 (lane b) ≡ b
lane_top true = refl
lane_top false = refl

lane_and : (a b : Bool) → bit_and (lane a) (lane b) ≡ lane (a && b)
lane_and true true = refl
lane_and true false = refl
lane_and false true = refl
lane_and false false = refl

both_lanes : {X : Type 0} (p q : X → Bool) (v : List X) → zip2 bit_or (map (λ x. lane (p x)) v) (map (λ x. lane (q x)) v)
    ≡ map (λ x. lane (p x || q x)) v
both_lanes p q [] = refl
both_lanes p q (x ∷ xs) = ap₂ (λ a b. a ∷ b) (lane_or (p x) (q x)) (both_lanes p q xs)

-- The bitwise or of the vectors of two tests is the vector of the disjunction of the tests.
pub either : {X : Type 0} (p q : X → Bool) (v : List X) {a b : List ℕ} → a ≡ map (λ x. lane (p x)) v → b ≡ map (λ x. lane (q x)) v
    → zip2 bit_or a b ≡ map (λ x. lane (p x || q x)) v
either p q v e f = ap₂ (zip2 bit_or) e f ∙ both_lanes p q v

-- The bitwise and of the vectors of two tests is the vector of the conjunction of the tests.
pub both : {X : Type 0} (p q : X → Bool) (v : List X) {a b : List ℕ} → a ≡ map (λ x. lane (p x)) v
    → b ≡ map (λ x. lane (q x)) v → zip2 bit_and a b ≡ map (λ x. lane (p x && q x)) v
both {X = X} p q v e f = ap₂ (zip2 bit_and) e f ∙ go v
  where
    go : (v : List X) → zip2 bit_and (map (λ x. lane (p x)) v) (map (λ x. lane (q x)) v) ≡ map (λ x. lane (p x && q x)) v
    go [] = refl
    go (x ∷ xs) = ap₂ (λ a b. a ∷ b) (lane_and (p x) (q x)) (go xs)

tops : {X : Type 0} (p : X → Bool) (v : List X) → map (top 7) (map (λ x. lane (p x)) v) ≡ map p v
tops p [] = refl
tops p (x ∷ xs) = ap₂ (λ a b. a ∷ b) (lane_top (p x)) (tops p xs)

-- If a vector contains the results of a test for the elements of a list, its mask has a set bit for each element that passes
-- the test.
pub masked : {X : Type 0} (p : X → Bool) (v : List X) {a : List ℕ} → length v ≤ 64 → a ≡ map (λ x. lane (p x)) v
    → mask_l (map (top 7) a) % 2 ^ 64 ≡ mask_l (map p v)
masked p v few e = ap (λ l. mask_l l % 2 ^ 64) (ap (map (top 7)) e ∙ tops p v)
    ∙ mask_l-mod (map p v) 64 (omega (arith, length-map v p))

-- A byte is non-ASCII exactly if it is 128 or above.
past_low : (c : ℕ) → not (nat_lt c 128) ≡ nat_le 128 c
past_low c = grind (arith, nat_tests)

-- A sequence that continues where `a` is true and `d` is false ends exactly where `a` is false or `d` is true.
ends_either : (a b d : Bool) → not a ≡ b → not (a && not d) ≡ b || d
ends_either true true d h = absurd (cc)
ends_either true false true h = refl
ends_either true false false h = refl
ends_either false true d h = refl
ends_either false false d h = absurd (cc)

pub not-not : (b : Bool) → b ≡ not (not b)
not-not true = refl
not-not false = refl

-- Returns the `bool` that a number encodes: `false` for 0, and `true` for any other number.
abbrev pub said : ℕ → Bool
said n = not (nat_eq n 0)

-- A search stops at exactly the bytes after which it doesn't continue.
pub stops_opposite : (high : Bool) (m : Marks) (c : ℕ) → not (goes_on high m c) ≡ stops high m c
stops_opposite true m c = ends_either (nat_lt c 128) (nat_le 128 c) (is_one_of m c) (past_low c)
stops_opposite false m c = sym (not-not (is_one_of m c))

-- ---- the sequence of bytes that pass a test, by the mask of those that fail it

none_fails : (b : Bool) (n l m : ℕ) → n ≤ l → cond (not b) (1 + n) 0 ≡ 1 + l → (n ≡ l → m ≡ 0) → cond b 1 0 + 2 * m ≡ 0
none_fails true n l m le e ih = let no : ⊥ = omega arith in absurd no
none_fails false n l m le e ih = let z = ih (omega arith) in omega arith

module _ {X : Type 0} (p q : X → Bool) (opposite : (x : X) → not (q x) ≡ p x) where
  same_run : (xs : List X) → prefix_len q xs ≡ prefix_len (λ x. not (p x)) xs
  same_run [] = refl
  same_run (x ∷ xs) = ap₂ (λ b n. cond b (1 + n) 0) (not-not (q x) ∙ ap not (opposite x)) (same_run xs)

  all_pass : (xs : List X) → prefix_len (λ x. not (p x)) xs ≡ length xs → mask_l (map p xs) ≡ 0
  all_pass [] e = refl
  all_pass (x ∷ xs) e = none_fails (p x) _ (length xs) _ (prefix_len-le-length (λ y. not (p y)) xs) (omega arith)
      (all_pass xs)

  split : (d : List X) (i n : ℕ) → prefix_len q (drop i d) ≡ cond
      (eqb (prefix_len q (chunk i n d)) (length (chunk i n d))) (length (chunk i n d) + prefix_len q (drop (i + n) d))
      (prefix_len q (chunk i n d))
  split d i n = ap (prefix_len q) (chunk-drop i n d) ∙ prefix_len-append q (chunk i n d) (drop (i + n) d)

  -- If no byte of a chunk fails a test, the sequence of passing bytes continues after the chunk.
  pub run_through : (d : List X) (i n : ℕ) → i + n ≤ length d → mask_l (map p (chunk i n d)) ≡ 0
      → prefix_len q (drop i d) ≡ n + prefix_len q (drop (i + n) d)
  run_through d i n room none =
      let c = chunk i n d in
      split d i n ∙ ap (λ b. cond b (length c + prefix_len q (drop (i + n) d)) (prefix_len q c))
      (eq-eqb _ _ (same_run c ∙ leading_from_mask_l p c none))
      ∙ ap (λ k. k + prefix_len q (drop (i + n) d)) (length-chunk i n d room)

  -- A mask has a set bit for each byte of a chunk that fails a test. Its lowest set bit is at the first byte that fails.
  pub run_stops : (d : List X) (i n : ℕ) → i + n ≤ length d → n ≤ 64 → 0 < mask_l (map p (chunk i n d))
      → prefix_len q (drop i d) ≡ count_trailing_zeros 64 (mask_l (map p (chunk i n d)))
  run_stops d i n room short some =
      let c = chunk i n d in
      split d i n ∙ ap (λ b. cond b (length c + prefix_len q (drop (i + n) d)) (prefix_len q c))
      (ne_eqb _ _ (λ (e : prefix_len q c ≡ length c). omega (arith, all_pass c (sym (same_run c) ∙ e))))
      ∙ same_run c ∙ sym (trailing_mask_l p 64 c (omega (arith, length-chunk i n d room)) some)

  -- If the mask of a chunk isn't 0, its lowest set bit is within the chunk.
  pub stops_within : (d : List X) (i n : ℕ) → i + n ≤ length d → n ≤ 64 → 0 < mask_l (map p (chunk i n d))
      → count_trailing_zeros 64 (mask_l (map p (chunk i n d))) < n
  stops_within d i n room short some =
      let c = chunk i n d in
      let long = length-chunk i n d room in
      let at = prefix_len (λ x. not (p x)) c in
      let bit = trailing_mask_l p 64 c (omega (arith, long)) some in
      let other : at ≡ length c → ⊥ = λ e. omega (arith, all_pass c e) in
      omega (arith, bit, long, other, prefix_len-le-length (λ x. not (p x)) c)
