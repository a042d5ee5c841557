-- Vectors of sixteen bytes and their masks, from which the bytes are found at which a literal or a comment may begin.
use Rattle.rl_syntax.proofs.Common.{◌≡◌, ℕ, zero, suc, ◌+◌, ◌-◌, ◌%◌, ◌^◌, ◌<◌, ◌≤◌, ◌==◌, nat_le, ◌||◌, ◌&&◌, Bool, true, false, not, cond, eqb, List, [], ◌∷◌, map, length, take, drop, refl, sym, ap, ap₂, ◌∙◌, arith, lit<, agree_below, agree_below_at, and_parts, eqb-true, nat_tests, map-map, chunk, is_ascii_digit, mask_l, top, get_or, length-chunk, ⊤}
use Rattle.std.proofs.Common.{Fits, w8}
use Rattle.std.specs.Bool.{beq}
use Rattle.std.proofs.lemmas.List.{drop-drop, drop-take, take-take}
use Rattle.std.proofs.lemmas.Simd.{get_or-chunk}
use Rattle.rl_syntax.proofs.LaneLemmas.{lane, masked, not-not}
use Rattle.rl_syntax.specs.Mirrors.RunsAt.{has_bit, is_ascii_id_continue}
use Rattle.rl_syntax.specs.Mirrors.UnlikelyAt.{around, is_likely_mark, is_likely_head, may_begin_at, last_of, byte_before}

-- ---- each byte with the byte before it and the next byte

befores_taken : (n p : ℕ) (bs : List ℕ) → n ≤ length bs → map (λ x. x.0) (take n (around p bs)) ≡ take n (p ∷ bs)
befores_taken zero p bs h = refl
befores_taken (suc n) p [] h = absurd (omega arith)
befores_taken (suc n) p (c ∷ cs) h = ap (λ z. p ∷ z) (befores_taken n c cs (omega arith))

befores : (j n p : ℕ) (bs : List ℕ) → suc j + n ≤ length bs → map (λ x. x.0) (chunk (suc j) n (around p bs))
    ≡ chunk j n bs
befores j n p [] h = absurd (omega arith)
befores zero n p (b ∷ bs) h = befores_taken n b bs (omega arith)
befores (suc j) n p (b ∷ bs) h = befores j n b bs (omega arith)

heres_taken : (n p : ℕ) (bs : List ℕ) → map (λ x. x.1) (take n (around p bs)) ≡ take n bs
heres_taken zero p bs = refl
heres_taken (suc n) p [] = refl
heres_taken (suc n) p (b ∷ bs) = ap (λ z. b ∷ z) (heres_taken n b bs)

heres : (i n p : ℕ) (bs : List ℕ) → map (λ x. x.1) (chunk i n (around p bs)) ≡ chunk i n bs
heres zero n p bs = heres_taken n p bs
heres (suc i) n p [] = heres_taken n p []
heres (suc i) n p (b ∷ bs) = heres i n b bs

nexts_taken : (n p : ℕ) (bs : List ℕ) → n < length bs → map (λ x. x.2) (take n (around p bs)) ≡ take n (drop 1 bs)
nexts_taken zero p bs h = refl
nexts_taken (suc n) p [] h = absurd (omega arith)
nexts_taken (suc n) p (c ∷ []) h = absurd (omega arith)
nexts_taken (suc n) p (c ∷ d ∷ cs) h = ap (λ z. d ∷ z) (nexts_taken n c (d ∷ cs) (omega arith))

nexts : (i n p : ℕ) (bs : List ℕ) → i + n < length bs → map (λ x. x.2) (chunk i n (around p bs)) ≡ chunk (suc i) n bs
nexts zero n p bs h = nexts_taken n p bs (omega arith)
nexts (suc i) n p [] h = absurd (omega arith)
nexts (suc i) n p (b ∷ bs) h = nexts i n b bs (omega arith)

pub around-length : (p : ℕ) (bs : List ℕ) → length (around p bs) ≡ length bs
around-length p [] = refl
around-length p (b ∷ bs) = ap suc (around-length b bs)

-- If a part of a list begins at the offset `k` of the list, the part's chunk at the offset `j` is the list's chunk at the
-- offset `k + j`.
part_of : (j m r k n : ℕ) (bs : List ℕ) → m ≡ j + r → n ≤ r → chunk j n (take m (drop k bs)) ≡ chunk (k + j) n bs
part_of j m r k n bs is room =
    ap (λ z. take n (drop j (take z (drop k bs)))) is ∙ ap (take n) (drop-take j r (drop k bs))
    ∙ take-take n r (drop j (drop k bs)) room ∙ ap (take n) (drop-drop j k bs)

-- ---- vectors

abbrev pub AreLow : List ℕ → Type 0
AreLow v = (k : ℕ) → k < length v → get_or v k 0 < 256

-- If two functions agree on all bytes, they give equal vectors for equal bytes.
pub same_lanes : (f g : ℕ → ℕ) → agree_below (λ c. eqb (f c) (g c)) (λ _. true) 256 ≡ true → (v : List ℕ) → AreLow v
    → map f v ≡ map g v
same_lanes f g all [] low = refl
same_lanes f g all (x ∷ xs) low = ap₂ (λ a b. a ∷ b)
    (eqb-true (f x) (g x) (agree_below_at (λ c. eqb (f c) (g c)) (λ _. true) 256 x all (low 0 (omega arith))))
    (same_lanes f g all xs (λ k short. low (suc k) (omega arith)))

-- A vector of the test `g`, computed from a list of the values `part x`, is the vector of the test `g (part x)` for the
-- elements `x`.
pub lanes_of : {X : Type 0} (g : ℕ → Bool) (part : X → ℕ) (xs : List X) {v z : List ℕ} → map part xs ≡ v
    → z ≡ map (λ c. lane (g c)) v → z ≡ map (λ x. lane (g (part x))) xs
lanes_of g part xs is lanes = lanes ∙ ap (map (λ c. lane (g c))) (sym is) ∙ map-map (λ c. lane (g c)) part xs

-- ---- the condition on three bytes, from the vectors for the tests of each

abbrev AreBytes : List (ℕ × ℕ × ℕ) → Type 0
AreBytes [] = ⊤
AreBytes (x ∷ xs) = (x.1 < 256) × AreBytes xs

around_bytes : (p : ℕ) (bs : List ℕ) → ((k : ℕ) → Fits w8 (get_or bs k 0)) → AreBytes (around p bs)
around_bytes p [] fits = tt
around_bytes p (b ∷ bs) fits =
    let low : b < 256 = (fits 0).fits in
    (low, around_bytes b bs (λ k. fits (suc k)))

drop_bytes : (n : ℕ) (xs : List (ℕ × ℕ × ℕ)) → AreBytes xs → AreBytes (drop n xs)
drop_bytes zero xs h = h
drop_bytes (suc n) [] h = tt
drop_bytes (suc n) (x ∷ xs) h = drop_bytes n xs h.1

take_bytes : (n : ℕ) (xs : List (ℕ × ℕ × ℕ)) → AreBytes xs → AreBytes (take n xs)
take_bytes zero xs h = tt
take_bytes (suc n) [] h = tt
take_bytes (suc n) (x ∷ xs) h = (h.0, take_bytes n xs h.1)

abbrev for_all : (Bool → Bool) → Bool
for_all f = f true && f false

at_each : (f : Bool → Bool) → for_all f ≡ true → (b : Bool) → f b ≡ true
at_each f all true = (and_parts (f true) (f false) all).0
at_each f all false = (and_parts (f true) (f false) all).1

-- Whether the byte after the character `c` may follow `c` at the start of a literal, of `true` or of `false`. The other
-- arguments are tests of that byte: it is a quote, an apostrophe, `r`, `#` or `a`.
abbrev pub goes_on : ℕ → Bool → Bool → Bool → Bool → Bool → Bool
goes_on c q t r h a =
    cond (c == 98) (q || t || r) (cond (c == 99) (q || r) (cond (c == 114) (q || h) (cond (c == 116) r
    (cond (c == 102) a true))))

-- Whether a literal or a comment may begin at a byte, as the code computes it with vectors.
abbrev pub by_lanes : ℕ → Bool → Bool → Bool → Bool → Bool → Bool → Bool
by_lanes c w q t r h a =
    is_likely_mark c || (w && ((((is_ascii_digit c || (c == 98 && ((q || r) || t))) || (c == 99 && (q || r)))
    || (c == 114 && (q || h))) || ((c == 116 && r) || (c == 102 && a))))

abbrev by_definition : ℕ → Bool → Bool → Bool → Bool → Bool → Bool → Bool
by_definition c w q t r h a = (is_likely_mark c || (w && is_likely_head c)) && goes_on c q t r h a

agree_at : (c : ℕ) → c < 256 → (w q t r h a : Bool) → by_lanes c w q t r h a ≡ by_definition c w q t r h a
agree_at c low w q t r h a =
    let all = agree_below_at (λ c. for_all (λ w. for_all (λ q. for_all (λ t. for_all (λ r. for_all (λ h. for_all (λ a.
    beq (by_lanes c w q t r h a) (by_definition c w q t r h a)))))))) (λ _. true) 256 c refl low in
    let w_all = at_each (λ w. for_all (λ q. for_all (λ t. for_all (λ r. for_all (λ h. for_all (λ a.
    beq (by_lanes c w q t r h a) (by_definition c w q t r h a))))))) all w in
    let q_all = at_each (λ q. for_all (λ t. for_all (λ r. for_all (λ h. for_all (λ a.
    beq (by_lanes c w q t r h a) (by_definition c w q t r h a)))))) w_all q in
    let t_all = at_each (λ t. for_all (λ r. for_all (λ h. for_all (λ a.
    beq (by_lanes c w q t r h a) (by_definition c w q t r h a))))) q_all t in
    let r_all = at_each (λ r. for_all (λ h. for_all (λ a.
    beq (by_lanes c w q t r h a) (by_definition c w q t r h a)))) t_all r in
    let h_all = at_each (λ h. for_all (λ a. beq (by_lanes c w q t r h a) (by_definition c w q t r h a))) r_all h in
    let a_all = at_each (λ a. beq (by_lanes c w q t r h a) (by_definition c w q t r h a)) h_all a in
    same_Bool (by_lanes c w q t r h a) (by_definition c w q t r h a) a_all
  where
    same_Bool : (x y : Bool) → beq x y ≡ true → x ≡ y
    same_Bool true true e = refl
    same_Bool true false e = absurd (cc)
    same_Bool false true e = absurd (cc)
    same_Bool false false e = refl

-- Whether a literal or a comment may begin at a byte, from the byte before it, the byte itself, and the byte after it.
abbrev pub by_bytes : ℕ × ℕ × ℕ → Bool
by_bytes x = by_lanes x.1 (not (is_ascii_id_continue x.0)) (x.2 == 34) (x.2 == 39) (x.2 == 114) (x.2 == 35) (x.2 == 97)

same_places : (xs : List (ℕ × ℕ × ℕ)) → AreBytes xs → map by_bytes xs ≡ map may_begin_at xs
same_places [] h = refl
same_places (x ∷ xs) h = ap₂ (λ a b. a ∷ b) (agree_at x.1 h.0 (not (is_ascii_id_continue x.0)) (x.2 == 34) (x.2 == 39)
    (x.2 == 114) (x.2 == 35) (x.2 == 97) ∙ not-not (by_definition x.1 (not (is_ascii_id_continue x.0)) (x.2 == 34) (x.2 == 39)
    (x.2 == 114) (x.2 == 35) (x.2 == 97))) (same_places xs h.1)

-- ---- the mask

abbrev pub three : ℕ → List ℕ → List (ℕ × ℕ × ℕ)
three at bs = chunk at 16 (around 0 bs)

abbrev pub near : ℕ → List ℕ → List ℕ
near at bs = take (at + 16 + 1 - (at - 1)) (drop (at - 1) bs)

near_is : (j at : ℕ) (bs : List ℕ) → 0 < at → j < 3 → chunk j 16 (near at bs) ≡ chunk (at - 1 + j) 16 bs
near_is j at bs some few = part_of j (at + 16 + 1 - (at - 1)) (18 - j) (at - 1) 16 bs (omega arith) (omega arith)

pub near-length : (j at : ℕ) (bs : List ℕ) → 0 < at → j < 3 → at + 16 < length bs
    → length (chunk j 16 (near at bs)) ≡ 16
near-length j at bs some few room = ap length (near_is j at bs some few) ∙ length-chunk (at - 1 + j) 16 bs (omega arith)

pub near_low : (j at : ℕ) (bs : List ℕ) → 0 < at → j < 3 → at + 16 < length bs
    → ((k : ℕ) → Fits w8 (get_or bs k 0)) → AreLow (chunk j 16 (near at bs))
near_low j at bs some few room fits k short =
    let long = near-length j at bs some few room in
    let here = ap (λ v. get_or v k 0) (near_is j at bs some few) ∙ get_or-chunk (at - 1 + j) 16 bs k 0
    (omega (arith, short, long)) in
    omega (arith, here, (fits (at - 1 + j + k)).fits)

pub before_is : (at : ℕ) (bs : List ℕ) → 0 < at → at + 16 < length bs → map (λ x. x.0) (three at bs)
    ≡ chunk 0 16 (near at bs)
before_is at bs some room =
    let place : suc (at - 1) ≡ at = omega arith in
    let same : at - 1 + 0 ≡ at - 1 = omega arith in
    ap (λ i. map (λ x. x.0) (chunk i 16 (around 0 bs))) (sym place) ∙ befores (at - 1) 16 0 bs (omega arith)
    ∙ ap (λ i. chunk i 16 bs) (sym same) ∙ sym (near_is 0 at bs some (lit< tt))

pub here_is : (at : ℕ) (bs : List ℕ) → 0 < at → map (λ x. x.1) (three at bs) ≡ chunk 1 16 (near at bs)
here_is at bs some =
    let same : at - 1 + 1 ≡ at = omega arith in
    heres at 16 0 bs ∙ ap (λ i. chunk i 16 bs) (sym same) ∙ sym (near_is 1 at bs some (lit< tt))

pub next_bytes_are : (at : ℕ) (bs : List ℕ) → 0 < at → at + 16 < length bs → map (λ x. x.2) (three at bs)
    ≡ chunk 2 16 (near at bs)
next_bytes_are at bs some room =
    let same : at - 1 + 2 ≡ suc at = omega arith in
    nexts at 16 0 bs room ∙ ap (λ i. chunk i 16 bs) (sym same) ∙ sym (near_is 2 at bs some (lit< tt))

pub likely_mask : (at : ℕ) (bs : List ℕ) → at + 16 < length bs → ((k : ℕ) → Fits w8 (get_or bs k 0)) → {z : List ℕ}
    → z ≡ map (λ x. lane (by_bytes x)) (three at bs)
    → mask_l (map (top 7) z) % 2 ^ 64 ≡ mask_l (map may_begin_at (three at bs))
likely_mask at bs room fits lanes =
    let long = length-chunk at 16 (around 0 bs) (omega (arith, room, around-length 0 bs)) in
    masked by_bytes (three at bs) (omega (arith, long)) lanes
    ∙ ap mask_l (same_places (three at bs) (take_bytes 16 (drop at (around 0 bs))
    (drop_bytes at (around 0 bs) (around_bytes 0 bs fits))))

-- ---- masks for the test of one byte

-- For a byte `c` below 64, bit number `c` of 288090205599039488 is set exactly if a literal or a comment may begin at the
-- byte `c`.
pub likely_low : (c : ℕ) → c < 64 → has_bit 288090205599039488 c ≡ (is_likely_mark c || is_likely_head c)
likely_low c low = agree_below_at (has_bit 288090205599039488) (λ k. is_likely_mark k || is_likely_head k) 64 c refl low

pub likely_ascii : (c : ℕ) → 64 ≤ c → c < 128 → has_bit 5629825951727616 (c - 64)
    ≡ (is_likely_mark c || is_likely_head c)
likely_ascii c h low =
    let e : 64 + (c - 64) ≡ c = omega arith in
    agree_below_at (has_bit 5629825951727616) (λ k. is_likely_mark (64 + k) || is_likely_head (64 + k)) 64 (c - 64) refl
    (omega arith) ∙ ap (λ k. is_likely_mark k || is_likely_head k) e

past : (c : ℕ) → 128 ≤ c → nat_le 128 c ≡ true
past c h = grind (arith, nat_tests)

last_true : (q a s h : Bool) → ((q || a || s || true) || h) ≡ true
last_true true a s h = refl
last_true false true s h = refl
last_true false false true h = refl
last_true false false false h = refl

pub likely_past : (c : ℕ) → 128 ≤ c → true ≡ (is_likely_mark c || is_likely_head c)
likely_past c h = sym (ap (λ b. (c == 34 || c == 39 || c == 47 || b) || is_likely_head c) (past c h)
    ∙ last_true (c == 34) (c == 39) (c == 47) (is_likely_head c))

pub last_taken : (p n : ℕ) (bs : List ℕ) → n < length bs → last_of p (take (suc n) bs) ≡ get_or bs n 0
last_taken p n [] h = absurd (omega arith)
last_taken p zero (b ∷ bs) h = refl
last_taken p (suc n) (b ∷ bs) h = last_taken b n bs (omega arith)

pub byte_before-inside : (bs : List ℕ) (n : ℕ) → 0 < n → n ≤ length bs → get_or bs (n - 1) 0 ≡ byte_before bs n
byte_before-inside bs n some within =
    let e : suc (n - 1) ≡ n = omega arith in
    sym (last_taken 0 (n - 1) bs (omega arith)) ∙ ap (λ k. last_of 0 (take k bs)) e
