-- The bytes of a character: an ASCII character is one byte, its own code. All bytes of other characters are non-ASCII.
use Rattle.rl_syntax.proofs.Common.{◌≡◌, ℕ, suc, ◌<◌, ◌≤◌, ◌⊎◌, false, ◌==◌, List, [], ◌∷◌, ◌++◌, length, get_or, refl, ap, arith, nat_tests, AllByRecursion, encode_utf8_all, encode_ascii, length-encode, len_utf8_bounds}
use Rattle.std.specs.Char.{encode_utf8}
use Rattle.std.proofs.lemmas.Str.{inside_one}
use Rattle.rl_syntax.proofs.Basics.{false_unless}

abbrev pub AllHigh : List ℕ → Type 0
AllHigh xs = AllByRecursion (λ b. 128 ≤ b) xs

all_high : (xs : List ℕ) → ((k : ℕ) → k < length xs → 128 ≤ get_or xs k 0) → AllHigh xs
all_high [] h = tt
all_high (x ∷ xs) h = (h 0 (omega arith), all_high xs (λ k l. h (suc k) (omega arith)))

nil_tail : (xs : List ℕ) → xs ≡ xs ++ []
nil_tail [] = refl
nil_tail (x ∷ xs) = ap (λ t. x ∷ t) (nil_tail xs)

pub encode_high : (c : ℕ) → 128 ≤ c → AllHigh (encode_utf8 c)
encode_high c high = all_high (encode_utf8 c) (λ k l. not_low c k l high)
  where
    at_least : (n : ℕ) → (n < 128 → ⊥) → 128 ≤ n
    at_least n h = omega (arith, h)

    not_low : (c k : ℕ) → k < length (encode_utf8 c) → 128 ≤ c → 128 ≤ get_or (encode_utf8 c) k 0
    not_low c k l high = at_least (get_or (encode_utf8 c) k 0)
        (λ low. let e : c ≡ get_or (encode_utf8 c) k 0 = inside_one c [] (encode_utf8 c) k (nil_tail (encode_utf8 c)) l
        low in absurd (omega arith))

high_head : (xs : List ℕ) → 0 < length xs → AllHigh xs → (h : ℕ) × (hs : List ℕ) × (xs ≡ h ∷ hs) × (128 ≤ h)
    × AllHigh hs
high_head [] l is = absurd (omega arith)
high_head (x ∷ xs) l (is, more) = (x, xs, refl, is, more)

-- A non-ASCII character has at least one byte, and all its bytes are non-ASCII.
pub encode_is_high : (c : ℕ) → 128 ≤ c → (h : ℕ) × (hs : List ℕ) × (encode_utf8 c ≡ h ∷ hs) × (128 ≤ h) × AllHigh hs
encode_is_high c high = high_head (encode_utf8 c) (omega (arith, length-encode c, len_utf8_bounds c))
    (encode_high c high)

pub cases128 : (c : ℕ) → (c < 128) ⊎ (128 ≤ c)
cases128 c = grind arith

pub low_front : (c : ℕ) (cs : List ℕ) → c < 128 → encode_utf8_all (c ∷ cs) ≡ c ∷ encode_utf8_all cs
low_front c cs low = ap (λ x. x ++ encode_utf8_all cs) (encode_ascii c low)

-- A non-ASCII byte or character differs from each ASCII character.
pub not_equal : (c k : ℕ) → k < 128 → 128 ≤ c → (c == k) ≡ false
not_equal c k l h = false_unless (c == k) (λ e. let q : c ≡ k = grind (arith, nat_tests) in omega arith)
