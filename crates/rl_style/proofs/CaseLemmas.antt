-- Properties of digits and letters that a change of case keeps.
use Rattle.rl_syntax.proofs.Common.{◌≡◌, ℕ, ◌+◌, ◌-◌, ◌<◌, ◌≤◌, ◌&&◌, Bool, true, false, ◌==◌, cond, nat_le, List, [], ◌∷◌, ◌++◌, Some, None, length, map, refl, sym, ap, ◌∙◌, inl, inr, arith, eqb-true, cases_lt, agree_below_at, digit_value, and_from, and_parts, scalar, encode_utf8, encode_utf8_all, encodes-append, append-nil, append_assoc, map-append}
use Rattle.std.specs.Prelude.{Option}
use Rattle.std.proofs.Math.Utf8.{scalars}
use Rattle.std.proofs.lemmas.Bool.{lt-leb}
use Rattle.rl_syntax.specs.Spelling.{place_value}
use Rattle.rl_style.specs.declared.style.Case.{Case}
use Rattle.rl_style.specs.declared.style.Case.TheVariants.{Lower, Upper}
use Rattle.rl_style.specs.Cases.{cased, lower_case, upper_case}

-- ---- a change of case doesn't change non-ASCII characters

pub none_right : (b : Bool) → (b && false) ≡ false
none_right true = refl
none_right false = refl

outside : (lo hi c : ℕ) → hi < c → (nat_le lo c && nat_le c hi) ≡ false
outside lo hi c h = ap (λ b. nat_le lo c && b) (lt-leb c hi h) ∙ none_right (nat_le lo c)

pub cased_past : (case : Option Case) (c : ℕ) → 128 ≤ c → cased case c ≡ c
cased_past None c h = refl
cased_past (Some Upper) c h = ap (λ b. cond b (c - 32) c) (outside 97 102 c (omega arith))
cased_past (Some Lower) c h = ap (λ b. cond b (c + 32) c) (outside 65 70 c (omega arith))

-- ---- a hexadecimal digit has one value in lower and upper case

pub cased_value : (case : Option Case) (c : ℕ) → digit_value (cased case c) ≡ digit_value c
cased_value case c =
    elim (cases_lt c 128) [
      | inl a ↦ eqb-true _ _ (low case c a)
      | inr a ↦ ap digit_value (cased_past case c a)
    ]
  where
    low : (case : Option Case) (c : ℕ) → c < 128 → (digit_value (cased case c) == digit_value c) ≡ true
    low None c a = agree_below_at (λ c. digit_value c == digit_value c) (λ c. true) 128 c refl a
    low (Some Upper) c a = agree_below_at (λ c. digit_value (upper_case c) == digit_value c) (λ c. true) 128 c refl a
    low (Some Lower) c a = agree_below_at (λ c. digit_value (lower_case c) == digit_value c) (λ c. true) 128 c refl a

-- A change of case doesn't change underscores.
pub cased_underscore : (case : Option Case) (c : ℕ) → (cased case c == 95) ≡ (c == 95)
cased_underscore case c =
    elim (cases_lt c 128) [
      | inl a ↦ low case c a
      | inr a ↦ ap (λ z. z == 95) (cased_past case c a)
    ]
  where
    low : (case : Option Case) (c : ℕ) → c < 128 → (cased case c == 95) ≡ (c == 95)
    low None c a = refl
    low (Some Upper) c a = agree_below_at (λ c. upper_case c == 95) (λ c. c == 95) 128 c refl a
    low (Some Lower) c a = agree_below_at (λ c. lower_case c == 95) (λ c. c == 95) 128 c refl a

-- ---- after a change of case, a sequence of digits is still a sequence of digits

-- ---- after a change of case, digits represent the old number

length_cased : (case : Option Case) (cs : List ℕ) → length (map (cased case) cs) ≡ length cs
length_cased case [] = refl
length_cased case (c ∷ cs) = let ih = length_cased case cs in omega (arith, ih)

pub spelled_cased : (case : Option Case) (base : ℕ) (ds : List ℕ) → place_value base (map (cased case) ds)
    ≡ place_value base ds
spelled_cased case base [] = refl
spelled_cased case base (d ∷ ds) = rw (cased_value case d, length_cased case ds, spelled_cased case base ds) refl

-- ---- a second change to one case changes nothing

pub twice_cased : (case : Option Case) (c : ℕ) → cased case (cased case c) ≡ cased case c
twice_cased case c =
    elim (cases_lt c 128) [
      | inl a ↦ eqb-true _ _ (low case c a)
      | inr a ↦ ap (cased case) (cased_past case c a)
    ]
  where
    low : (case : Option Case) (c : ℕ) → c < 128 → (cased case (cased case c) == cased case c) ≡ true
    low None c a = agree_below_at (λ c. c == c) (λ c. true) 128 c refl a
    low (Some Upper) c a = agree_below_at (λ c. upper_case (upper_case c) == upper_case c) (λ c. true) 128 c refl a
    low (Some Lower) c a = agree_below_at (λ c. lower_case (lower_case c) == lower_case c) (λ c. true) 128 c refl a

-- ---- the text that the code writes in lower or upper case

pub cased_scalar : (case : Option Case) (c : ℕ) → scalar c ≡ true → scalar (cased case c) ≡ true
cased_scalar case c h =
    elim (cases_lt c 128) [
      | inl a ↦ low case c a
      | inr a ↦ ap scalar (cased_past case c a) ∙ h
    ]
  where
    low : (case : Option Case) (c : ℕ) → c < 128 → scalar (cased case c) ≡ true
    low None c a = agree_below_at (λ c. scalar c) (λ c. true) 128 c refl a
    low (Some Upper) c a = agree_below_at (λ c. scalar (upper_case c)) (λ c. true) 128 c refl a
    low (Some Lower) c a = agree_below_at (λ c. scalar (lower_case c)) (λ c. true) 128 c refl a

pub scalars_cased : (case : Option Case) (cs : List ℕ) → scalars cs ≡ true → scalars (map (cased case) cs) ≡ true
scalars_cased case [] h = refl
scalars_cased case (c ∷ cs) h =
    let p = and_parts (scalar c) (scalars cs) h in
    and_from (scalar (cased case c)) (scalars (map (cased case) cs)) (cased_scalar case c p.0)
    (scalars_cased case cs p.1)

-- The code has written the characters `xs` in the given case. If it then writes the character `c` in this case, it has
-- written `xs` and `c` in this case.
pub cased_more : (case : Option Case) (p a b xs : List ℕ) (c : ℕ) → a ≡ p ++ encode_utf8_all (map (cased case) xs) → b
    ≡ a ++ encode_utf8 (cased case c) → b ≡ p ++ encode_utf8_all (map (cased case) (xs ++ (c ∷ [])))
cased_more case p a b xs c e h =
    let all : List ℕ = encode_utf8_all (map (cased case) xs) in
    let one : List ℕ = encode_utf8 (cased case c) in
    h ∙ ap (λ z. z ++ one) e ∙ append_assoc p all one
    ∙ ap (λ z. p ++ z) (ap (λ z. all ++ z) (sym (append-nil one))
    ∙ sym (encodes-append (map (cased case) xs) (cased case c ∷ []))
    ∙ ap encode_utf8_all (sym (map-append (cased case) xs (c ∷ []))))
