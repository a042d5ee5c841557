-- The code's table of the escapes of a backslash and one ASCII character has the values of the definitions.
use Rattle.rl_syntax.proofs.Common.{◌≡◌, ◌∙◌, ◌||◌, ◌<◌, ℕ, true, cond, eqb, ltb, List, [], ◌∷◌, Option, Some, None, refl, sym, ap, subst, inl, inr, eqb-true, ltb-true, option_and_then}
use Rattle.rl_lenient.proofs.Names.{Kind}
use Rattle.std.proofs.Math.ListN.{get_or}
use Rattle.std.proofs.lemmas.Bool.{agree_below_at, or_cases}
use Rattle.std.proofs.lemmas.Grind.{get_or_default_zero}
use Rattle.rl_syntax.specs.Quoted.{allows_code}
use Rattle.rl_lenient.specs.Mirrors.UnitAt.{named_in, named_of}

abbrev pub named_table : List ℕ
named_table =
    255 ∷ 255 ∷ 255 ∷ 255 ∷ 255 ∷ 255 ∷ 255 ∷ 255 ∷ 255 ∷ 255 ∷ 255 ∷ 255 ∷ 255 ∷ 255 ∷ 255 ∷ 255 ∷
    255 ∷ 255 ∷ 255 ∷ 255 ∷ 255 ∷ 255 ∷ 255 ∷ 255 ∷ 255 ∷ 255 ∷ 255 ∷ 255 ∷ 255 ∷ 255 ∷ 255 ∷ 255 ∷
    255 ∷ 255 ∷ 34 ∷ 255 ∷ 255 ∷ 255 ∷ 255 ∷ 39 ∷ 255 ∷ 255 ∷ 255 ∷ 255 ∷ 255 ∷ 255 ∷ 255 ∷ 255 ∷
    0 ∷ 255 ∷ 255 ∷ 255 ∷ 255 ∷ 255 ∷ 255 ∷ 255 ∷ 255 ∷ 255 ∷ 255 ∷ 255 ∷ 255 ∷ 255 ∷ 255 ∷ 255 ∷
    255 ∷ 255 ∷ 255 ∷ 255 ∷ 255 ∷ 255 ∷ 255 ∷ 255 ∷ 255 ∷ 255 ∷ 255 ∷ 255 ∷ 255 ∷ 255 ∷ 255 ∷ 255 ∷
    255 ∷ 255 ∷ 255 ∷ 255 ∷ 255 ∷ 255 ∷ 255 ∷ 255 ∷ 255 ∷ 255 ∷ 255 ∷ 255 ∷ 92 ∷ 255 ∷ 255 ∷ 255 ∷
    255 ∷ 255 ∷ 255 ∷ 255 ∷ 255 ∷ 255 ∷ 255 ∷ 255 ∷ 255 ∷ 255 ∷ 255 ∷ 255 ∷ 255 ∷ 255 ∷ 10 ∷ 255 ∷
    255 ∷ 255 ∷ 13 ∷ 255 ∷ 9 ∷ 255 ∷ 255 ∷ 255 ∷ 255 ∷ 255 ∷ 255 ∷ 255 ∷ 255 ∷ 255 ∷ 255 ∷ 255 ∷
    []

abbrev code_of : Option ℕ → ℕ
code_of None = 255
code_of (Some n) = n

at_place : (c d : ℕ) → c < 128 → get_or named_table c d ≡ code_of (named_of c)
at_place c d low = get_or_default_zero named_table c d low ∙ eqb-true (get_or named_table c 0) (code_of (named_of c))
    (agree_below_at (λ i. eqb (get_or named_table i 0) (code_of (named_of i))) (λ i. true) 128 c refl low)

pub named_some : (kind : Kind) (c d : ℕ) → c < 128 → (get_or named_table c d ≡ 255 → ⊥)
    → allows_code kind (get_or named_table c d) ≡ true → Some (get_or named_table c d) ≡ named_in kind c
named_some kind c d low some allowed = go (named_of c) (at_place c d low)
  where
    go : (o : Option ℕ) → get_or named_table c d ≡ code_of o → Some (get_or named_table c d)
        ≡ option_and_then (λ n. cond (allows_code kind n) (Some n) None) o
    go None e = absurd (some e)
    go (Some n) e = ap Some e ∙ sym (ap (λ b. cond b (Some n) None) (ap (allows_code kind) (sym e) ∙ allowed))

pub named_ascii : (c d : ℕ) → c < 128 → (get_or named_table c d ≡ 255 → ⊥) → get_or named_table c d < 128
named_ascii c d low some =
    let at = get_or_default_zero named_table c d low in
    let small = agree_below_at (λ i. ltb (get_or named_table i 0) 128 || eqb (get_or named_table i 0) 255) (λ i. true)
    128 c refl low in
    elim (or_cases (ltb (get_or named_table c 0) 128) (eqb (get_or named_table c 0) 255) small) [
      | inl a ↦ subst (λ z. z < 128) (sym at) (ltb-true (get_or named_table c 0) 128 a)
      | inr a ↦ absurd (some (at ∙ eqb-true (get_or named_table c 0) 255 a))
    ]
