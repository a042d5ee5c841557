-- The sign of an integer, which only its first character decides.
use Rattle.std.proofs.Common.{◌≡◌, ◌↔◌, ℕ, true, false, List, [], ◌∷◌, ◌++◌, refl, sym, ap, subst, ◌∙◌, IsTrue, nat_eq, rules, tests}
use Rattle.std.proofs.lemmas.Bool.{false≢true}
use Prim.Native.Char.{code}
use Rattle.std.specs.Char.{is_ascii_digit}
use Rattle.rl_syntax.specs.Texts.{begins_char, first_passes}
use Rattle.rl_syntax.specs.Numbers.{Sign, NoSign, Minus, IntReads, Base, Binary, Octal, Decimal, Hexadecimal, IsAfterPrefix, prefix}

digit_is_no_minus : (d : ℕ) → is_ascii_digit d ≡ true → nat_eq d 45 ≡ false
digit_is_no_minus d h = search (rules, tests)

no_unsigned : (b : Base) (ds x t : List ℕ) → IsAfterPrefix b (ds ++ x)
    → begins_char (code "-") t ≡ true → t ≡ prefix b ++ (ds ++ x) → ⊥
no_unsigned Binary ds x t f h e = false≢true (sym (ap (begins_char (code "-")) e) ∙ h)
no_unsigned Octal ds x t f h e = false≢true (sym (ap (begins_char (code "-")) e) ∙ h)
no_unsigned Hexadecimal ds x t f h e = false≢true (sym (ap (begins_char (code "-")) e) ∙ h)
no_unsigned Decimal ds x (c ∷ cs) f h e =
    let d : first_passes is_ascii_digit (c ∷ cs) ≡ true =
    subst (λ (y : List ℕ). first_passes is_ascii_digit y ≡ true) (sym e) f.0 in
    false≢true (sym (digit_is_no_minus c d) ∙ h)
no_unsigned Decimal ds x [] f h e = false≢true h

pub minus_tells_the_sign : (t : List ℕ) (s : Sign) (m : ℕ) (x : List ℕ) → IntReads t s m x
    → (s ≡ Minus) ↔ IsTrue (begins_char (code "-") t)
minus_tells_the_sign t Minus m x r = (λ _. ap (begins_char (code "-")) r.text_is, λ _. refl)
minus_tells_the_sign t NoSign m x r =
    (λ e. absurd cc, λ h. absurd (no_unsigned r.base r.digits x t r.front h r.text_is))
