-- The type of a literal according to its parse result.
use Rattle.rl_syntax.proofs.Common.{◌≡◌, ℕ, ◌^◌, ◌-◌, ◌<◌, ◌++◌, ◌∙◌, Bool, List, Option, Some, None, IfNone, refl, sym, ap, arith, rules, subst, inl, inr, length, take, chars, chars-IsAscii, chars-append, chars-nil, IsUtf8, AllByRecursion, length-append, take-append_seam}
use Rattle.rl_lenient.proofs.Names.{Kind, Float}
use Rattle.std.proofs.ByRecursion.{IsAscii-from_all}
use Rattle.rl_flaws.specs.FloatRange.{IsAtLeast, numeral_of}
use Rattle.rl_flaws.specs.NumberTypes.{greatest_of, infinite_from, number_name}
use Rattle.rl_flaws.specs.TypeErrors.{HasType, IsFinite, IsInfinite, IsInRange, IsTypeOfFloat}
use Rattle.rl_syntax.specs.declared.integer_type.IntegerType.TheVariants.{U8, U16, U32, U64, U128, Usize, I8, I16, I32, I64, I128, Isize}
use Rattle.rl_flaws.specs.declared.number_types.NumberType.{NumberType}
use Rattle.rl_flaws.specs.declared.number_types.NumberType.TheVariants.{Integer, F32, F64}
use Rattle.rl_flaws.specs.declared.type_errors.TypeError.{TypeError}

pub same_typed : (k l : Kind) (text : List ℕ) (magnitude : ℕ) (negated : Bool) (a b : List ℕ) (o : Option TypeError) → k
    ≡ l
    → a ≡ b → IfNone o (HasType k text magnitude negated a) → IfNone o (HasType l text magnitude negated b)
same_typed k l text magnitude negated a b o e f h =
    subst (λ z. IfNone o (HasType l text magnitude negated z)) f
    (subst (λ z. IfNone o (HasType z text magnitude negated a)) e h)

-- The type of a float doesn't depend on the magnitude in its parse result.
pub float_typed : (text : List ℕ) (magnitude : ℕ) (negated : Bool) (suffix : List ℕ) (o : Option TypeError)
    → IfNone o (HasType Float text 0 negated suffix) → IfNone o (HasType Float text magnitude negated suffix)
float_typed text magnitude negated suffix (Some error) h = tt
float_typed text magnitude negated suffix None (inl h) = inl h
float_typed text magnitude negated suffix None (inr (inl h)) = inr (inl h)
float_typed text magnitude negated suffix None (inr (inr (t, inl h))) = absurd (let e = h.0 in cc)
float_typed text magnitude negated suffix None (inr (inr (t, inr h))) = inr (inr (t, inr h))

-- An integer below 2^128 is in the range of a float type. The only exception is the type `f32`, if the integer rounds to
-- infinity in it.
pub in_floats : (t : NumberType) (n : Bool) (m : ℕ) → greatest_of t n ≡ None → (t ≡ F32 → m < 2 ^ 128 - 2 ^ 103)
    → m < 2 ^ 128 → IsInRange t m n
in_floats (Integer t) n m none less fits = absurd (let e = none in cc)
in_floats F32 n m none less fits = inr (2 ^ 128 - 2 ^ 103, refl, less refl)
in_floats F64 n m none less fits = inr (2 ^ 1024 - 2 ^ 970, refl, omega (arith, fits))

-- ---- the text of a float before its suffix

name_ascii : (t : NumberType) → chars (number_name t) ≡ number_name t
name_ascii t = chars-IsAscii (number_name t) (IsAscii-from_all (number_name t) (low t))
  where
    low : (u : NumberType) → AllByRecursion (λ b. b < 128) (number_name u)
    low (Integer U8) = search (rules, arith)
    low (Integer U16) = search (rules, arith)
    low (Integer U32) = search (rules, arith)
    low (Integer U64) = search (rules, arith)
    low (Integer U128) = search (rules, arith)
    low (Integer Usize) = search (rules, arith)
    low (Integer I8) = search (rules, arith)
    low (Integer I16) = search (rules, arith)
    low (Integer I32) = search (rules, arith)
    low (Integer I64) = search (rules, arith)
    low (Integer I128) = search (rules, arith)
    low (Integer Isize) = search (rules, arith)
    low F32 = search (rules, arith)
    low F64 = search (rules, arith)

suffix_ascii : (s : List ℕ) (t : NumberType) → IsTypeOfFloat s t → chars s ≡ s
suffix_ascii s t (inl named) = ap chars named ∙ name_ascii t ∙ sym named
suffix_ascii s t (inr none) = ap chars none.0 ∙ chars-nil ∙ sym none.0

pub cut_numeral : (text numeral suffix : List ℕ) (t : NumberType) → text ≡ numeral ++ suffix → IsUtf8 numeral
    → IsTypeOfFloat suffix t → numeral_of (chars text) suffix ≡ chars numeral
cut_numeral text numeral suffix t cut utf8 typed =
    let whole : chars text ≡ chars numeral ++ suffix = ap chars cut ∙ chars-append numeral suffix utf8
    ∙ ap (λ z. chars numeral ++ z) (suffix_ascii suffix t typed) in
    let long : length (chars text) - length suffix ≡ length (chars numeral) =
    ap (λ z. length z - length suffix) whole
    ∙ ap (λ n. n - length suffix) (length-append (chars numeral) suffix) ∙ omega arith in
    ap (λ n. take n (chars text)) long ∙ ap (λ z. take (length (chars numeral)) z) whole
    ∙ take-append_seam (chars numeral) suffix

pub infinite_float : (t : NumberType) (text numeral suffix : List ℕ) → IsTypeOfFloat suffix t
    → numeral_of text suffix ≡ numeral → IsInfinite t numeral
    → (u : NumberType) × IsTypeOfFloat suffix u × IsInfinite u (numeral_of text suffix)
infinite_float t text numeral suffix typed same infinite =
    (t, typed, subst (λ z. IsInfinite t z) (sym same) infinite)

least_of : (t : NumberType) (n : Bool) → greatest_of t n ≡ None → (least : ℕ) × (infinite_from t ≡ Some least)
least_of (Integer t) n none = absurd (let e = none in cc)
least_of F32 n none = (2 ^ 128 - 2 ^ 103, refl)
least_of F64 n none = (2 ^ 1024 - 2 ^ 970, refl)

pub finite_float : (t : NumberType) (n : Bool) (text numeral suffix : List ℕ) → greatest_of t n ≡ None
    → numeral_of text suffix ≡ numeral → (IsInfinite t numeral → ⊥) → IsFinite t (numeral_of text suffix)
finite_float t n text numeral suffix none same finite =
    let (least, is) = least_of t n none in
    (least, is, λ reaches. finite (least, is, subst (λ z. IsAtLeast least z) same reaches))
