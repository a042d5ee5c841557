-- A literal for which `type_error` returns an error has no type in Rust.
use Rattle.rl_syntax.proofs.Common.{◌≡◌, ◌≢◌, ◌⊎◌, ◌+◌, ◌*◌, ◌==◌, ℕ, Bool, true, false, List, [], ◌∷◌, Option, Some, None, refl, sym, ap, ◌∙◌, inl, inr, arith, both_ways, subst, if◌then◌else◌}
use Rattle.rl_syntax.specs.Texts.{first_passes}
use Rattle.rl_lenient.proofs.Names.{Kind, Int, Float}
use Rattle.rl_syntax.specs.declared.kind.Kind.TheVariants.{Bool as BoolKind}
use Rattle.rl_lenient.specs.Founds.{is_quoted}
use Rattle.rl_flaws.specs.FloatRange.{IsAtLeast, numeral_of}
use Rattle.rl_syntax.specs.Words.{type_name}
use Rattle.rl_flaws.specs.NumberTypes.{greatest_of, infinite_from, number_name}
use Rattle.rl_flaws.specs.TypeErrors.{HasOneError, HasTypeError, HasType, IsFinite, IsInfinite, IsInRange, IsOfType, IsPastRange, IsTypeOfFloat, NamesNone, NamesType}
use Rattle.rl_flaws.specs.declared.type_errors.TypeError.{TypeError}
use Rattle.rl_flaws.specs.declared.type_errors.TypeError.TheVariants.{QuotedSuffix, UnknownSuffix, FloatSuffix, BasedFloat, OutOfRange}
use Rattle.rl_syntax.specs.declared.integer_type.IntegerType.TheVariants.{U8, U16, U32, U64, U128, Usize, I8, I16, I32, I64, I128, Isize}
use Rattle.rl_flaws.specs.declared.number_types.NumberType.{NumberType}
use Rattle.rl_flaws.specs.declared.number_types.NumberType.TheVariants.{Integer, F32, F64}

-- A number that is computed from the bytes of a suffix. The names of number types have different numbers, so a suffix is the
-- name of at most one number type.
number_of : List ℕ → ℕ
number_of [] = 0
number_of (b ∷ bs) = b + 256 * number_of bs

named_by : ℕ → Option NumberType
named_by n =
    if n == number_of (type_name U8) then Some (Integer U8) else
    (if n == number_of (type_name U16) then Some (Integer U16) else
    (if n == number_of (type_name U32) then Some (Integer U32) else
    (if n == number_of (type_name U64) then Some (Integer U64) else
    (if n == number_of (type_name U128) then Some (Integer U128) else
    (if n == number_of (type_name Usize) then Some (Integer Usize) else
    (if n == number_of (type_name I8) then Some (Integer I8) else
    (if n == number_of (type_name I16) then Some (Integer I16) else
    (if n == number_of (type_name I32) then Some (Integer I32) else
    (if n == number_of (type_name I64) then Some (Integer I64) else
    (if n == number_of (type_name I128) then Some (Integer I128) else
    (if n == number_of (type_name Isize) then Some (Integer Isize) else
    (if n == number_of (number_name F32) then Some F32 else
    (if n == number_of (number_name F64) then Some F64 else
    None)))))))))))))

name_tells : (t : NumberType) → named_by (number_of (number_name t)) ≡ Some t
unfolding named_by number_of
name_tells (Integer U8) = refl
name_tells (Integer U16) = refl
name_tells (Integer U32) = refl
name_tells (Integer U64) = refl
name_tells (Integer U128) = refl
name_tells (Integer Usize) = refl
name_tells (Integer I8) = refl
name_tells (Integer I16) = refl
name_tells (Integer I32) = refl
name_tells (Integer I64) = refl
name_tells (Integer I128) = refl
name_tells (Integer Isize) = refl
name_tells F32 = refl
name_tells F64 = refl

one_type : (s : List ℕ) (t u : NumberType) → NamesType s t → NamesType s u → t ≡ u
one_type s t u a b =
    let e : Some t ≡ Some u = sym (name_tells t) ∙ ap (λ z. named_by (number_of z)) (sym a ∙ b) ∙ name_tells u in
    (cc)

some_name : (s : List ℕ) (t : NumberType) → NamesType s t → s ≢ []
unfolding named_by number_of
some_name s t a none =
    let e : Some t ≡ None = sym (name_tells t) ∙ ap (λ z. named_by (number_of z)) (sym a ∙ none) in
    absurd (cc)

-- An integer type has a greatest value, and a float type has none. So no type is both.
none_some : (o : Option ℕ) (g : ℕ) → o ≡ None → o ≡ Some g → ⊥
none_some o g a b = let e : None ≡ Some g = sym a ∙ b in absurd (cc)

one_kind : (t : NumberType) (n : Bool) (g l : ℕ) → greatest_of t n ≡ Some g → infinite_from t ≡ Some l → ⊥
one_kind (Integer t) n g l some infinite = none_some None l refl infinite
one_kind F32 n g l some infinite = none_some None g refl some
one_kind F64 n g l some infinite = none_some None g refl some

integers_only : (t : NumberType) (n : Bool) (l : ℕ) → greatest_of t n ≢ None → infinite_from t ≡ Some l → ⊥
integers_only t n l some infinite = go (greatest_of t n) refl
  where
    go : (o : Option ℕ) → greatest_of t n ≡ o → ⊥
    go None h = some h
    go (Some g) h = one_kind t n g l h infinite

-- ---- a literal has only one kind

no_quoted : (k : Kind) → is_quoted k ≡ true → (k ≡ BoolKind) ⊎ ((k ≡ Int) ⊎ (k ≡ Float)) → ⊥
no_quoted k q (inl e) = both_ways false refl (sym (ap is_quoted e) ∙ q)
no_quoted k q (inr (inl e)) = both_ways false refl (sym (ap is_quoted e) ∙ q)
no_quoted k q (inr (inr e)) = both_ways false refl (sym (ap is_quoted e) ∙ q)

int_not_bool : (k : Kind) → k ≡ Int → k ≡ BoolKind → ⊥
int_not_bool k a b = let e : Int ≡ BoolKind = sym a ∙ b in absurd (cc)

float_not_bool : (k : Kind) → k ≡ Float → k ≡ BoolKind → ⊥
float_not_bool k a b = let e : Float ≡ BoolKind = sym a ∙ b in absurd (cc)

int_not_float : (k : Kind) → k ≡ Int → k ≡ Float → ⊥
int_not_float k a b = let e : Int ≡ Float = sym a ∙ b in absurd (cc)

same_greatest : (o : Option ℕ) (g h : ℕ) → o ≡ Some g → o ≡ Some h → g ≡ h
same_greatest o g h a b = let e : Some g ≡ Some h = sym a ∙ b in (cc)

number_kind : (t : NumberType) (k : Kind) (text s : List ℕ) (m : ℕ) (n : Bool) → IsOfType t k text m n s → (k ≡ Int)
    ⊎ (k ≡ Float)
number_kind t k text s m n (inl o) = inl o.0
number_kind t k text s m n (inr o) = inr o.0

-- ---- a type and an error exclude each other

one_float : (s : List ℕ) (t u : NumberType) → IsTypeOfFloat s t → IsTypeOfFloat s u → t ≡ u
one_float s t u (inl a) (inl b) = one_type s t u a b
one_float s t u (inl a) (inr b) = absurd (some_name s t a b.0)
one_float s t u (inr a) (inl b) = absurd (some_name s u b a.0)
one_float s t u (inr a) (inr b) = a.1 ∙ sym b.1

not_named : (s : List ℕ) (t : NumberType) → NamesNone s → s ≢ [] → IsTypeOfFloat s t → ⊥
not_named s t none some (inl a) = none t a
not_named s t none some (inr a) = some a.0

no_integer : (s : List ℕ) (t u : NumberType) (n : Bool) (numeral : List ℕ) → NamesType s t → greatest_of t n ≢ None
    → IsTypeOfFloat s u → IsFinite u numeral → ⊥
no_integer s t u n numeral named some typed (l, infinite, finite) =
    integers_only t n l some (ap infinite_from (one_float s t u (inl named) typed) ∙ infinite)

range_is_out : (t : NumberType) (m : ℕ) (n : Bool) → IsPastRange t m n → IsInRange t m n → ⊥
range_is_out t m n (inl (g, is, out)) (inl (h, its, le)) =
    let one = same_greatest (greatest_of t n) g h is its in
    absurd (omega (arith, one, out, le))
range_is_out t m n (inl (g, is, out)) (inr (l, infinite, less)) = one_kind t n g l is infinite
range_is_out t m n (inr (l, infinite, out)) (inl (g, is, le)) = one_kind t n g l is infinite
range_is_out t m n (inr (l, infinite, out)) (inr (k, its, less)) =
    let one = same_greatest (infinite_from t) l k infinite its in
    absurd (omega (arith, one, out, less))

float_is_out : (t u : NumberType) (numeral : List ℕ) → t ≡ u → IsInfinite t numeral → IsFinite u numeral → ⊥
float_is_out t u numeral same (l, infinite, reaches) (k, its, finite) =
    let one : l ≡ k = same_greatest (infinite_from u) l k (sym (ap infinite_from same) ∙ infinite) its in
    finite (subst (λ z. IsAtLeast z numeral) one reaches)

pub no_both : (error : TypeError) (k : Kind) (text : List ℕ) (m : ℕ) (n : Bool) (s : List ℕ)
    → HasTypeError error k text m n s
    → HasType k text m n s → ⊥
no_both QuotedSuffix k text m n s (q, some) (inl none) = some none.1
no_both QuotedSuffix k text m n s (q, some) (inr (inl b)) = no_quoted k q (inl b)
no_both QuotedSuffix k text m n s (q, some) (inr (inr (t, o))) = no_quoted k q (inr (number_kind t k text s m n o))
no_both UnknownSuffix k text m n s (number, some, unknown) (inl none) = some none.1
no_both UnknownSuffix k text m n s (inl i, some, unknown) (inr (inl b)) = int_not_bool k i.0 b
no_both UnknownSuffix k text m n s (inr f, some, unknown) (inr (inl b)) = float_not_bool k f b
no_both UnknownSuffix k text m n s (number, some, unknown) (inr (inr (t, inl o))) = unknown t o.1
no_both UnknownSuffix k text m n s (number, some, unknown) (inr (inr (t, inr o))) = not_named s t unknown some o.1
no_both FloatSuffix k text m n s (f, (t, named, some)) (inl none) = none.0 f
no_both FloatSuffix k text m n s (f, (t, named, some)) (inr (inl b)) = float_not_bool k f b
no_both FloatSuffix k text m n s (f, (t, named, some)) (inr (inr (u, inl o))) = int_not_float k o.0 f
no_both FloatSuffix k text m n s (f, (t, named, some)) (inr (inr (u, inr o))) =
    no_integer s t u n (numeral_of text s) named some o.1 o.2
no_both BasedFloat k text m n s (i, (based, float)) (inl none) =
    both_ways false refl (sym (ap (first_passes (λ b. b == 102)) none.1) ∙ float)
no_both BasedFloat k text m n s (i, (based, float)) (inr (inl b)) = int_not_bool k i b
no_both BasedFloat k text m n s (i, (based, float)) (inr (inr (t, inl o))) = o.2 (based, float)
no_both BasedFloat k text m n s (i, (based, float)) (inr (inr (t, inr o))) = int_not_float k i o.0
no_both OutOfRange k text m n s (inl (i, no_base, (t, named, out))) (inl none) = some_name s t named none.1
no_both OutOfRange k text m n s (inl (i, no_base, (t, named, out))) (inr (inl b)) = int_not_bool k i b
no_both OutOfRange k text m n s (inl (i, no_base, (t, named, out))) (inr (inr (u, inl o))) =
    range_is_out t m n out (subst (λ z. IsInRange z m n) (one_type s u t o.1 named) o.3)
no_both OutOfRange k text m n s (inl (i, no_base, (t, named, out))) (inr (inr (u, inr o))) = int_not_float k i o.0
no_both OutOfRange k text m n s (inr (f, (t, typed, out))) (inl none) = none.0 f
no_both OutOfRange k text m n s (inr (f, (t, typed, out))) (inr (inl b)) = float_not_bool k f b
no_both OutOfRange k text m n s (inr (f, (t, typed, out))) (inr (inr (u, inl o))) = int_not_float k o.0 f
no_both OutOfRange k text m n s (inr (f, (t, typed, out))) (inr (inr (u, inr o))) =
    float_is_out t u (numeral_of text s) (one_float s t u typed o.1) out o.2

-- ---- a literal has at most one type error

-- If a quoted literal has a type error, the error is `QuotedSuffix`.
quoted_alone : (error : TypeError) (k : Kind) (text : List ℕ) (m : ℕ) (n : Bool) (s : List ℕ) → is_quoted k ≡ true
    → HasTypeError error k text m n s → QuotedSuffix ≡ error
quoted_alone QuotedSuffix k text m n s q h = refl
quoted_alone UnknownSuffix k text m n s q (inl i, some, unknown) = absurd (no_quoted k q (inr (inl i.0)))
quoted_alone UnknownSuffix k text m n s q (inr f, some, unknown) = absurd (no_quoted k q (inr (inr f)))
quoted_alone FloatSuffix k text m n s q h = absurd (no_quoted k q (inr (inr h.0)))
quoted_alone BasedFloat k text m n s q h = absurd (no_quoted k q (inr (inl h.0)))
quoted_alone OutOfRange k text m n s q (inl h) = absurd (no_quoted k q (inr (inl h.0)))
quoted_alone OutOfRange k text m n s q (inr h) = absurd (no_quoted k q (inr (inr h.0)))

-- If a literal has the type error `UnknownSuffix`, it has no other type error.
unknown_alone : (error : TypeError) (k : Kind) (text : List ℕ) (m : ℕ) (n : Bool) (s : List ℕ)
    → HasTypeError UnknownSuffix k text m n s → HasTypeError error k text m n s → UnknownSuffix ≡ error
unknown_alone QuotedSuffix k text m n s h q = sym (quoted_alone UnknownSuffix k text m n s q.0 h)
unknown_alone UnknownSuffix k text m n s h o = refl
unknown_alone FloatSuffix k text m n s (number, some, unknown) (f, (t, named, is)) = absurd (unknown t named)
unknown_alone BasedFloat k text m n s (inl i, some, unknown) (j, based) = absurd (i.1 based)
unknown_alone BasedFloat k text m n s (inr f, some, unknown) (j, based) = absurd (int_not_float k j f)
unknown_alone OutOfRange k text m n s (number, some, unknown) (inl (i, no_base, (t, named, out))) = absurd
    (unknown t named)
unknown_alone OutOfRange k text m n s (number, some, unknown) (inr (f, (t, typed, out))) =
    absurd (not_named s t unknown some typed)

-- If a literal has the type error `FloatSuffix`, it has no other type error.
integers_alone : (error : TypeError) (k : Kind) (text : List ℕ) (m : ℕ) (n : Bool) (s : List ℕ)
    → HasTypeError FloatSuffix k text m n s → HasTypeError error k text m n s → FloatSuffix ≡ error
integers_alone QuotedSuffix k text m n s h q = sym (quoted_alone FloatSuffix k text m n s q.0 h)
integers_alone UnknownSuffix k text m n s h o = sym (unknown_alone FloatSuffix k text m n s o h)
integers_alone FloatSuffix k text m n s h o = refl
integers_alone BasedFloat k text m n s h o = absurd (int_not_float k o.0 h.0)
integers_alone OutOfRange k text m n s h (inl o) = absurd (int_not_float k o.0 h.0)
integers_alone OutOfRange k text m n s (f, (t, named, some)) (inr (g, (u, typed, (l, infinite, reaches)))) =
    absurd (integers_only t n l some (ap infinite_from (one_float s t u (inl named) typed) ∙ infinite))

pub one_error : (k : Kind) (text : List ℕ) (m : ℕ) (n : Bool) (s : List ℕ) → HasOneError k text m n s
one_error k text m n s QuotedSuffix other h o = quoted_alone other k text m n s h.0 o
one_error k text m n s UnknownSuffix other h o = unknown_alone other k text m n s h o
one_error k text m n s FloatSuffix other h o = integers_alone other k text m n s h o
one_error k text m n s BasedFloat QuotedSuffix h o = sym (quoted_alone BasedFloat k text m n s o.0 h)
one_error k text m n s BasedFloat UnknownSuffix h o = sym (unknown_alone BasedFloat k text m n s o h)
one_error k text m n s BasedFloat FloatSuffix h o = sym (integers_alone BasedFloat k text m n s o h)
one_error k text m n s BasedFloat BasedFloat h o = refl
one_error k text m n s BasedFloat OutOfRange h (inl o) = absurd (o.1 h.1)
one_error k text m n s BasedFloat OutOfRange h (inr o) = absurd (int_not_float k h.0 o.0)
one_error k text m n s OutOfRange QuotedSuffix h o = sym (quoted_alone OutOfRange k text m n s o.0 h)
one_error k text m n s OutOfRange UnknownSuffix h o = sym (unknown_alone OutOfRange k text m n s o h)
one_error k text m n s OutOfRange FloatSuffix h o = sym (integers_alone OutOfRange k text m n s o h)
one_error k text m n s OutOfRange BasedFloat (inl h) o = absurd (h.1 o.1)
one_error k text m n s OutOfRange BasedFloat (inr h) o = absurd (int_not_float k o.0 h.0)
one_error k text m n s OutOfRange OutOfRange h o = refl
