-- The literals for which Rust has no type. `text` is the literal as written, a list of characters. `suffix` is its suffix, in
-- bytes. `magnitude` is the integer that its digits represent. `negated` is true if a minus may precede the literal.
use Rattle.std.specs.Prelude.{◌≡◌, ◌≢◌, ◌⊎◌, ℕ, ◌==◌, ◌<◌, ◌≤◌, Bool, List, [], Some, None, IsTrue}
use Prim.Native.Char.{code}
use Rattle.rl_syntax.specs.Texts.{first_passes}
use Rattle.rl_syntax.specs.declared.kind.Kind.{Kind}
use Rattle.rl_syntax.specs.declared.kind.Kind.TheVariants.{Int, Float, Bool as BoolKind}
use Rattle.rl_syntax.specs.Numbers.{begins_base}
use Rattle.rl_lenient.specs.Founds.{is_quoted}
use Rattle.rl_flaws.specs.FloatRange.{IsAtLeast, numeral_of}
use Rattle.rl_flaws.specs.NumberTypes.{greatest_of, infinite_from, number_name}
use Rattle.rl_flaws.specs.declared.type_errors.TypeError.{TypeError}
use Rattle.rl_flaws.specs.declared.type_errors.TypeError.TheVariants.{QuotedSuffix, UnknownSuffix, FloatSuffix, BasedFloat, OutOfRange}
use Rattle.rl_flaws.specs.declared.number_types.NumberType.{NumberType}
use Rattle.rl_flaws.specs.declared.number_types.NumberType.TheVariants.{F64}

-- The suffix is the name of the number type.
abbrev pub NamesType : List ℕ → NumberType → Type 0
NamesType suffix t = suffix ≡ number_name t

-- The suffix isn't the name of a number type.
abbrev pub NamesNone : List ℕ → Type 0
NamesNone suffix = (t : NumberType) → NamesType suffix t → ⊥

-- The suffix would make a binary, octal or hexadecimal integer a float, as in `0b1f32`. Floats are always decimal.
abbrev pub IsBasedFloat : List ℕ → List ℕ → Type 0
IsBasedFloat text suffix = IsTrue (begins_base text) × IsTrue (first_passes (λ b. b == code "f") suffix)

-- The integer is in the range of an integer type, or doesn't round to infinity in a float type.
abbrev pub IsInRange : NumberType → ℕ → Bool → Type 0
IsInRange t magnitude negated =
    ((max_integer : ℕ) × (greatest_of t negated ≡ Some max_integer) × (magnitude ≤ max_integer))
    ⊎ ((least : ℕ) × (infinite_from t ≡ Some least) × (magnitude < least))

-- The integer is above the range of an integer type, or rounds to infinity in a float type.
abbrev pub IsPastRange : NumberType → ℕ → Bool → Type 0
IsPastRange t magnitude negated =
    ((max_integer : ℕ) × (greatest_of t negated ≡ Some max_integer) × (max_integer < magnitude))
    ⊎ ((least : ℕ) × (infinite_from t ≡ Some least) × (least ≤ magnitude))

-- The type of a float is the one that its suffix names. Without a suffix it is `f64`, the type with the greatest range.
abbrev pub IsTypeOfFloat : List ℕ → NumberType → Type 0
IsTypeOfFloat suffix t = NamesType suffix t ⊎ ((suffix ≡ []) × (t ≡ F64))

-- The decimal number doesn't round to infinity in the float type.
abbrev pub IsFinite : NumberType → List ℕ → Type 0
IsFinite t numeral = (least : ℕ) × (infinite_from t ≡ Some least) × (IsAtLeast least numeral → ⊥)

-- The decimal number rounds to infinity in the float type.
abbrev pub IsInfinite : NumberType → List ℕ → Type 0
IsInfinite t numeral = (least : ℕ) × (infinite_from t ≡ Some least) × IsAtLeast least numeral

-- The meaning of each type error.
abbrev pub HasTypeError : TypeError → Kind → List ℕ → ℕ → Bool → List ℕ → Type 0
HasTypeError QuotedSuffix kind text magnitude negated suffix = IsTrue (is_quoted kind) × (suffix ≢ [])
HasTypeError UnknownSuffix kind text magnitude negated suffix =
    (((kind ≡ Int) × (IsBasedFloat text suffix → ⊥)) ⊎ (kind ≡ Float)) × (suffix ≢ []) × NamesNone suffix
HasTypeError FloatSuffix kind text magnitude negated suffix =
    (kind ≡ Float) × ((t : NumberType) × NamesType suffix t × (greatest_of t negated ≢ None))
HasTypeError BasedFloat kind text magnitude negated suffix = (kind ≡ Int) × IsBasedFloat text suffix
HasTypeError OutOfRange kind text magnitude negated suffix =
    ((kind ≡ Int) × (IsBasedFloat text suffix → ⊥)
    × ((t : NumberType) × NamesType suffix t × IsPastRange t magnitude negated))
    ⊎ ((kind ≡ Float) × ((t : NumberType) × IsTypeOfFloat suffix t × IsInfinite t (numeral_of text suffix)))

-- The literal is a number of the type: its suffix is the type's name, and it is in the type's range.
abbrev pub IsOfType : NumberType → Kind → List ℕ → ℕ → Bool → List ℕ → Type 0
IsOfType t kind text magnitude negated suffix =
    ((kind ≡ Int) × NamesType suffix t × (IsBasedFloat text suffix → ⊥) × IsInRange t magnitude negated)
    ⊎ ((kind ≡ Float) × IsTypeOfFloat suffix t × IsFinite t (numeral_of text suffix))

-- Rust has a type for the literal: it is a number of a type, it is an integer, a string, a character or a byte without a
-- suffix, or it is `true` or `false`.
abbrev pub HasType : Kind → List ℕ → ℕ → Bool → List ℕ → Type 0
HasType kind text magnitude negated suffix =
    ((kind ≢ Float) × (suffix ≡ [])) ⊎ (kind ≡ BoolKind)
    ⊎ ((t : NumberType) × IsOfType t kind text magnitude negated suffix)

-- A literal with the type error has no type in Rust.
abbrev pub ExcludesType : TypeError → Kind → List ℕ → ℕ → Bool → List ℕ → Type 0
ExcludesType error kind text magnitude negated suffix =
    HasTypeError error kind text magnitude negated suffix → HasType kind text magnitude negated suffix → ⊥

-- A literal has at most one type error.
abbrev pub HasOneError : Kind → List ℕ → ℕ → Bool → List ℕ → Type 0
HasOneError kind text magnitude negated suffix =
    (error other : TypeError) → HasTypeError error kind text magnitude negated suffix
    → HasTypeError other kind text magnitude negated suffix → error ≡ other
