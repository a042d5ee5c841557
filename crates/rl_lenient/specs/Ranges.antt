-- The ranges of Rust's integer types, and the reasons why an integer literal isn't a value of one.
use Rattle.std.specs.Prelude.{◌≡◌, ◌≢◌, ◌⊎◌, ℕ, ◌^◌, ◌≤◌, ◌<◌, Bool, false, true, List, [], IsFalse, IsTrue, ⊤}
use Rattle.std.specs.Str.{chars}
use Rattle.rl_syntax.specs.Numbers.{Sign, NoSign, Minus, IntReads}
use Rattle.rl_syntax.specs.Words.{type_name}
use Rattle.rl_syntax.specs.declared.integer_type.IntegerType.{IntegerType}
use Rattle.rl_syntax.specs.declared.integer_type.IntegerType.TheVariants.{I8, I16, I32, I64, I128, Isize, U8, U16, U32, U64, U128, Usize}
use Rattle.rl_lenient.specs.declared.integers.ValueFlaw.{ValueFlaw}
use Rattle.rl_lenient.specs.declared.integers.ValueFlaw.TheVariants.{Suffix, Minus as MinusFlaw, OutOfRange}

-- The number isn't in the range of an unsigned type with that many bits.
abbrev pub IsAboveUnsigned : ℕ → Sign → ℕ → Type 0
IsAboveUnsigned bits NoSign m = 2 ^ bits ≤ m
IsAboveUnsigned bits Minus m = (m ≢ 0)

-- The number isn't in the range of a signed type with that many bits beside the sign.
abbrev pub IsAboveSigned : ℕ → Sign → ℕ → Type 0
IsAboveSigned bits NoSign m = 2 ^ bits ≤ m
IsAboveSigned bits Minus m = 2 ^ bits < m

-- The number isn't in the range of the type.
abbrev pub IsOutOfRange : IntegerType → Sign → ℕ → Type 0
IsOutOfRange U8 = IsAboveUnsigned 8
IsOutOfRange U16 = IsAboveUnsigned 16
IsOutOfRange U32 = IsAboveUnsigned 32
IsOutOfRange U64 = IsAboveUnsigned 64
IsOutOfRange U128 = IsAboveUnsigned 128
IsOutOfRange Usize = IsAboveUnsigned 64
IsOutOfRange I8 = IsAboveSigned 7
IsOutOfRange I16 = IsAboveSigned 15
IsOutOfRange I32 = IsAboveSigned 31
IsOutOfRange I64 = IsAboveSigned 63
IsOutOfRange I128 = IsAboveSigned 127
IsOutOfRange Isize = IsAboveSigned 63

-- The type has negative numbers.
abbrev pub is_signed : IntegerType → Bool
is_signed U8 = false
is_signed U16 = false
is_signed U32 = false
is_signed U64 = false
is_signed U128 = false
is_signed Usize = false
is_signed I8 = true
is_signed I16 = true
is_signed I32 = true
is_signed I64 = true
is_signed I128 = true
is_signed Isize = true

-- The type allows the sign: a type without negative numbers allows no minus, not even that of `-0`.
abbrev pub AllowsSign : IntegerType → Sign → Type 0
AllowsSign ty NoSign = ⊤
AllowsSign ty Minus = IsTrue (is_signed ty)

-- The type allows the sign of the integer literal.
abbrev pub AllowsSignOf : IntegerType → List ℕ → List ℕ → Type 0
AllowsSignOf ty text suffix = (sign : Sign) (m : ℕ) → IntReads text sign m suffix → AllowsSign ty sign

-- A literal with the suffix may be of the type with the name: there is no suffix, or it is the name.
abbrev pub FitsSuffix : List ℕ → List ℕ → Type 0
FitsSuffix name suffix = (suffix ≡ []) ⊎ (suffix ≡ name)

-- The integer literal isn't a value of the type, for the reason. A reason holds only if those before it don't.
abbrev pub RejectsInteger : IntegerType → List ℕ → List ℕ → ValueFlaw → Type 0
RejectsInteger ty text suffix Suffix = FitsSuffix (type_name ty) suffix → ⊥
RejectsInteger ty text suffix MinusFlaw =
    FitsSuffix (type_name ty) suffix × IsFalse (is_signed ty) × (m : ℕ) × IntReads (chars text) Minus m (chars suffix)
RejectsInteger ty text suffix OutOfRange =
    FitsSuffix (type_name ty) suffix × (sign : Sign) × (m : ℕ) × IntReads (chars text) sign m (chars suffix)
    × AllowsSign ty sign × IsOutOfRange ty sign m
