-- The number types of Rust: their names, and the greatest integer of each.
use Rattle.std.specs.Prelude.{ℕ, ◌-◌, ◌^◌, Bool, List, codes, Option, Some, None, if◌then◌else◌}
use Rattle.rl_syntax.specs.Words.{type_name}
use Rattle.rl_syntax.specs.declared.integer_type.IntegerType.{IntegerType}
use Rattle.rl_syntax.specs.declared.integer_type.IntegerType.TheVariants.{U8, U16, U32, U64, U128, Usize, I8, I16, I32, I64, I128, Isize}
use Rattle.rl_flaws.specs.declared.number_types.NumberType.{NumberType}
use Rattle.rl_flaws.specs.declared.number_types.NumberType.TheVariants.{Integer, F32, F64}

abbrev pub number_name : NumberType → List ℕ
number_name (Integer t) = type_name t
number_name F32 = codes "f32"
number_name F64 = codes "f64"

-- The greatest number of an unsigned type with the given number of bits.
abbrev pub unsigned_greatest : ℕ → ℕ
unsigned_greatest bits = 2 ^ bits - 1

-- The greatest magnitude of a signed type with the given number of bits. After a minus, it is greater by one.
abbrev pub signed_greatest : ℕ → Bool → ℕ
signed_greatest bits negated = if negated then 2 ^ (bits - 1) else 2 ^ (bits - 1) - 1

-- The greatest integer that a literal of the type may be. `negated` is true if a minus precedes the literal.
abbrev pub greatest_integer : IntegerType → Bool → ℕ
greatest_integer U8 negated = unsigned_greatest 8
greatest_integer U16 negated = unsigned_greatest 16
greatest_integer U32 negated = unsigned_greatest 32
greatest_integer U64 negated = unsigned_greatest 64
greatest_integer U128 negated = unsigned_greatest 128
greatest_integer Usize negated = unsigned_greatest 64
greatest_integer I8 negated = signed_greatest 8 negated
greatest_integer I16 negated = signed_greatest 16 negated
greatest_integer I32 negated = signed_greatest 32 negated
greatest_integer I64 negated = signed_greatest 64 negated
greatest_integer I128 negated = signed_greatest 128 negated
greatest_integer Isize negated = signed_greatest 64 negated

-- The greatest integer that a literal of the number type may be, or `None` for a float type.
abbrev pub greatest_of : NumberType → Bool → Option ℕ
greatest_of (Integer t) negated = Some (greatest_integer t negated)
greatest_of F32 negated = None
greatest_of F64 negated = None

-- The least number that rounds to infinity in a float type: half a step above the greatest number of the type.
abbrev pub infinite_from : NumberType → Option ℕ
infinite_from F32 = Some (2 ^ 128 - 2 ^ 103)
infinite_from F64 = Some (2 ^ 1024 - 2 ^ 970)
infinite_from (Integer t) = None
