-- The names of the kinds of literals and of Rust's integer types.
use Rattle.std.specs.Prelude.{ℕ, List, codes}
use Rattle.rl_syntax.specs.declared.integer_type.IntegerType.{IntegerType}
use Rattle.rl_syntax.specs.declared.integer_type.IntegerType.TheVariants.{U8, U16, U32, U64, U128, Usize, I8, I16, I32, I64, I128, Isize}
use Rattle.rl_syntax.specs.declared.kind.Kind.{Kind}
use Rattle.rl_syntax.specs.declared.kind.Kind.TheVariants.{Str, ByteStr, CStr, Byte, Char, Int, Float, Bool as BoolKind}

-- The name of a kind of literals in error messages.
abbrev pub kind_word : Kind → List ℕ
kind_word Str = codes "string literal"
kind_word ByteStr = codes "byte string literal"
kind_word CStr = codes "C string literal"
kind_word Byte = codes "byte literal"
kind_word Char = codes "character literal"
kind_word Int = codes "integer literal"
kind_word Float = codes "floating point literal"
kind_word BoolKind = codes "boolean literal"

-- The name of a kind of literals that the `display` of its tokens shows.
abbrev pub kind_shown : Kind → List ℕ
kind_shown CStr = codes "C-string literal"
kind_shown kind = kind_word kind

-- The name of the struct for literals of a kind.
abbrev pub kind_name : Kind → List ℕ
kind_name Str = codes "LitStr"
kind_name ByteStr = codes "LitByteStr"
kind_name CStr = codes "LitCStr"
kind_name Byte = codes "LitByte"
kind_name Char = codes "LitChar"
kind_name Int = codes "LitInt"
kind_name Float = codes "LitFloat"
kind_name BoolKind = codes "LitBool"

-- The name of an integer type, as in a literal's suffix.
abbrev pub type_name : IntegerType → List ℕ
type_name U8 = codes "u8"
type_name U16 = codes "u16"
type_name U32 = codes "u32"
type_name U64 = codes "u64"
type_name U128 = codes "u128"
type_name Usize = codes "usize"
type_name I8 = codes "i8"
type_name I16 = codes "i16"
type_name I32 = codes "i32"
type_name I64 = codes "i64"
type_name I128 = codes "i128"
type_name Isize = codes "isize"
