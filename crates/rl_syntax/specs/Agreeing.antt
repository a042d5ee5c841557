-- Conditions of the laws on `syn`'s grammar, Rust's grammar and written literals: properties of a text or a value.
use Rattle.std.specs.Prelude.{◌≡◌, ℕ, ◌≤◌, not, ◌&&◌, ◌==◌, nat_lt, List, length, IsTrue, ⊤, Bool}
use Rattle.std.specs.List.{list_all}
use Rattle.rl_syntax.specs.declared.kind.Kind.{Kind}
use Rattle.rl_syntax.specs.declared.kind.Kind.TheVariants.{Str, ByteStr, CStr, Byte, Char, Int}
use Rattle.rl_syntax.specs.Numbers.{Sign, IntReads, limit}

abbrev pub is_zero : ℕ → Bool
is_zero b = b == 0

-- Whether no byte of a list is zero.
abbrev pub has_no_zero : List ℕ → Bool
has_no_zero bytes = list_all (λ b. not (is_zero b)) bytes

-- If the text is an integer literal, its number is at most `limit`, which is 2^128 - 1. A text of another kind has this
-- property.
abbrev pub IsWithinLimit : Kind → List ℕ → Type 0
IsWithinLimit Int t =
    (sign : Sign) (magnitude : ℕ) (suffix : List ℕ) → IntReads t sign magnitude suffix
    → magnitude ≤ limit
IsWithinLimit _ t = ⊤

-- The values that a quoted literal of the kind can have. A string's value is any characters, a byte string's any bytes,
-- and a C string's any bytes except 0. A character literal's value is one character, and a byte literal's one byte.
abbrev pub IsQuotedValue : Kind → List ℕ → Type 0
IsQuotedValue Str v = ⊤
IsQuotedValue Char v = length v ≡ 1
IsQuotedValue ByteStr v = IsTrue (list_all (λ c. nat_lt c 256) v)
IsQuotedValue Byte v = (length v ≡ 1) × IsTrue (list_all (λ c. nat_lt c 256) v)
IsQuotedValue CStr v = IsTrue (list_all (λ c. nat_lt c 256 && not (c == 0)) v)
IsQuotedValue _ v = ⊥

-- The bytes that a literal of the kind can have as its value: any bytes for a byte string, bytes other than 0 for a C
-- string, and one byte for a byte literal.
abbrev pub AreBytesOf : Kind → List ℕ → Type 0
AreBytesOf ByteStr v = ⊤
AreBytesOf Byte v = length v ≡ 1
AreBytesOf CStr v = IsTrue (has_no_zero v)
AreBytesOf _ v = ⊥
