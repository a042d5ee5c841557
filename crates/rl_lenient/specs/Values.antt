-- The value of an integer literal, with its sign.
use Rattle.std.specs.Prelude.{◌≡◌, ℕ, ◌^◌, ◌≤◌, ◌<◌, ℤ, pos, neg_ℤ, List}
use Rattle.rl_syntax.specs.Numbers.{Sign, NoSign, Minus, IntReads, limit}

-- The number with the given sign and magnitude.
abbrev pub signed : Sign → ℕ → ℤ
signed NoSign m = pos m
signed Minus m = neg_ℤ (pos m)

-- The text is an integer literal with the given suffix, and with the given value.
pub record HasIntegerValue (text suffix : List ℕ) (value : ℤ) : Type 0 where
  pub sign : Sign
  pub magnitude : ℕ
  pub reads : IntReads text sign magnitude suffix
  pub within : magnitude ≤ limit
  pub value_is : value ≡ signed sign magnitude

-- The number with the given sign and magnitude doesn't fit an `i128`.
abbrev pub IsPastSigned : Sign → ℕ → Type 0
IsPastSigned NoSign m = 2 ^ 127 ≤ m
IsPastSigned Minus m = 2 ^ 127 < m

-- The text isn't an integer literal with the given suffix, or it is one whose value doesn't fit an `i128`.
abbrev pub HasNoValue : List ℕ → List ℕ → Type 0
HasNoValue text suffix =
    (sign : Sign) (magnitude : ℕ) → IntReads text sign magnitude suffix → IsPastSigned sign magnitude
