-- Integer and float literals of the lenient grammar, which are those of `syn` 3.0.9, src/lit.rs. Each definition names
-- the function of `syn` that it follows. The suffixes that a number may have, and the limit of an integer, are this
-- project's own choice.
use Rattle.std.specs.Prelude.{◌≡◌, ◌⊎◌, ℕ, ◌^◌, ◌-◌, Bool, true, false, not, ◌||◌, ◌==◌, nat_lt, nat_le, Option, Some, None, List, [], codes, ◌∷◌, ◌++◌, filter, map, IsTrue, IsFalse, ⊤, if◌then◌else◌}
use Rattle.std.specs.Char.{digit_value, is_ascii_digit}
use Rattle.std.specs.List.{list_all, list_any}
use Prim.Native.Char.{code}
use Rattle.rl_syntax.specs.Texts.{first_passes, begins, is_underscore, xid_ok, is_run_part}
use Rattle.rl_syntax.specs.Spelling.{place_value, without_underscores}

pub data Base : Type 0 where
  Binary : Base
  Octal : Base
  Decimal : Base
  Hexadecimal : Base

abbrev pub radix : Base → ℕ
radix Binary = 2
radix Octal = 8
radix Decimal = 10
radix Hexadecimal = 16

abbrev pub prefix : Base → List ℕ
prefix Binary = codes "0b"
prefix Octal = codes "0o"
prefix Decimal = []
prefix Hexadecimal = codes "0x"

abbrev pub is_digit : Base → ℕ → Bool
is_digit base c = nat_lt (digit_value c) (radix base)

pub data Sign : Type 0 where
  NoSign : Sign
  Minus : Sign

abbrev pub sign_text : Sign → List ℕ
sign_text NoSign = []
sign_text Minus = codes "-"

-- Whether a text begins with the prefix of a base other than ten: `0b`, `0o` or `0x`.
abbrev pub begins_base : List ℕ → Bool
begins_base t = begins (prefix Binary) t || begins (prefix Octal) t || begins (prefix Hexadecimal) t

-- The text may follow the prefix of a base. Any text may follow `0b`, `0o` and `0x`. Base ten has no prefix: its text begins
-- with a digit, and not with `0b`, `0o` or `0x`.
abbrev pub IsAfterPrefix : Base → List ℕ → Type 0
IsAfterPrefix Decimal t = IsTrue (first_passes is_ascii_digit t) × IsFalse (begins_base t)
IsAfterPrefix _ t = ⊤

-- The suffix is empty, or an identifier that doesn't begin with `_`.
abbrev pub IsSuffix : List ℕ → Type 0
IsSuffix x = ((x ≡ []) ⊎ IsTrue (xid_ok x)) × IsFalse (first_passes is_underscore x)

abbrev pub is_exponent_letter : ℕ → Bool
is_exponent_letter c = c == code "e" || c == code "E"

-- The text after a decimal integer's digits is an exponent, so that the number is a float: `e` or `E`, a sequence of
-- digits and underscores with at least one digit, and then nothing or an identifier.
pub record IsExponentSuffix (x : List ℕ) : Type 0 where
  pub letter : ℕ
  pub run : List ℕ
  pub rest : List ℕ
  pub is_letter : IsTrue (is_exponent_letter letter)
  pub each : IsTrue (list_all (is_run_part (is_digit Decimal)) run)
  pub some : IsTrue (list_any is_ascii_digit run)
  pub whole : IsFalse (first_passes (is_run_part (is_digit Decimal)) rest)
  pub is_rest : (rest ≡ []) ⊎ IsTrue (xid_ok rest)
  pub text_is : x ≡ letter ∷ (run ++ rest)

-- The base allows the suffix. A decimal integer's suffix isn't an exponent, and a hexadecimal integer's suffix doesn't begin
-- with a hexadecimal digit.
abbrev pub AllowsSuffix : Base → List ℕ → Type 0
AllowsSuffix Decimal x = IsExponentSuffix x → ⊥
AllowsSuffix Hexadecimal x = IsFalse (first_passes (is_digit Hexadecimal) x)
AllowsSuffix _ x = ⊤

-- The text is an integer literal with the given sign, magnitude and suffix. In `syn`: `parse_lit_int`.
pub record IntReads (text : List ℕ) (sign : Sign) (magnitude : ℕ) (suffix : List ℕ) : Type 0 where
  pub base : Base
  pub digits : List ℕ
  pub front : IsAfterPrefix base (digits ++ suffix)
  pub each : IsTrue (list_all (is_run_part (is_digit base)) digits)
  pub some : IsTrue (list_any (is_digit base) digits)
  pub is_suffix : IsSuffix suffix
  pub is_suffix_of : AllowsSuffix base suffix
  pub text_is : text ≡ sign_text sign ++ (prefix base ++ (digits ++ suffix))
  pub magnitude_is : magnitude ≡ place_value (radix base) (without_underscores digits)

-- The greatest magnitude of an integer literal that is parsed, 2^128 - 1. It fits 128 bits.
abbrev pub limit : ℕ
limit = 2 ^ 128 - 1

-- The number, or `None` if it is above 128 bits.
abbrev pub capped : ℕ → Option ℕ
capped n = if nat_le n limit then Some n else None

-- The fraction of a float: nothing, or a dot and any number of digits and underscores.
pub data Fraction : Type 0 where
  NoFraction : Fraction
  Dot : (run : List ℕ) → Fraction

abbrev pub fraction_text : Fraction → List ℕ
fraction_text NoFraction = []
fraction_text (Dot run) = code "." ∷ run

abbrev pub IsFraction : Fraction → Type 0
IsFraction NoFraction = ⊤
IsFraction (Dot run) = IsTrue (list_all (is_run_part (is_digit Decimal)) run)

-- The exponent of a float: nothing, or `e` or `E`, underscores, at most one sign, and digits and underscores with at
-- least one digit.
pub data Exponent : Type 0 where
  NoExponent : Exponent
  Power : (letter : ℕ) (underscores sign run : List ℕ) → Exponent

abbrev pub exponent_text : Exponent → List ℕ
exponent_text NoExponent = []
exponent_text (Power letter underscores sign run) = letter ∷ (underscores ++ (sign ++ run))

abbrev pub is_power_sign : List ℕ → Bool
is_power_sign [] = true
is_power_sign (c ∷ []) = c == code "+" || c == code "-"
is_power_sign _ = false

-- The text begins like an exponent: `e` or `E`, underscores, a digit, and any text. If a number has no exponent, its suffix
-- doesn't begin like one.
pub record BeginsExponent (x : List ℕ) : Type 0 where
  pub letter : ℕ
  pub underscores : List ℕ
  pub digit : ℕ
  pub rest : List ℕ
  pub is_letter : IsTrue (is_exponent_letter letter)
  pub all_underscores : IsTrue (list_all is_underscore underscores)
  pub is_digit : IsTrue (is_ascii_digit digit)
  pub text_is : x ≡ letter ∷ (underscores ++ (digit ∷ rest))

-- The exponent is well formed. If the number has no exponent, the suffix doesn't begin like an exponent.
abbrev pub IsExponent : Exponent → List ℕ → Type 0
IsExponent NoExponent suffix = BeginsExponent suffix → ⊥
IsExponent (Power letter underscores sign run) suffix =
    IsTrue (is_exponent_letter letter) × IsTrue (list_all is_underscore underscores)
    × IsTrue (is_power_sign sign)
    × IsTrue (list_all (is_run_part (is_digit Decimal)) run) × IsTrue (list_any is_ascii_digit run)

-- The text is a float literal that consists of the numeral and the suffix. In `syn`: `parse_lit_float`.
pub record FloatReads (text numeral suffix : List ℕ) : Type 0 where
  pub sign : Sign
  pub whole : List ℕ
  pub fraction : Fraction
  pub exponent : Exponent
  pub first : IsTrue (first_passes is_ascii_digit whole)
  pub each : IsTrue (list_all (is_run_part (is_digit Decimal)) whole)
  pub is_fraction : IsFraction fraction
  pub is_exponent : IsExponent exponent suffix
  pub is_suffix : IsSuffix suffix
  pub numeral_is :
      numeral ≡ sign_text sign ++ (whole ++ (fraction_text fraction ++ exponent_text exponent))
  pub text_is : text ≡ numeral ++ suffix

-- The digits of a float's value. They are the text before the float's suffix, without `_` and `+`, and with `e` for `E`.
abbrev pub float_digits : List ℕ → List ℕ
float_digits numeral =
    map (λ c. if c == code "E" then code "e" else c)
    (filter (λ c. not (c == code "_" || c == code "+")) numeral)
