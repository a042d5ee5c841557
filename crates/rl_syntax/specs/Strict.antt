-- The literal tokens of the Rust Reference, chapter Tokens, with the rules of docs/GRAMMAR.md for identifier characters
-- and CR. Each definition names its section of that chapter. The tables of the lenient grammar (escapes, opening
-- delimiters and numbers) aren't used here.
pub use Rattle.rl_syntax.specs.Texts.{is_dropped_blank}
use Rattle.std.specs.Prelude.{◌≡◌, ◌≢◌, ◌⊎◌, ℕ, suc, ◌<◌, Bool, false, not, ◌&&◌, ◌||◌, ◌==◌, nat_lt, nat_le, List, [], ◌∷◌, ◌++◌, length, filter, map, replicate, IsTrue, IsFalse, ⊤, encode_utf8_all, codes, if◌then◌else◌}
use Rattle.std.specs.Char.{is_ascii_digit, is_ascii_hexdigit, digit_value}
use Rattle.std.specs.Str.{all_scalars}
use Rattle.std.specs.Fmt.{digits_onto}
use Rattle.std.specs.List.{list_all, list_any, flat_map}
use Prim.Native.Char.{code}
use Rattle.rl_syntax.specs.declared.kind.Kind.{Kind}
use Rattle.rl_syntax.specs.declared.kind.Kind.TheVariants.{Str, ByteStr, CStr, Byte, Char, Int, Float, Bool as BoolKind}
use Rattle.rl_syntax.specs.Texts.{IsWord, first_passes, begins_char, begins, is_run_part}
use Rattle.rl_syntax.specs.Reading.{Contents, Digits, Truth, quoted_contents}
use Rattle.rl_syntax.specs.Spelling.{place_value, without_underscores}

-- The suffix of a literal by Rust's grammar (the Rust Reference, section Suffixes).
abbrev pub IsStrictSuffix : List ℕ → Type 0
IsStrictSuffix x = (x ≡ []) ⊎ IsWord x

-- A character or escape between a literal's quotes, by Rust's grammar. The escapes are those of the tables ASCII
-- escapes, Byte escapes, Unicode escapes and Quote escapes of section Literals. Escaped line ends are those of section
-- String continuation escapes of chapter Literal expressions.
pub data StrictUnit : Type 0 where
  Itself : (c : ℕ) → StrictUnit
  -- The escape of a quote: `\'` or `\"`.
  QuoteEscape : (c : ℕ) → StrictUnit
  -- An escape of a backslash and one of the characters n, r, t, \ and 0.
  PlainEscape : (c : ℕ) → StrictUnit
  -- The escape `\x` in a literal of characters, with an octal and a hexadecimal digit.
  AsciiEscape : (high low : ℕ) → StrictUnit
  -- The escape `\x` in a literal of bytes, with two hexadecimal digits.
  ByteEscape : (high low : ℕ) → StrictUnit
  -- The escape `\u{..}`, as its digits, each with the number of underscores after it.
  UnicodeEscape : (digits : List (ℕ × ℕ)) → StrictUnit
  -- An escaped line end: a backslash, an LF, and the white space after it, which is dropped too.
  LineBreak : (blanks : List ℕ) → StrictUnit

abbrev pub spaced_digit : ℕ × ℕ → List ℕ
spaced_digit d = d.0 ∷ replicate d.1 (code "_")

abbrev pub strict_text : StrictUnit → List ℕ
strict_text (Itself c) = c ∷ []
strict_text (QuoteEscape c) = code "\\" ∷ c ∷ []
strict_text (PlainEscape c) = code "\\" ∷ c ∷ []
strict_text (AsciiEscape high low) = code "\\" ∷ code "x" ∷ high ∷ low ∷ []
strict_text (ByteEscape high low) = code "\\" ∷ code "x" ∷ high ∷ low ∷ []
strict_text (UnicodeEscape digits) =
    code "\\" ∷ code "u" ∷ code "{" ∷ [] ++ flat_map spaced_digit digits ++ code "}" ∷ []
strict_text (LineBreak blanks) = code "\\" ∷ code "\n" ∷ blanks

abbrev pub spaced_value : List (ℕ × ℕ) → ℕ
spaced_value digits = place_value 16 (map (λ d. d.0) digits)

-- The characters that follow the backslash in escapes as `\n`, each with the character that the escape represents.
abbrev pub plain_escapes : List (ℕ × ℕ)
plain_escapes =
    (code "n", code "\n") ∷ (code "r", code "\r") ∷ (code "t", code "\t") ∷ (code "\\", code "\\")
    ∷ (code "0", 0) ∷ []

abbrev pub plain_value_in : List (ℕ × ℕ) → ℕ → List ℕ
plain_value_in [] c = []
plain_value_in (e ∷ es) c = if e.0 == c then e.1 ∷ [] else plain_value_in es c

-- The value of a character or escape. In C string literals, `as_kind` encodes characters as UTF-8 bytes. In other literals,
-- `as_kind` returns the characters unchanged.
abbrev pub strict_contents : (List ℕ → List ℕ) → StrictUnit → List ℕ
strict_contents as_kind (Itself c) = as_kind (c ∷ [])
strict_contents as_kind (QuoteEscape c) = c ∷ []
strict_contents as_kind (PlainEscape c) = plain_value_in plain_escapes c
strict_contents as_kind (AsciiEscape high low) = place_value 16 (high ∷ low ∷ []) ∷ []
strict_contents as_kind (ByteEscape high low) = place_value 16 (high ∷ low ∷ []) ∷ []
strict_contents as_kind (UnicodeEscape digits) = as_kind (spaced_value digits ∷ [])
strict_contents as_kind (LineBreak blanks) = []

abbrev pub is_plain_letter : ℕ → Bool
is_plain_letter c = list_any (λ e. e.0 == c) plain_escapes

abbrev pub is_octal : ℕ → Bool
is_octal c = nat_lt (digit_value c) 8

abbrev pub is_unicode_escape : List (ℕ × ℕ) → Bool
is_unicode_escape digits =
    nat_le 1 (length digits) && nat_le (length digits) 6
    && list_all (λ d. is_ascii_hexdigit d.0) digits && all_scalars (spaced_value digits ∷ [])

-- Whether a character or byte literal may contain the character unescaped.
abbrev pub is_allowed_in_single_quotes : ℕ → Bool
is_allowed_in_single_quotes c =
    not (c == code "'" || c == code "\\" || c == code "\n" || c == code "\r" || c == code "\t")

abbrev pub is_bare_in_string : ℕ → Bool
is_bare_in_string c = not (c == code "\"" || c == code "\\" || c == code "\r")

abbrev pub is_strict_unit : Kind → StrictUnit → Bool
is_strict_unit Char (Itself c) = is_allowed_in_single_quotes c
is_strict_unit Str (Itself c) = is_bare_in_string c
is_strict_unit Byte (Itself c) = nat_lt c 128 && is_allowed_in_single_quotes c
is_strict_unit ByteStr (Itself c) = nat_lt c 128 && is_bare_in_string c
is_strict_unit CStr (Itself c) = is_bare_in_string c && not (c == 0)
is_strict_unit _ (Itself c) = false
is_strict_unit k (QuoteEscape c) = c == code "'" || c == code "\""
is_strict_unit CStr (PlainEscape c) = is_plain_letter c && not (c == code "0")
is_strict_unit _ (PlainEscape c) = is_plain_letter c
is_strict_unit Char (AsciiEscape high low) = is_octal high && is_ascii_hexdigit low
is_strict_unit Str (AsciiEscape high low) = is_octal high && is_ascii_hexdigit low
is_strict_unit _ (AsciiEscape high low) = false
is_strict_unit Byte (ByteEscape high low) = is_ascii_hexdigit high && is_ascii_hexdigit low
is_strict_unit ByteStr (ByteEscape high low) = is_ascii_hexdigit high && is_ascii_hexdigit low
is_strict_unit CStr (ByteEscape high low) =
    is_ascii_hexdigit high && is_ascii_hexdigit low
    && not (place_value 16 (high ∷ low ∷ []) == 0)
is_strict_unit _ (ByteEscape high low) = false
is_strict_unit Char (UnicodeEscape digits) = is_unicode_escape digits
is_strict_unit Str (UnicodeEscape digits) = is_unicode_escape digits
is_strict_unit CStr (UnicodeEscape digits) =
    is_unicode_escape digits && not (spaced_value digits == 0)
is_strict_unit _ (UnicodeEscape digits) = false
is_strict_unit Str (LineBreak blanks) = list_all is_dropped_blank blanks
is_strict_unit ByteStr (LineBreak blanks) = list_all is_dropped_blank blanks
is_strict_unit CStr (LineBreak blanks) = list_all is_dropped_blank blanks
is_strict_unit _ (LineBreak blanks) = false

-- Each escaped line end of a sequence of characters and escapes includes all white space after it.
abbrev pub BlanksEnd : List StrictUnit → Type 0
BlanksEnd [] = ⊤
BlanksEnd (LineBreak blanks ∷ us) =
    IsFalse (first_passes is_dropped_blank (flat_map strict_text us)) × BlanksEnd us
BlanksEnd (_ ∷ us) = BlanksEnd us

-- The text that begins a quoted literal of the kind. `strict_closer` is the text that ends it, and `strict_content_of` is the
-- value of its characters.
abbrev pub strict_opener : Kind → List ℕ
strict_opener Str = codes "\""
strict_opener ByteStr = codes "b\""
strict_opener CStr = codes "c\""
strict_opener Byte = codes "b'"
strict_opener Char = codes "'"
strict_opener _ = []

abbrev pub strict_closer : Kind → List ℕ
strict_closer Byte = codes "'"
strict_closer Char = codes "'"
strict_closer _ = codes "\""

abbrev pub strict_content_of : Kind → List ℕ → List ℕ
strict_content_of CStr cs = encode_utf8_all cs
strict_content_of _ cs = cs

-- The literal has as many characters and escapes as its kind allows: one for a character or byte literal, any number
-- for a string. Numbers and booleans aren't quoted literals.
abbrev pub HasUnits : Kind → List StrictUnit → Type 0
HasUnits Str us = ⊤
HasUnits ByteStr us = ⊤
HasUnits CStr us = ⊤
HasUnits Byte us = length us ≡ 1
HasUnits Char us = length us ≡ 1
HasUnits _ us = ⊥

-- The text is a quoted literal with escapes, by the Rust Reference, sections Character literals, String literals, Byte
-- literals, Byte string literals and C string literals.
pub record StrictCooked (t : List ℕ) (k : Kind) (v : Contents) (x : List ℕ) : Type 0 where
  pub units : List StrictUnit
  pub count : HasUnits k units
  pub each : IsTrue (list_all (is_strict_unit k) units)
  pub blanks_end : BlanksEnd units
  pub suffix : IsStrictSuffix x
  pub text : t ≡ strict_opener k ++ flat_map strict_text units ++ strict_closer k ++ x
  pub contents : v
      ≡ quoted_contents k (flat_map (strict_contents (strict_content_of k)) units)

abbrev pub strict_raw_opener : Kind → List ℕ
strict_raw_opener Str = codes "r"
strict_raw_opener ByteStr = codes "br"
strict_raw_opener CStr = codes "cr"
strict_raw_opener _ = []

abbrev pub IsRawInside : Kind → List ℕ → Type 0
IsRawInside Str cs = ⊤
IsRawInside ByteStr cs = IsTrue (list_all (λ c. nat_lt c 128) cs)
IsRawInside CStr cs = IsTrue (list_all (λ c. not (c == 0)) cs)
IsRawInside _ cs = ⊥

-- The text is a raw string literal, by the Rust Reference, sections Raw string literals, Raw byte string literals and
-- Raw C string literals.
pub record StrictRaw (t : List ℕ) (k : Kind) (v : Contents) (x : List ℕ) : Type 0 where
  pub hashes : ℕ
  pub inside : List ℕ
  pub few : hashes < 256
  pub allowed : IsRawInside k inside
  pub no_carriage_return : IsTrue (list_all (λ c. not (c == code "\r")) inside)
  pub first_close : (front rest : List ℕ)
      → inside ≢ front ++ code "\"" ∷ replicate hashes (code "#") ++ rest
  pub suffix : IsStrictSuffix x
  pub text : t ≡ strict_raw_opener k ++ replicate hashes (code "#") ++ code "\"" ∷ inside
      ++ code "\"" ∷ replicate hashes (code "#") ++ x
  pub contents : v ≡ quoted_contents k (strict_content_of k inside)

-- The text is a decimal digit, followed by digits and underscores.
abbrev pub IsDigits : List ℕ → Type 0
IsDigits d = IsTrue (first_passes is_ascii_digit d) × IsTrue (list_all (is_run_part is_ascii_digit) d)

-- The text doesn't begin with the prefix of a base other than ten. So a number at its start is decimal.
abbrev pub IsDecimalText : List ℕ → Type 0
IsDecimalText t = IsFalse (begins (codes "0b") t || begins (codes "0o") t || begins (codes "0x") t)

abbrev pub IsNumberSuffix : List ℕ → Type 0
IsNumberSuffix x = IsStrictSuffix x × IsFalse (begins_char (code "_") x)

-- The prefix of an integer literal, and the base that it means: 2, 8 or 16.
abbrev pub BasedPrefix : List ℕ → ℕ → Type 0
BasedPrefix p base =
    ((p ≡ codes "0b") × (base ≡ 2))
    ⊎ (((p ≡ codes "0o") × (base ≡ 8)) ⊎ ((p ≡ codes "0x") × (base ≡ 16)))

-- The digits of a number of any size in base ten. The definition `decimal` of std writes only the last 64 digits.
unfoldable pub dec : ℕ → List ℕ
dec n = digits_onto (suc n) 10 false n []

-- The text is an integer literal, by the Rust Reference, section Integer literals.
pub record StrictInt (t : List ℕ) (v : Contents) (x : List ℕ) : Type 0 where
  pub prefix : List ℕ
  pub base : ℕ
  pub run : List ℕ
  pub is_front : ((prefix ≡ []) × (base ≡ 10) × IsDigits run × IsDecimalText t)
      ⊎ BasedPrefix prefix base
  pub each : IsTrue (list_all (is_run_part (λ c. nat_lt (digit_value c) base)) run)
  pub some : IsTrue (list_any (λ c. nat_lt (digit_value c) base) run)
  pub suffix : IsNumberSuffix x
  pub no_exponent : IsFalse (first_passes (λ c. c == code "e" || c == code "E") x)
  pub no_digit : base ≡ 16 → IsFalse (first_passes is_ascii_hexdigit x)
  pub text : t ≡ prefix ++ run ++ x
  pub contents : v ≡ Digits (dec (place_value base (without_underscores run)))

pub record IsStrictExponent (e : List ℕ) : Type 0 where
  pub letter : ℕ
  pub sign : List ℕ
  pub run : List ℕ
  pub is_letter : IsTrue (letter == code "e" || letter == code "E")
  pub is_sign : (sign ≡ []) ⊎ ((sign ≡ code "+" ∷ []) ⊎ (sign ≡ code "-" ∷ []))
  pub each : IsTrue (list_all (is_run_part is_ascii_digit) run)
  pub some : IsTrue (list_any is_ascii_digit run)
  pub text : e ≡ letter ∷ sign ++ run

-- The float literal is decimal digits and a dot, without a suffix: `1.`.
abbrev pub IsDotAlone : List ℕ → List ℕ → Type 0
IsDotAlone numeral x = (d : List ℕ) × IsDigits d × (numeral ≡ d ++ code "." ∷ []) × (x ≡ [])

-- The float literal is decimal digits, a dot and decimal digits, as `1.5`. Its suffix doesn't begin with `e` or `E`, as
-- an exponent does.
abbrev pub IsPointed : List ℕ → List ℕ → Type 0
IsPointed numeral x =
    (d f : List ℕ) × IsDigits d × IsDigits f × (numeral ≡ d ++ code "." ∷ f)
    × IsFalse (first_passes (λ c. c == code "e" || c == code "E") x)

-- The float literal has an exponent, after decimal digits with or without a dot and further digits: `1e5` or `1.5e5`.
abbrev pub IsScientific : List ℕ → List ℕ → Type 0
IsScientific numeral x =
    (d e : List ℕ) × IsDigits d × IsStrictExponent e
    × ((numeral ≡ d ++ e) ⊎ ((f : List ℕ) × IsDigits f × (numeral ≡ d ++ code "." ∷ f ++ e)))

-- The text is a float literal, by the Rust Reference, section Floating-point literals.
pub record StrictFloat (t : List ℕ) (v : Contents) (x : List ℕ) : Type 0 where
  pub numeral : List ℕ
  pub form : IsDotAlone numeral x ⊎ (IsPointed numeral x ⊎ IsScientific numeral x)
  pub no_prefix : IsDecimalText t
  pub suffix : IsNumberSuffix x
  pub text : t ≡ numeral ++ x
  pub contents : v ≡ Digits
      (map (λ c. if c == code "E" then code "e" else c)
      (filter (λ c. not (c == code "_" || c == code "+")) numeral))

-- The text is a boolean literal, `true` or `false`, by the Rust Reference, chapter Literal expressions, section Boolean
-- literal expressions.
pub record StrictBool (t : List ℕ) (v : Contents) (x : List ℕ) : Type 0 where
  pub truth : Bool
  pub text : t ≡ (if truth then codes "true" else codes "false")
  pub contents : v ≡ Truth truth
  pub suffix : x ≡ []

-- By Rust's grammar, the text is a literal of the kind, with the given value and suffix. It contains no CR, and its suffix
-- contains no white space.
abbrev pub Strict : List ℕ → Kind → Contents → List ℕ → Type 0
Strict t Int v x = StrictInt t v x
Strict t Float v x = StrictFloat t v x
Strict t BoolKind v x = StrictBool t v x
Strict t k v x = StrictCooked t k v x ⊎ StrictRaw t k v x
