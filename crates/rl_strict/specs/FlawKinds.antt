-- The meaning of each kind of flaw (`FlawKind`) in an invalid escape or character of a quoted literal. The argument `text`
-- begins at the escape or character, and `rest` at the flaw.
use Rattle.std.specs.Prelude.{◌≡◌, ◌≢◌, ℕ, ◌<◌, ◌≤◌, ◌==◌, ◌&&◌, ◌||◌, Bool, not, nat_lt, List, [], codes, ◌∷◌, ◌++◌, length, replicate, IsTrue, IsFalse}
use Rattle.std.specs.Char.{digit_value}
use Rattle.std.specs.List.{list_all}
use Prim.Native.Char.{code}
use Rattle.rl_syntax.specs.declared.kind.Kind.{Kind}
use Rattle.rl_syntax.specs.declared.kind.Kind.TheVariants.{CStr}
use Rattle.rl_syntax.specs.Texts.{first_passes, is_among, is_underscore}
use Rattle.rl_syntax.specs.Quoted.{Letter, letter_text, hex_value, is_hex_digit, is_line_end, is_single, is_string, allows_unicode_escapes, decodes_to_chars}
use Rattle.rl_syntax.specs.Spelling.{place_value, without_underscores}
use Rattle.rl_syntax.specs.Classes.{is_hash}
use Rattle.rl_lexer.specs.Sources.{is_apostrophe}
use Rattle.rl_strict.specs.declared.flaws.FlawKind.{FlawKind}
use Rattle.rl_strict.specs.declared.flaws.FlawKind.TheVariants.{Unclosed, UnknownEscape, NoUnicode, NoHexDigit, NoBrace, EmptyBraces, TooManyDigits, HexEscapeOutOfRange, UnicodeEscapeOutOfRange, Surrogate, Nul, NotAscii, MustEscape, NoCharacter}

-- The text begins with a character that passes the test `test`.
abbrev pub Begins : (ℕ → Bool) → List ℕ → Type 0
Begins test text = IsTrue (first_passes test text)

abbrev pub is_quote : ℕ → Bool
is_quote c = c == code "\""

abbrev pub is_brace : ℕ → Bool
is_brace c = c == code "}"

-- ---- flaws of escapes and characters

-- The text `rest` after a backslash begins with a character that can't follow a backslash, for example `q` in `\q`.
pub record BeginsNoEscape (kind : Kind) (rest : List ℕ) : Type 0 where
  pub first : ℕ
  pub after : List ℕ
  pub rest_is : rest ≡ first ∷ after
  pub no_letter : (letter : Letter) → first ≢ letter_text letter
  pub no_x : first ≢ code "x"
  pub no_u : first ≢ code "u"
  pub no_line_end : IsFalse (is_string kind && is_line_end first)

-- `text` is `\u{`, followed by `digits`, followed by `rest`. `digits` contains only hexadecimal digits and underscores, and
-- begins with a digit.
pub record IsBraced (digits text rest : List ℕ) : Type 0 where
  pub begins : Begins is_hex_digit digits
  pub each : IsTrue (list_all (λ c. is_underscore c || is_hex_digit c) digits)
  pub text_is : text ≡ codes "\\u{" ++ (digits ++ rest)

abbrev pub digit_count : List ℕ → ℕ
digit_count digits = length (without_underscores digits)

abbrev pub number_of : List ℕ → ℕ
number_of digits = place_value 16 (without_underscores digits)

-- A hexadecimal digit is missing after `\x`, after the opening brace of `\u{..}`, or after its digits. `text` begins at the
-- escape, and `rest` where a digit is missing.
pub data MissesDigit (text rest : List ℕ) : Type 0 where
  FirstDigit : text ≡ codes "\\x" ++ rest → Begins (λ c. not (is_hex_digit c)) rest
      → MissesDigit text rest
  SecondDigit : (high : ℕ) → IsTrue (is_hex_digit high) → text ≡ codes "\\x" ++ (high ∷ rest)
      → Begins (λ c. not (is_hex_digit c)) rest → MissesDigit text rest
  AfterBrace : text ≡ codes "\\u{" ++ rest → Begins (λ c. not (is_hex_digit c || is_brace c)) rest
      → MissesDigit text rest
  AfterDigits : (digits : List ℕ) → IsBraced digits text rest
      → Begins (λ c. not (is_hex_digit c || is_brace c || is_underscore c)) rest
      → MissesDigit text rest

-- A literal of the kind can't contain the character with the given code point. The kind of flaw is the reason: the code
-- point is above 10FFFF, is a surrogate, or is 0 in a C string.
abbrev pub IsNoCode : Kind → FlawKind → ℕ → Type 0
IsNoCode kind UnicodeEscapeOutOfRange number = 0x10FFFF < number
IsNoCode kind Surrogate number = (0xD800 ≤ number) × (number ≤ 0xDFFF)
IsNoCode kind Nul number = (kind ≡ CStr) × (number ≡ 0)
IsNoCode kind _ number = ⊥

-- The code point that the digits of a `\u{..}` escape represent isn't allowed in a literal of the kind. The flaw is at the
-- closing brace after up to five digits, or at the sixth digit.
pub data HasNoCode (kind : Kind) (flaw : FlawKind) (text rest : List ℕ) : Type 0 where
  AtBrace : (digits : List ℕ) → IsBraced digits text rest → digit_count digits ≤ 5
      → Begins is_brace rest → IsNoCode kind flaw (number_of digits) → HasNoCode kind flaw text rest
  AtSixth : (digits : List ℕ) (sixth : ℕ) (after : List ℕ) → IsBraced digits text rest
      → digit_count digits ≡ 5 → rest ≡ sixth ∷ after → IsTrue (is_hex_digit sixth)
      → IsNoCode kind flaw (number_of (digits ++ (sixth ∷ []))) → HasNoCode kind flaw text rest

-- The escape or character is a NUL: unescaped, `\0`, `\x00`, or `\u{0}`. `text` begins at the escape or character, and
-- `rest` at the flaw.
pub data IsNul (kind : Kind) (text rest : List ℕ) : Type 0 where
  AsItIs : text ≡ rest → Begins (λ c. c == 0) rest → IsNul kind text rest
  ByLetter : text ≡ codes "\\" ++ rest → Begins (λ c. c == code "0") rest → IsNul kind text rest
  ByDigits : (high low : ℕ) (after : List ℕ) → text ≡ codes "\\x" ++ (high ∷ rest)
      → rest ≡ low ∷ after → IsTrue (is_hex_digit high) → IsTrue (is_hex_digit low)
      → hex_value high low ≡ 0 → IsNul kind text rest
  ByNumber : HasNoCode kind Nul text rest → IsNul kind text rest

-- The meaning of a kind of flaw in an escape or character. `text` begins at the escape or character, and `rest` at the flaw.
abbrev pub UnitFlaw : Kind → FlawKind → List ℕ → List ℕ → Type 0
UnitFlaw kind Unclosed text rest = rest ≡ []
UnitFlaw kind UnknownEscape text rest = (text ≡ codes "\\" ++ rest) × BeginsNoEscape kind rest
UnitFlaw kind NoUnicode text rest =
    IsFalse (allows_unicode_escapes kind) × (text ≡ codes "\\" ++ rest) × Begins (λ c. c == code "u") rest
UnitFlaw kind NoHexDigit text rest = MissesDigit text rest
UnitFlaw kind NoBrace text rest = (text ≡ codes "\\u" ++ rest) × Begins (λ c. not (c == code "{")) rest
UnitFlaw kind EmptyBraces text rest = (text ≡ codes "\\u{" ++ rest) × Begins is_brace rest
UnitFlaw kind TooManyDigits text rest =
    (digits : List ℕ) × IsBraced digits text rest × (digit_count digits ≡ 6)
    × Begins is_hex_digit rest
UnitFlaw kind HexEscapeOutOfRange text rest =
    IsTrue (decodes_to_chars kind) × (text ≡ codes "\\x" ++ rest)
    × Begins (λ c. is_hex_digit c && nat_lt 7 (digit_value c)) rest
UnitFlaw kind UnicodeEscapeOutOfRange text rest = HasNoCode kind UnicodeEscapeOutOfRange text rest
UnitFlaw kind Surrogate text rest = HasNoCode kind Surrogate text rest
UnitFlaw kind Nul text rest = (kind ≡ CStr) × IsNul kind text rest
UnitFlaw kind NotAscii text rest = IsFalse (allows_unicode_escapes kind) × (text ≡ rest) × Begins (λ c. not (nat_lt c 128)) rest
UnitFlaw kind MustEscape text rest = IsTrue (is_single kind) × (text ≡ rest) × Begins (is_among (codes "\n\r\t")) rest
UnitFlaw kind NoCharacter text rest = IsTrue (is_single kind) × (text ≡ rest) × Begins is_apostrophe rest
UnitFlaw kind _ text rest = ⊥

-- ---- flaws of raw strings

-- The text after a raw string's prefix is hashes followed by `rest`, which begins with neither a hash nor a quote. So the
-- raw string has no opening quote.
pub record IsUnopened (text rest : List ℕ) : Type 0 where
  pub hashes : ℕ
  pub text_is : text ≡ replicate hashes (code "#") ++ rest
  pub no_hash : IsFalse (first_passes is_hash rest)
  pub no_quote : IsFalse (first_passes is_quote rest)
