-- Quoted literals of the lenient grammar: strings with escapes, raw strings, and single characters and bytes. They are
-- those of `syn` 3.0.9, src/lit.rs, and each definition names its functions of `syn`. The unescaped characters of byte
-- literals and byte strings are those that rustc accepts.
pub use Rattle.rl_syntax.specs.Texts.{is_blank}
use Rattle.std.specs.Prelude.{◌≡◌, ℕ, ◌≤◌, Bool, true, false, not, ◌&&◌, ◌||◌, ◌==◌, nat_lt, List, [], codes, ◌∷◌, ◌++◌, length, replicate, IsTrue, IsFalse, ⊤, encode_utf8_all, if◌then◌else◌}
use Rattle.std.specs.Char.{IsScalar, digit_value}
use Rattle.std.specs.List.{list_all, flat_map, AllByRecursion}
use Prim.Native.Char.{code}
use Rattle.rl_syntax.specs.declared.kind.Kind.{Kind}
use Rattle.rl_syntax.specs.declared.kind.Kind.TheVariants.{Str, ByteStr, CStr, Byte, Char, Int, Float}
use Rattle.rl_syntax.specs.Texts.{first_passes, is_underscore}
use Rattle.rl_syntax.specs.Spelling.{place_value, without_underscores}

-- The escapes of a backslash and one character: `\n`, `\r`, `\t`, `\\`, `\'`, `\"` and `\0`.
pub data Letter : Type 0 where
  LowerN : Letter
  LowerR : Letter
  LowerT : Letter
  Backslash : Letter
  Apostrophe : Letter
  Quote : Letter
  Zero : Letter

abbrev pub letter_text : Letter → ℕ
letter_text LowerN = code "n"
letter_text LowerR = code "r"
letter_text LowerT = code "t"
letter_text Backslash = code "\\"
letter_text Apostrophe = code "'"
letter_text Quote = code "\""
letter_text Zero = code "0"

abbrev pub letter_value : Letter → ℕ
letter_value LowerN = code "\n"
letter_value LowerR = code "\r"
letter_value LowerT = code "\t"
letter_value Backslash = code "\\"
letter_value Apostrophe = code "'"
letter_value Quote = code "\""
letter_value Zero = 0

-- A unit of the text between a literal's quotes: a character or an escape.
pub data QuotedUnit : Type 0 where
  -- A character that is its own value.
  Plain : (c : ℕ) → QuotedUnit
  -- The line end CR LF.
  CrLf : QuotedUnit
  Named : (letter : Letter) → QuotedUnit
  -- The escape `\xHH`, with its two hexadecimal digits. In `syn`: `backslash_x`.
  Hex : (high low : ℕ) → QuotedUnit
  -- The escape `\u{..}`, with its first digit, and the characters between that digit and the closing brace. In `syn`:
  -- `backslash_u`.
  Unicode : (first : ℕ) (more : List ℕ) → QuotedUnit
  -- An escaped line end: a backslash, a CR or LF, and the white space after it.
  Continuation : (line_end : ℕ) (run : List ℕ) → QuotedUnit

abbrev pub unit_text : QuotedUnit → List ℕ
unit_text (Plain c) = c ∷ []
unit_text CrLf = code "\r" ∷ code "\n" ∷ []
unit_text (Named letter) = code "\\" ∷ letter_text letter ∷ []
unit_text (Hex high low) = code "\\" ∷ code "x" ∷ high ∷ low ∷ []
unit_text (Unicode first more) = code "\\" ∷ code "u" ∷ code "{" ∷ first ∷ (more ++ (code "}" ∷ []))
unit_text (Continuation line_end run) = code "\\" ∷ line_end ∷ run

-- Whether the value of a literal of the kind consists of characters, as for strings and characters. The values of the other
-- quoted kinds consist of bytes.
abbrev pub decodes_to_chars : Kind → Bool
decodes_to_chars Str = true
decodes_to_chars Char = true
decodes_to_chars _ = false

-- The value of characters in a literal of the kind: the characters, or their bytes in UTF-8.
abbrev pub content_of : Kind → List ℕ → List ℕ
content_of kind cs = if decodes_to_chars kind then cs else encode_utf8_all cs

abbrev pub hex_value : ℕ → ℕ → ℕ
hex_value high low = place_value 16 (high ∷ low ∷ [])

abbrev pub unicode_value : ℕ → List ℕ → ℕ
unicode_value first more = place_value 16 (without_underscores (first ∷ more))

-- The value of a character or escape in a literal of the kind.
abbrev pub unit_value : Kind → QuotedUnit → List ℕ
unit_value kind (Plain c) = content_of kind (c ∷ [])
unit_value kind CrLf = code "\n" ∷ []
unit_value kind (Named letter) = letter_value letter ∷ []
unit_value kind (Hex high low) = hex_value high low ∷ []
unit_value kind (Unicode first more) = content_of kind (unicode_value first more ∷ [])
unit_value kind (Continuation line_end run) = []

abbrev pub is_hex_digit : ℕ → Bool
is_hex_digit c = nat_lt (digit_value c) 16

abbrev pub is_line_end : ℕ → Bool
is_line_end c = c == code "\n" || c == code "\r"

abbrev pub is_string : Kind → Bool
is_string Str = true
is_string ByteStr = true
is_string CStr = true
is_string _ = false

abbrev pub is_single : Kind → Bool
is_single Byte = true
is_single Char = true
is_single _ = false

-- Whether a literal of the kind may contain the character unescaped.
abbrev pub is_plain : Kind → ℕ → Bool
is_plain Str c = not (c == code "\"" || c == code "\\" || c == code "\r")
is_plain ByteStr c = nat_lt c 128 && not (c == code "\"" || c == code "\\" || c == code "\r")
is_plain CStr c = not (c == code "\"" || c == code "\\" || c == code "\r" || c == 0)
is_plain Char c = not (c == code "\\")
is_plain Byte c =
    nat_lt c 128
    && not (c == code "'" || c == code "\\" || c == code "\n" || c == code "\r" || c == code "\t")
is_plain _ c = false

-- Whether the value of a literal of the kind may contain the given code point or byte. Only a C string excludes one, which
-- is 0.
abbrev pub allows_code : Kind → ℕ → Bool
allows_code CStr n = not (n == 0)
allows_code _ n = true

-- Whether a raw string of the kind may contain the character.
abbrev pub is_raw : Kind → ℕ → Bool
is_raw ByteStr c = nat_lt c 128
is_raw kind c = allows_code kind c

-- Whether a literal of the kind may contain the escape `\xHH` whose two digits represent the given number. The number is
-- below 128 in a literal of characters, and isn't 0 in a C string. `allows_unicode_escapes` is the condition for escapes
-- `\u{..}`.
abbrev pub may_be_hex : Kind → ℕ → Bool
may_be_hex kind n = allows_code kind n && (not (decodes_to_chars kind) || nat_lt n 128)

abbrev pub allows_unicode_escapes : Kind → Bool
allows_unicode_escapes ByteStr = false
allows_unicode_escapes Byte = false
allows_unicode_escapes _ = true

-- The character or escape is allowed in a literal of the kind.
abbrev pub IsUnit : Kind → QuotedUnit → Type 0
IsUnit kind (Plain c) = IsTrue (is_plain kind c)
IsUnit kind CrLf = IsTrue (is_string kind)
IsUnit kind (Named letter) = IsTrue (allows_code kind (letter_value letter))
IsUnit kind (Hex high low) =
    IsTrue (is_hex_digit high) × IsTrue (is_hex_digit low)
    × IsTrue (may_be_hex kind (hex_value high low))
IsUnit kind (Unicode first more) =
    IsTrue (allows_unicode_escapes kind) × IsTrue (is_hex_digit first)
    × IsTrue (list_all (λ c. is_underscore c || is_hex_digit c) more)
    × (length (without_underscores (first ∷ more)) ≤ 6)
    × IsScalar (unicode_value first more) × IsTrue (allows_code kind (unicode_value first more))
IsUnit kind (Continuation line_end run) =
    IsTrue (is_string kind) × IsTrue (is_line_end line_end) × IsTrue (list_all is_blank run)

abbrev pub texts : List QuotedUnit → List ℕ
texts us = flat_map unit_text us

abbrev pub values : Kind → List QuotedUnit → List ℕ
values kind us = flat_map (unit_value kind) us

-- The text `after` may follow the unit, which is a character or an escape. An escaped line end includes all white space
-- after it, so white space can't follow an escaped line end.
abbrev pub EndsBefore : QuotedUnit → List ℕ → Type 0
EndsBefore (Continuation line_end run) after = IsFalse (first_passes is_blank after)
EndsBefore _ after = ⊤

abbrev pub ContinuationsEnd : List QuotedUnit → Type 0
ContinuationsEnd [] = ⊤
ContinuationsEnd (u ∷ us) = EndsBefore u (texts us) × ContinuationsEnd us

-- The text that begins a quoted literal of the kind: its prefix and its quote.
abbrev pub opener : Kind → List ℕ
opener Str = codes "\""
opener ByteStr = codes "b\""
opener CStr = codes "c\""
opener Byte = codes "b'"
opener Char = codes "'"
opener _ = []

-- The text that begins a raw string of the kind, before its hashes: `r`, `br` or `cr`.
abbrev pub raw_opener : Kind → List ℕ
raw_opener Str = codes "r"
raw_opener ByteStr = codes "br"
raw_opener CStr = codes "cr"
raw_opener _ = []

-- The text is a string literal with escapes, with the given value and suffix: characters and escapes between quotes, and the
-- suffix. In `syn`: `parse_lit_str_cooked`, `parse_lit_byte_str_cooked`, `parse_lit_c_str_cooked`.
pub record Cooked (kind : Kind) (text value suffix : List ℕ) : Type 0 where
  pub units : List QuotedUnit
  pub string : IsTrue (is_string kind)
  pub each : AllByRecursion (IsUnit kind) units
  pub ends : ContinuationsEnd units
  pub text_is : text ≡ opener kind ++ (texts units ++ (code "\"" ∷ suffix))
  pub value_is : value ≡ values kind units

-- The text is a raw string literal with the given value and suffix. Its body is the text between its first and its last quote,
-- since the suffix contains no quote. In `syn`: `parse_lit_str_raw`, `parse_lit_byte_str_raw`, `parse_lit_c_str_raw`.
pub record Raw (kind : Kind) (text value suffix : List ℕ) : Type 0 where
  pub hashes : ℕ
  pub inside : List ℕ
  pub string : IsTrue (is_string kind)
  pub each : IsTrue (list_all (is_raw kind) inside)
  pub no_quote : IsTrue (list_all (λ c. not (c == code "\"")) suffix)
  pub text_is : text ≡ raw_opener kind
      ++ (replicate hashes (code "#")
      ++ (code "\"" ∷ (inside ++ (code "\"" ∷ (replicate hashes (code "#") ++ suffix)))))
  pub value_is : value ≡ content_of kind inside

-- The text is a character or byte literal with the given value and suffix: one character or escape between single quotes. In
-- `syn`: `parse_lit_char`, `parse_lit_byte`.
pub record Single (kind : Kind) (text value suffix : List ℕ) : Type 0 where
  pub unit : QuotedUnit
  pub single : IsTrue (is_single kind)
  pub is_unit : IsUnit kind unit
  pub text_is : text ≡ opener kind ++ (unit_text unit ++ (code "'" ∷ suffix))
  pub value_is : value ≡ unit_value kind unit

-- Whether the kind is that of integers or floats.
abbrev pub is_number : Kind → Bool
is_number Int = true
is_number Float = true
is_number _ = false
