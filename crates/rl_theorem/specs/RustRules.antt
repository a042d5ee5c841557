-- The literals of the Rust Reference, chapter Tokens. There is one rule for each production. The production has the same name
-- in capital letters, or the name that begins the rule's comment.
use Rattle.std.specs.Prelude.{◌≡◌, ◌↔◌, ℕ, Bool, true, not, ◌&&◌, ◌==◌, nat_lt, nat_le, List, [], ◌∷◌, ◌++◌, codes, length, replicate, encode_utf8_all}
use Rattle.std.specs.List.{list_any, list_all}
use Rattle.std.specs.Char.{digit_value, is_ascii}
use Rattle.std.specs.Str.{all_scalars}
use Rattle.unicode_ident.specs.Ident.{is_xid_start, is_xid_continue}
use Prim.Native.Char.{code}
use Rattle.rl_syntax.specs.declared.kind.Kind.{Kind}
use Rattle.rl_syntax.specs.declared.kind.Kind.TheVariants.{Str, ByteStr, CStr, Byte, Char, Int, Float, Bool as BoolKind}
use Rattle.rl_syntax.specs.Spelling.{place_value}
use Rattle.rl_syntax.specs.Reading.{Contents, Digits, Truth, quoted_contents}
use Rattle.rl_syntax.specs.Readings.{Reading}
use Rattle.rl_syntax.specs.Strict.{Strict, dec}
use Rattle.rl_theorem.specs.Notation.{Rule, Text, One, Many, As, If, Some, Unless, ◌⋅◌, ◌∣◌, Means, maybe, any_of, but, end, ◌is◌}

-- ---- suffixes

-- IDENTIFIER_OR_KEYWORD: a character of XID_Start, or `_`, and then any number of characters of XID_Continue.
abbrev pub identifier_or_keyword : Rule
identifier_or_keyword = (any_of (codes "_") ∣ One is_xid_start) ⋅ Many (One is_xid_continue)

-- SUFFIX: an identifier or keyword other than `_`.
abbrev pub suffix : Rule
suffix = Unless (Text (codes "_") ⋅ end) ⋅ identifier_or_keyword

-- ---- digits

-- BIN_DIGIT, OCT_DIGIT, DEC_DIGIT, HEX_DIGIT: a digit of the base 2, 8, 10 or 16. Letters may have either case.
abbrev pub digit : ℕ → Rule
digit base = One (λ c. nat_lt (digit_value c) base)

-- Any number of digits and underscores. Its value is the digits.
abbrev pub digits : ℕ → Rule
digits base = Many (digit base ∣ Text (codes "_"))

-- Digits and underscores, with at least one digit. Its value is the digits.
abbrev pub some_digits : ℕ → Rule
some_digits base = digits base ⋅ digit base ⋅ digits base

-- ---- escapes

-- QUOTE_ESCAPE: an escaped quote.
abbrev pub quote_escape : Rule
quote_escape = codes "\\'" is code "'" ∣ codes "\\\"" is code "\""

-- The escapes of a letter, a backslash or `0`, which ASCII_ESCAPE and BYTE_ESCAPE both list.
abbrev pub letter_escape : Rule
letter_escape =
    codes "\\n" is code "\n" ∣ codes "\\r" is code "\r" ∣ codes "\\t" is code "\t" ∣ codes "\\\\" is code "\\"
    ∣ codes "\\0" is 0

-- `\x` and two hexadecimal digits. The first digit is below the limit.
abbrev pub x_escape : ℕ → Rule
x_escape below = Text (codes "\\x") ⋅ As (λ ds. place_value 16 ds ∷ []) (digit below ⋅ digit 16)

-- ASCII_ESCAPE: `\x` with an octal and a hexadecimal digit, or the escape of a letter.
abbrev pub ascii_escape : Rule
ascii_escape = x_escape 8 ∣ letter_escape

-- BYTE_ESCAPE: `\x` with two hexadecimal digits, or the escape of a letter or of a quote.
abbrev pub byte_escape : Rule
byte_escape = x_escape 16 ∣ letter_escape ∣ quote_escape

-- UNICODE_ESCAPE: `\u{`, one to six hexadecimal digits with any number of underscores after each, and `}`. The number is
-- a Unicode scalar value.
abbrev pub u_escape : Rule
u_escape =
    Text (codes "\\u{")
    ⋅ As (λ ds. place_value 16 ds ∷ [])
    (If (λ ds. nat_le 1 (length ds) && nat_le (length ds) 6 && all_scalars (place_value 16 ds ∷ []))
    (Many (digit 16 ⋅ Many (Text (codes "_")))))
    ⋅ Text (codes "}")

-- STRING_CONTINUE: a backslash and an LF. By chapter Literal expressions, all spaces, TABs and LFs after them are dropped.
abbrev pub string_continue : Rule
string_continue = As (λ v. []) (Text (codes "\\\n") ⋅ Many (any_of (codes " \t\n"))) ⋅ Unless (any_of (codes " \t\n"))

-- ---- quoted literals

-- CHAR_LITERAL: a character other than `'`, `\`, LF, CR and TAB, or an escape, between single quotes.
abbrev pub char_literal : Rule
char_literal =
    Text (codes "'") ⋅ (One (but (codes "'\\\n\r\t")) ∣ quote_escape ∣ ascii_escape ∣ u_escape) ⋅ Text (codes "'")

-- STRING_LITERAL: any number of characters other than `"`, `\` and CR, and of escapes, between double quotes.
abbrev pub string_literal : Rule
string_literal =
    Text (codes "\"")
    ⋅ Many (One (but (codes "\"\\\r")) ∣ quote_escape ∣ ascii_escape ∣ u_escape ∣ string_continue) ⋅ Text (codes "\"")

-- ASCII_FOR_CHAR: an ASCII character other than `'`, `\`, LF, CR and TAB.
abbrev pub ascii_for_char : Rule
ascii_for_char = One (λ c. is_ascii c && but (codes "'\\\n\r\t") c)

-- BYTE_LITERAL: `b`, and ASCII_FOR_CHAR or BYTE_ESCAPE between single quotes.
abbrev pub byte_literal : Rule
byte_literal = Text (codes "b'") ⋅ (ascii_for_char ∣ byte_escape) ⋅ Text (codes "'")

-- ASCII_FOR_STRING: an ASCII character other than `"`, `\` and CR.
abbrev pub ascii_for_string : Rule
ascii_for_string = One (λ c. is_ascii c && but (codes "\"\\\r") c)

-- BYTE_STRING_LITERAL: `b`, and any number of ASCII_FOR_STRING, BYTE_ESCAPE and STRING_CONTINUE between double quotes.
abbrev pub byte_string_literal : Rule
byte_string_literal =
    Text (codes "b\"") ⋅ Many (ascii_for_string ∣ byte_escape ∣ string_continue) ⋅ Text (codes "\"")

-- A text of the rule whose value has no NUL.
abbrev pub not_nul : Rule → Rule
not_nul a = If (list_all (λ c. not (c == 0))) a

-- C_STRING_LITERAL: `c`, and any number of characters other than `"`, `\`, CR and NUL, and of escapes that aren't NUL,
-- between double quotes. The value is bytes. Characters are encoded as UTF-8, and `\x` is one byte.
abbrev pub c_string_literal : Rule
c_string_literal =
    Text (codes "c\"")
    ⋅ Many (As encode_utf8_all (One (λ c. but (codes "\"\\\r") c && not (c == 0))) ∣ not_nul byte_escape
    ∣ As encode_utf8_all (not_nul u_escape) ∣ string_continue) ⋅ Text (codes "\"")

-- A raw literal: the prefix, at most 255 hashes and `"`, any number of characters other than CR that pass the test, and the
-- first `"` with as many hashes after it.
abbrev pub raw : List ℕ → (ℕ → Bool) → Rule
raw prefix test =
    Some (λ hashes. If (λ v. nat_lt hashes 256)
    (Text (prefix ++ replicate hashes (code "#") ++ codes "\"")
    ⋅ Many (Unless (Text (code "\"" ∷ replicate hashes (code "#"))) ⋅ One (λ c. test c && but (codes "\r") c))
    ⋅ Text (code "\"" ∷ replicate hashes (code "#"))))

-- RAW_STRING_LITERAL: `r`, and any characters.
abbrev pub raw_string_literal : Rule
raw_string_literal = raw (codes "r") (λ c. true)

-- RAW_BYTE_STRING_LITERAL: `br`, and ASCII characters.
abbrev pub raw_byte_string_literal : Rule
raw_byte_string_literal = raw (codes "br") is_ascii

-- RAW_C_STRING_LITERAL: `cr`, and characters other than NUL. The value is bytes.
abbrev pub raw_c_string_literal : Rule
raw_c_string_literal = As encode_utf8_all (raw (codes "cr") (λ c. not (c == 0)))

-- ---- numbers

-- DEC_LITERAL: a digit, and then any number of digits and underscores.
abbrev pub dec_literal : Rule
dec_literal = digit 10 ⋅ digits 10

-- BIN_LITERAL: `0b`, and digits of base 2 and underscores with at least one digit.
abbrev pub bin_literal : Rule
bin_literal = Text (codes "0b") ⋅ some_digits 2

-- OCT_LITERAL: `0o`, and the same in base 8.
abbrev pub oct_literal : Rule
oct_literal = Text (codes "0o") ⋅ some_digits 8

-- HEX_LITERAL: `0x`, and the same in base 16.
abbrev pub hex_literal : Rule
hex_literal = Text (codes "0x") ⋅ some_digits 16

-- The value of digits: their number in base ten.
abbrev pub number : ℕ → Rule → Rule
number base a = As (λ ds. dec (place_value base ds)) a

-- A number with a base's prefix isn't decimal.
abbrev pub no_prefix : Rule
no_prefix = Unless (Text (codes "0b") ∣ Text (codes "0o") ∣ Text (codes "0x"))

-- INTEGER_LITERAL: a literal of one of the four bases, with SUFFIX_NO_E. The digits are as long as possible, so that neither
-- `_` nor, in base 16, a digit begins the suffix.
abbrev pub integer_literal : Rule
integer_literal =
    (no_prefix ⋅ number 10 dec_literal ∣ number 2 bin_literal ∣ number 8 oct_literal ∣ number 16 hex_literal ⋅ Unless (digit 16))
    ⋅ Unless (any_of (codes "eE_"))

-- FLOAT_EXPONENT: `e` or `E`, perhaps a sign, and digits and underscores with at least one digit. Its value has `e`, and
-- no `+`.
abbrev pub float_exponent : Rule
float_exponent =
    (any_of (codes "e") ∣ codes "E" is code "e") ⋅ maybe (Text (codes "+") ∣ any_of (codes "-")) ⋅ some_digits 10

-- FLOAT_LITERAL, in three forms. The first is digits and a dot at the end of the text. The second is digits, a dot and
-- digits, with SUFFIX_NO_E. The third is digits, perhaps a dot and digits, and an exponent.
abbrev pub float_literal : Rule
float_literal =
    no_prefix
    ⋅ (dec_literal ⋅ any_of (codes ".") ⋅ end
    ∣ dec_literal ⋅ any_of (codes ".") ⋅ dec_literal ⋅ Unless (any_of (codes "eE"))
    ∣ dec_literal ⋅ maybe (any_of (codes ".") ⋅ dec_literal) ⋅ float_exponent)
    ⋅ Unless (any_of (codes "_"))

-- `true` or `false`, which have no suffix. In the value, 1 is `true`.
abbrev pub boolean_literal : Rule
boolean_literal = (codes "true" is 1 ∣ codes "false" is 0) ⋅ end

-- ---- all literals

-- The rules of each kind of literals, without the suffix.
abbrev pub literal : Kind → Rule
literal Str = string_literal ∣ raw_string_literal
literal ByteStr = byte_string_literal ∣ raw_byte_string_literal
literal CStr = c_string_literal ∣ raw_c_string_literal
literal Byte = byte_literal
literal Char = char_literal
literal Int = integer_literal
literal Float = float_literal
literal BoolKind = boolean_literal

-- The value of a literal's rule as the value of the literal.
abbrev pub as_contents : Kind → List ℕ → Contents
as_contents Int value = Digits value
as_contents Float value = Digits value
as_contents BoolKind value = Truth (list_any (λ c. c == 1) value)
as_contents kind value = quoted_contents kind value

-- By the rule, the text is a literal of the kind, with the given value and suffix. The suffix is a text of the rule `tail`.
pub record IsLiteralBy (rule tail : Rule) (kind : Kind) (text : List ℕ) (contents : Contents) (suffix_text : List ℕ)
    : Type 0 where
  pub body : List ℕ
  pub value : List ℕ
  pub text_is : text ≡ body ++ suffix_text
  pub is_body : Means rule body suffix_text value
  pub is_suffix : (v : List ℕ) × Means tail suffix_text [] v
  pub contents_is : contents ≡ as_contents kind value

-- By Rust's grammar, which is the rules of the Reference, the text is a literal with the parse result.
abbrev pub IsLiteral : List ℕ → Reading → Type 0
IsLiteral text r = IsLiteralBy (literal r.kind) (maybe suffix) r.kind text r.contents r.suffix

-- Rust's grammar is the rules of the Reference.
abbrev pub StrictIsByTheRules : Type 0
StrictIsByTheRules =
    (text : List ℕ) (kind : Kind) (contents : Contents) (suffix_text : List ℕ)
    → Strict text kind contents suffix_text ↔ IsLiteral text (record { kind = kind; contents = contents; suffix = suffix_text })
