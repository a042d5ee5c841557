-- The literals of `syn` 3.0.9, src/lit.rs. There is one rule for each function of `syn` that parses a literal or a part of
-- it, under the function's name. The unescaped characters of bytes and byte strings are those that rustc accepts.
use Rattle.std.specs.Prelude.{◌↔◌, ℕ, ◌^◌, ◌-◌, Bool, true, not, ◌&&◌, ◌==◌, nat_le, List, [], ◌∷◌, ◌++◌, codes, length, replicate, encode_utf8_all}
use Rattle.std.specs.List.{list_all}
use Rattle.std.specs.Char.{is_ascii}
use Rattle.std.specs.Str.{all_scalars}
use Prim.Native.Char.{code}
use Rattle.rl_syntax.specs.declared.kind.Kind.{Kind}
use Rattle.rl_syntax.specs.declared.kind.Kind.TheVariants.{Str, ByteStr, CStr, Byte, Char, Int, Float, Bool as BoolKind}
use Rattle.rl_syntax.specs.Spelling.{place_value}
use Rattle.rl_syntax.specs.Reading.{Contents, Reads}
use Rattle.rl_syntax.specs.Readings.{Reading}
use Rattle.rl_theorem.specs.Notation.{Rule, Text, One, Many, As, If, Some, Unless, ◌⋅◌, ◌∣◌, maybe, any_of, but, end, ◌is◌}
use Rattle.rl_theorem.specs.RustRules.{identifier_or_keyword, digit, digits, some_digits, byte_escape, not_nul, byte_literal, ascii_for_string, dec_literal, bin_literal, oct_literal, hex_literal, number, no_prefix, boolean_literal, IsLiteralBy}

-- ---- characters and escapes

-- CR LF is read as LF.
abbrev pub cr_lf : Rule
cr_lf = codes "\r\n" is code "\n"

-- A text of the rule whose value is ASCII.
abbrev pub ascii_only : Rule → Rule
ascii_only a = If (list_all is_ascii) a

-- `backslash_u`: one to six hexadecimal digits in braces, and any number of underscores after the first digit. The number
-- is a Unicode scalar value.
abbrev pub backslash_u : Rule
backslash_u =
    Text (codes "\\u{")
    ⋅ As (λ ds. place_value 16 ds ∷ [])
    (If (λ ds. nat_le (length ds) 6 && all_scalars (place_value 16 ds ∷ [])) (digit 16 ⋅ digits 16))
    ⋅ Text (codes "}")

-- An escaped line end: a backslash, an LF or CR, and all spaces, TABs, LFs and CRs after them.
abbrev pub line_continue : Rule
line_continue =
    As (λ v. []) (Text (codes "\\") ⋅ any_of (codes "\n\r") ⋅ Many (any_of (codes " \t\n\r"))) ⋅ Unless (any_of (codes " \t\n\r"))

-- ---- quoted literals

-- `parse_lit_char`: a character other than `\`, or an escape, between single quotes. `\x` represents an ASCII character.
abbrev pub parse_lit_char : Rule
parse_lit_char = Text (codes "'") ⋅ (One (but (codes "\\")) ∣ ascii_only byte_escape ∣ backslash_u) ⋅ Text (codes "'")

-- Between the quotes of a string: a character other than `"`, `\` and CR, or CR LF, or an escape.
abbrev pub str_inside : Rule
str_inside = One (but (codes "\"\\\r")) ∣ cr_lf ∣ ascii_only byte_escape ∣ backslash_u ∣ line_continue

-- `parse_lit_str_cooked`: any number of these between double quotes.
abbrev pub parse_lit_str_cooked : Rule
parse_lit_str_cooked = Text (codes "\"") ⋅ Many str_inside ⋅ Text (codes "\"")

-- Between the quotes of a byte string: as in a string, but characters are ASCII, and there is no escape `\u{..}`.
abbrev pub byte_str_inside : Rule
byte_str_inside = ascii_for_string ∣ cr_lf ∣ byte_escape ∣ line_continue

-- `parse_lit_byte_str_cooked`: `b`, and any number of these between double quotes.
abbrev pub parse_lit_byte_str_cooked : Rule
parse_lit_byte_str_cooked = Text (codes "b\"") ⋅ Many byte_str_inside ⋅ Text (codes "\"")

-- Between the quotes of a C string: as in a string, but without NUL, and `\x` may be any other byte. The value is bytes.
abbrev pub c_str_inside : Rule
c_str_inside =
    As encode_utf8_all (One (λ c. but (codes "\"\\\r") c && not (c == 0))) ∣ cr_lf ∣ not_nul byte_escape
    ∣ As encode_utf8_all (not_nul backslash_u) ∣ line_continue

-- `parse_lit_c_str_cooked`: `c`, and any number of these between double quotes.
abbrev pub parse_lit_c_str_cooked : Rule
parse_lit_c_str_cooked = Text (codes "c\"") ⋅ Many c_str_inside ⋅ Text (codes "\"")

-- A raw string: the prefix, any number of hashes and `"`, characters that pass the test, and `"` with as many hashes. The
-- closing quote is the last `"` of the whole text.
abbrev pub raw_to_last : List ℕ → (ℕ → Bool) → Rule
raw_to_last prefix test =
    Some (λ hashes. (Text (prefix ++ replicate hashes (code "#") ++ codes "\"") ⋅ Many (One test)
    ⋅ Text (code "\"" ∷ replicate hashes (code "#")))
    ⋅ Unless (Many (One (λ c. true)) ⋅ Text (codes "\"")))

-- `parse_lit_str_raw`: `r`, and any characters.
abbrev pub parse_lit_str_raw : Rule
parse_lit_str_raw = raw_to_last (codes "r") (λ c. true)

-- `parse_lit_byte_str_raw`: `br`, and ASCII characters.
abbrev pub parse_lit_byte_str_raw : Rule
parse_lit_byte_str_raw = raw_to_last (codes "br") is_ascii

-- `parse_lit_c_str_raw`: `cr`, and characters other than NUL. The value is bytes.
abbrev pub parse_lit_c_str_raw : Rule
parse_lit_c_str_raw = As encode_utf8_all (raw_to_last (codes "cr") (λ c. not (c == 0)))

-- ---- numbers

-- The suffix of a number is empty or an identifier, and doesn't begin with `_`.
abbrev pub number_suffix : Rule
number_suffix = Unless (any_of (codes "_")) ⋅ maybe identifier_or_keyword

-- `e` or `E`, digits and underscores with at least one digit, and then nothing or an identifier. With a suffix of this
-- form, a decimal number is a float.
abbrev pub exponent_suffix : Rule
exponent_suffix =
    any_of (codes "eE") ⋅ some_digits 10 ⋅ Unless (digit 10 ∣ Text (codes "_")) ⋅ maybe identifier_or_keyword ⋅ end

-- The value of digits whose number passes the test: the number in base ten.
abbrev pub tested_number : (ℕ → Bool) → ℕ → Rule → Rule
tested_number test base a = number base (If (λ ds. test (place_value base ds)) a)

-- `parse_lit_int`: perhaps a minus, and an integer of one of the four bases. Its number passes the test.
abbrev pub parse_lit_int : (ℕ → Bool) → Rule
parse_lit_int test =
    maybe (any_of (codes "-"))
    ⋅ (no_prefix ⋅ tested_number test 10 dec_literal ⋅ Unless exponent_suffix
    ∣ tested_number test 2 bin_literal ∣ tested_number test 8 oct_literal
    ∣ tested_number test 16 hex_literal ⋅ Unless (digit 16))

-- `parse_lit_float`: perhaps a minus, digits, perhaps a dot and any number of digits, and perhaps an exponent. If there is
-- no exponent, the suffix doesn't begin like one.
abbrev pub parse_lit_float : Rule
parse_lit_float =
    maybe (any_of (codes "-")) ⋅ dec_literal ⋅ maybe (any_of (codes ".") ⋅ digits 10)
    ⋅ ((any_of (codes "e") ∣ codes "E" is code "e") ⋅ Many (Text (codes "_")) ⋅ maybe (Text (codes "+") ∣ any_of (codes "-"))
    ⋅ some_digits 10
    ∣ Unless (any_of (codes "eE") ⋅ Many (Text (codes "_")) ⋅ digit 10))

-- ---- all literals

-- The rules of each kind of literals, without the suffix. `parse_lit_byte` is BYTE_LITERAL. An integer is within 128 bits. A number is a float only if it
-- isn't an integer of any size.
abbrev pub syn_literal : Kind → Rule
syn_literal Str = parse_lit_str_cooked ∣ parse_lit_str_raw
syn_literal ByteStr = parse_lit_byte_str_cooked ∣ parse_lit_byte_str_raw
syn_literal CStr = parse_lit_c_str_cooked ∣ parse_lit_c_str_raw
syn_literal Byte = byte_literal
syn_literal Char = parse_lit_char
syn_literal Int = parse_lit_int (λ n. nat_le n (2 ^ 128 - 1))
syn_literal Float = Unless (parse_lit_int (λ n. true) ⋅ number_suffix ⋅ end) ⋅ parse_lit_float
syn_literal BoolKind = boolean_literal

-- The suffix of a quoted literal is any text.
abbrev pub syn_suffix : Kind → Rule
syn_suffix Int = number_suffix
syn_suffix Float = number_suffix
syn_suffix kind = Many (One (λ c. true))

-- By `syn`'s grammar, which is these rules, the text is a literal with the parse result.
abbrev pub IsSynLiteral : List ℕ → Reading → Type 0
IsSynLiteral text r = IsLiteralBy (syn_literal r.kind) (syn_suffix r.kind) r.kind text r.contents r.suffix

-- `syn`'s grammar is the rules of `syn`.
abbrev pub ReadsIsByTheRules : Type 0
ReadsIsByTheRules =
    (text : List ℕ) (kind : Kind) (contents : Contents) (suffix_text : List ℕ)
    → Reads text kind contents suffix_text ↔ IsSynLiteral text (record { kind = kind; contents = contents; suffix = suffix_text })
