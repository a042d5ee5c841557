-- The end of an invalid character or escape in a quoted literal, where parsing continues.
--
-- An invalid escape ends after the character that makes it invalid, as in rustc. If that character is a backslash, which begins
-- the next escape, or the quote, which closes the literal, the escape ends before it.
use Rattle.std.specs.Prelude.{ℕ, ◌==◌, ◌||◌, Bool, true, false, List, [], ◌∷◌, if◌then◌else◌}
use Prim.Native.Char.{code}
use Rattle.rl_syntax.specs.Texts.{is_underscore}
use Rattle.rl_syntax.specs.Quoted.{is_hex_digit}
use Rattle.rl_strict.specs.declared.flaws.FlawKind.{FlawKind}
use Rattle.rl_strict.specs.declared.flaws.FlawKind.TheVariants.{UnknownEscape, NoUnicode, NoHexDigit, NoBrace, EmptyBraces, TooManyDigits, HexEscapeOutOfRange, UnicodeEscapeOutOfRange, Surrogate, Nul, NotAscii, MustEscape, CarriageReturn, TextAfterQuote, ExtraHash, UnderscoreSuffix, BadSuffix}

-- Returns the text without its first character. A backslash or the literal's closing quote isn't skipped.
abbrev pub after_one : ℕ → List ℕ → List ℕ
after_one quote [] = []
after_one quote (c ∷ cs) = if c == code "\\" || c == quote then (c ∷ cs) else cs

-- Returns the text after an invalid `\x` escape. The given text begins after `\x`. The escape ends after its second
-- character, or after its first character if that isn't a hexadecimal digit.
abbrev pub after_hex : ℕ → List ℕ → List ℕ
after_hex quote [] = []
after_hex quote (c ∷ cs) = if is_hex_digit c then after_one quote cs else after_one quote (c ∷ cs)

-- Returns the text after an invalid `\u{..}` escape. The given text begins after the first digit. The further digits and
-- underscores are skipped, and then one character that is neither a backslash nor the literal's closing quote.
unfoldable pub after_code_digits : ℕ → List ℕ → List ℕ
after_code_digits quote [] = []
after_code_digits quote (c ∷ cs) =
    if is_hex_digit c || is_underscore c then after_code_digits quote cs else after_one quote (c ∷ cs)

-- Returns the text after an invalid `\u{..}` escape. The given text begins after the opening brace.
abbrev pub after_brace : ℕ → List ℕ → List ℕ
after_brace quote [] = []
after_brace quote (c ∷ cs) = if is_hex_digit c then after_code_digits quote cs else after_one quote (c ∷ cs)

-- Returns the text after an invalid `\u` escape. The given text begins after `\u`.
abbrev pub after_unicode : ℕ → List ℕ → List ℕ
after_unicode quote [] = []
after_unicode quote (c ∷ cs) = if c == code "{" then after_brace quote cs else after_one quote (c ∷ cs)

-- Returns the text after an invalid escape. The given text begins after the backslash of the escape.
abbrev pub after_escape : ℕ → List ℕ → List ℕ
after_escape quote [] = []
after_escape quote (c ∷ cs) =
    if c == code "x" then after_hex quote cs else (if c == code "u" then after_unicode quote cs else cs)

-- Returns the text after the invalid escape or character with which the given text begins.
abbrev pub after_bad_piece : ℕ → List ℕ → List ℕ
after_bad_piece quote [] = []
after_bad_piece quote (c ∷ cs) = if c == code "\\" then after_escape quote cs else cs

-- The flaw is in a character or an escape between the quotes. In a string, parsing continues after the character or escape.
abbrev pub is_flaw_of_unit : FlawKind → Bool
is_flaw_of_unit UnknownEscape = true
is_flaw_of_unit NoUnicode = true
is_flaw_of_unit NoHexDigit = true
is_flaw_of_unit NoBrace = true
is_flaw_of_unit EmptyBraces = true
is_flaw_of_unit TooManyDigits = true
is_flaw_of_unit HexEscapeOutOfRange = true
is_flaw_of_unit UnicodeEscapeOutOfRange = true
is_flaw_of_unit Surrogate = true
is_flaw_of_unit Nul = true
is_flaw_of_unit NotAscii = true
is_flaw_of_unit MustEscape = true
is_flaw_of_unit CarriageReturn = true
is_flaw_of_unit kind = false

-- The flaw is after the closing quote of a literal.
abbrev pub is_flaw_after_quote : FlawKind → Bool
is_flaw_after_quote TextAfterQuote = true
is_flaw_after_quote ExtraHash = true
is_flaw_after_quote UnderscoreSuffix = true
is_flaw_after_quote BadSuffix = true
is_flaw_after_quote kind = false
