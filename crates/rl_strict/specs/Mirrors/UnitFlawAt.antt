-- An executable model of the code, for proofs only: the kind of flaw of an invalid character or escape in a quoted literal,
-- and the text that begins at the flaw.
use Rattle.std.specs.Prelude.{ℕ, ◌==◌, ◌&&◌, Bool, not, List, [], ◌∷◌, nat_lt, if◌then◌else◌}
use Rattle.std.specs.Char.{digit_value}
use Rattle.std.proofs.Math.Utf8.{scalar}
use Prim.Native.Char.{code}
use Rattle.rl_syntax.specs.declared.kind.Kind.{Kind}
use Rattle.rl_syntax.specs.declared.kind.Kind.TheVariants.{CStr}
use Rattle.rl_syntax.specs.Quoted.{allows_code, allows_unicode_escapes, decodes_to_chars}
use Rattle.rl_lenient.specs.Mirrors.UnitAt.{CodeDigits, code_digits_at}
use Rattle.rl_strict.specs.declared.flaws.FlawKind.{FlawKind}
use Rattle.rl_strict.specs.declared.flaws.FlawKind.TheVariants.{Unclosed, UnknownEscape, NoUnicode, NoHexDigit, NoBrace, EmptyBraces, TooManyDigits, HexEscapeOutOfRange, UnicodeEscapeOutOfRange, Surrogate, Nul, NotAscii, MustEscape, NoCharacter}

abbrev pub FoundFlaw : Type 0
FoundFlaw = FlawKind × List ℕ

abbrev pub found_flaw : FlawKind → List ℕ → FoundFlaw
found_flaw kind rest = (kind, rest)

-- The flaw of an invalid `\x` escape. The argument is the text that begins at the escape's second digit.
abbrev pub low_digit_flaw_at : List ℕ → FoundFlaw
low_digit_flaw_at [] = found_flaw Unclosed []
low_digit_flaw_at (c ∷ cs) =
    if nat_lt (digit_value c) 16 then found_flaw Nul (c ∷ cs) else found_flaw NoHexDigit (c ∷ cs)

-- The flaw of an invalid `\x` escape. The argument is the text after the `x`.
unfoldable pub hex_flaw_at : Kind → List ℕ → FoundFlaw
hex_flaw_at kind [] = found_flaw Unclosed []
hex_flaw_at kind (c ∷ cs) =
    if nat_lt (digit_value c) 16 then
    (if decodes_to_chars kind && nat_lt 7 (digit_value c) then found_flaw HexEscapeOutOfRange (c ∷ cs)
    else low_digit_flaw_at cs)
    else found_flaw NoHexDigit (c ∷ cs)

-- Whether a literal of the kind can contain the character with the code point `v`.
abbrev pub is_code : Kind → ℕ → Bool
is_code kind v = scalar v && allows_code kind v

-- The reason why a literal can't contain the character with the code point `v`: `v` is above 10FFFF, 0, or a surrogate.
abbrev pub code_flaw_of : ℕ → FlawKind
code_flaw_of v = if nat_lt 0x10FFFF v then UnicodeEscapeOutOfRange else (if v == 0 then Nul else Surrogate)

-- The flaw of a `\u{..}` escape whose digits represent the code point `v`. The last argument is the text after the digits.
abbrev pub unclosed_flaw_at : ℕ → List ℕ → FoundFlaw
unclosed_flaw_at v [] = found_flaw Unclosed []
unclosed_flaw_at v (c ∷ cs) =
    if c == code "}" then found_flaw (code_flaw_of v) (c ∷ cs)
    else (if nat_lt (digit_value c) 16 then found_flaw TooManyDigits (c ∷ cs)
    else found_flaw NoHexDigit (c ∷ cs))

-- The flaw of an invalid `\u{..}` escape. The last argument describes the escape's digits: the number `v` that they
-- represent, how many they are, the text from the last digit on, and the text after the digits.
abbrev pub code_flaw_at : Kind → CodeDigits → FoundFlaw
code_flaw_at kind (v, n, last, rest) =
    if n == 6 && not (is_code kind v) then found_flaw (code_flaw_of v) last
    else unclosed_flaw_at v rest

-- The flaw of an invalid `\u{..}` escape. The argument is the text after `\u{`.
unfoldable pub first_digit_flaw_at : Kind → List ℕ → FoundFlaw
first_digit_flaw_at kind [] = found_flaw Unclosed []
first_digit_flaw_at kind (c ∷ cs) =
    if nat_lt (digit_value c) 16
    then code_flaw_at kind (code_digits_at (digit_value c) 1 (c ∷ cs) cs)
    else (if c == code "}" then found_flaw EmptyBraces (c ∷ cs)
    else found_flaw NoHexDigit (c ∷ cs))

-- The flaw of an invalid `\u` escape. The argument is the text after `\u`.
unfoldable pub unicode_flaw_at : Kind → List ℕ → FoundFlaw
unicode_flaw_at kind [] = found_flaw Unclosed []
unicode_flaw_at kind (c ∷ cs) =
    if c == code "{" then first_digit_flaw_at kind cs else found_flaw NoBrace (c ∷ cs)

-- The flaw of an invalid escape. The argument is the text after the backslash.
unfoldable pub escape_flaw_at : Kind → List ℕ → FoundFlaw
escape_flaw_at kind [] = found_flaw Unclosed []
escape_flaw_at kind (c ∷ cs) =
    if c == code "x" then hex_flaw_at kind cs
    else (if c == code "u" then
    (if allows_unicode_escapes kind then unicode_flaw_at kind cs else found_flaw NoUnicode (c ∷ cs))
    else (if c == code "0" then found_flaw Nul (c ∷ cs) else found_flaw UnknownEscape (c ∷ cs)))

-- The reason why a quoted literal can't contain the character unescaped.
abbrev pub character_flaw_of : ℕ → FlawKind
character_flaw_of c =
    if c == 0 then Nul
    else (if c == code "'" then NoCharacter
    else (if nat_lt c 128 then MustEscape else NotAscii))

-- The flaw of a character other than CR that a raw string of the kind can't contain.
abbrev pub spoiled_flaw_of : Kind → FlawKind
spoiled_flaw_of CStr = Nul
spoiled_flaw_of _ = NotAscii
