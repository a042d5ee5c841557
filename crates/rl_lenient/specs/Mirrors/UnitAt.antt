-- Executable models of private code: the character or escape at the start of a text between quotes. Only proofs use
-- them.
use Rattle.std.specs.Prelude.{ℕ, ◌+◌, ◌*◌, ◌==◌, ◌||◌, ◌&&◌, Bool, not, List, [], ◌∷◌, Option, Some, None, option_and_then, nat_lt, if◌then◌else◌, IsTrue, ⊤, true, false}
use Rattle.std.specs.Char.{IsScalar, digit_value}
use Rattle.std.proofs.Math.Utf8.{scalar}
use Prim.Native.Char.{code}
use Rattle.rl_syntax.specs.declared.kind.Kind.{Kind}
use Rattle.rl_syntax.specs.Quoted.{content_of, decodes_to_chars, is_line_end, is_string, is_plain, allows_code, may_be_hex, allows_unicode_escapes}
use Rattle.rl_syntax.specs.Texts.{begins_char, is_blank}
use Rattle.rl_lenient.specs.declared.units.Piece.{Piece}
use Rattle.rl_lenient.specs.declared.units.Piece.TheVariants.{Character, Byte, Nothing}

-- The value of a parsed character or escape in a literal of the kind.
abbrev pub piece_value : Kind → Piece → List ℕ
piece_value kind (Character c) = content_of kind (c ∷ [])
piece_value kind (Byte b) = b ∷ []
piece_value kind Nothing = []

-- The parsed character or escape is possible in a literal of the kind: a character is a Unicode scalar value, and a
-- byte is ASCII if the literal consists of characters.
abbrev pub IsHeldBy : Kind → Piece → Type 0
IsHeldBy kind (Character c) = IsScalar c
IsHeldBy kind (Byte b) = IsTrue (not (decodes_to_chars kind) || nat_lt b 128)
IsHeldBy kind Nothing = ⊤

abbrev pub is_character : Piece → Bool
is_character (Character c) = true
is_character _ = false

-- Whether the text begins with a character that represents itself, or with an escape `\u`. Each has a character as its
-- value, also in a literal of bytes.
abbrev pub is_character_at : Kind → List ℕ → Bool
is_character_at kind [] = false
is_character_at kind (c ∷ cs) =
    if c == code "\\" then begins_char (code "u") cs else is_plain kind c

infixl 10 ◌>>=◌
abbrev pub ◌>>=◌ : {A B : Type 0} → Option A → (A → Option B) → Option B
o >>= f = option_and_then f o

-- A number and the text after it, if the number is allowed. `None` if the number isn't allowed.
abbrev pub number_if : Bool → ℕ → List ℕ → Option (ℕ × List ℕ)
number_if allowed n rest = if allowed then Some (n, rest) else None

-- The value of a character or escape, and the text after it.
abbrev pub found : List ℕ → List ℕ → Option (List ℕ × List ℕ)
found value rest = Some (value, rest)

-- The value of the escape of a backslash and one character, as LF for `\n`. `None` if it isn't an escape.
abbrev pub named_of : ℕ → Option ℕ
named_of c =
    if c == code "n" then Some (code "\n")
    else (if c == code "r" then Some (code "\r")
    else (if c == code "t" then Some (code "\t")
    else (if c == code "\\" then Some (code "\\")
    else (if c == code "'" then Some (code "'")
    else (if c == code "\"" then Some (code "\"")
    else (if c == code "0" then Some 0 else None))))))

-- The value of the escape of a backslash and one character in a literal of the kind. `None` if the kind doesn't allow
-- it.
abbrev pub named_in : Kind → ℕ → Option ℕ
named_in kind c = named_of c >>= λ n. if allows_code kind n then Some n else None

abbrev pub named_at : Kind → ℕ → List ℕ → Option (List ℕ × List ℕ)
named_at kind c rest = named_in kind c >>= λ n. found (n ∷ []) rest

-- The value of the hexadecimal digit at the start of a text, and the text after it.
abbrev pub digit_at : List ℕ → Option (ℕ × List ℕ)
digit_at [] = None
digit_at (c ∷ cs) = if nat_lt (digit_value c) 16 then Some (digit_value c, cs) else None

-- The number of the two hexadecimal digits of an escape `\x`, and the text after them. `None` if the kind doesn't allow
-- the escape.
unfoldable pub hex_at : Kind → List ℕ → Option (ℕ × List ℕ)
hex_at kind t = do
  high ← digit_at t
  low ← digit_at high.1
  number_if (may_be_hex kind (high.0 * 16 + low.0)) (high.0 * 16 + low.0) low.1

-- The parsed digits of an escape `\u{..}`: the number that they represent, their count, the text from the last digit on, and
-- the text after all digits and underscores.
abbrev pub CodeDigits : Type 0
CodeDigits = ℕ × ℕ × List ℕ × List ℕ

abbrev pub code_digits : ℕ → ℕ → List ℕ → List ℕ → CodeDigits
code_digits v n last rest = (v, n, last, rest)

-- The digits of an escape `\u{..}` that begin a text, with underscores, up to the sixth digit of the escape. Earlier digits
-- of the escape may precede the text. The first three arguments are the value that these digits represent, how many they are,
-- and the text from the last of them on.
unfoldable pub code_digits_at : ℕ → ℕ → List ℕ → List ℕ → CodeDigits
code_digits_at v n last [] = code_digits v n last []
code_digits_at v n last (c ∷ cs) =
    if nat_lt (digit_value c) 16 then
    (if n == 6 then code_digits v n last (c ∷ cs)
    else code_digits_at (v * 16 + digit_value c) (n + 1) (c ∷ cs) cs)
    else (if c == code "_" then code_digits_at v n last cs else code_digits v n last (c ∷ cs))

-- The digits of an escape `\u{..}`, from the text after its brace. `None` if the text doesn't begin with a digit.
abbrev pub first_code_digits_at : List ℕ → Option CodeDigits
first_code_digits_at t = digit_at t >>= λ p. Some (code_digits_at p.0 1 t p.1)

-- The text after the closing brace at its start, or `None` without one.
abbrev pub close_at : List ℕ → Option (List ℕ)
close_at [] = None
close_at (c ∷ cs) = if c == code "}" then Some cs else None

-- The code point that the parsed digits of an escape `\u{..}` represent, and the text after the closing brace. `None` if no
-- brace follows the digits, or if the digits don't represent a character.
abbrev pub closed_at : CodeDigits → Option (ℕ × List ℕ)
closed_at (v, n, last, rest) = close_at rest >>= λ after. number_if (scalar v) v after

-- The text after the opening brace at its start, or `None` without one.
abbrev pub brace_at : List ℕ → Option (List ℕ)
brace_at [] = None
brace_at (c ∷ cs) = if c == code "{" then Some cs else None

-- The code point that an escape `\u{..}` represents, and the text after the escape. The given text follows the `\u`. `None`
-- if a literal of the kind doesn't allow the escape.
unfoldable pub unicode_at : Kind → List ℕ → Option (ℕ × List ℕ)
unicode_at kind t = do
  inside ← brace_at t
  digits ← first_code_digits_at inside
  whole ← closed_at digits
  number_if (allows_unicode_escapes kind && allows_code kind whole.0) whole.0 whole.1

-- The text after the spaces, TABs, LFs and CRs at its start.
unfoldable pub after_blanks : List ℕ → List ℕ
after_blanks [] = []
after_blanks (c ∷ cs) = if is_blank c then after_blanks cs else (c ∷ cs)

-- The value of an escape, and the text after it. The given text follows the escape's backslash. `None` if a literal of
-- the kind doesn't allow the escape.
unfoldable pub escape_at : Kind → List ℕ → Option (List ℕ × List ℕ)
escape_at kind [] = None
escape_at kind (c ∷ cs) =
    if c == code "x" then (hex_at kind cs >>= λ p. found (p.0 ∷ []) p.1)
    else (if c == code "u" then (unicode_at kind cs >>= λ p. found (content_of kind (p.0 ∷ [])) p.1)
    else (if is_line_end c then (if is_string kind then found [] (after_blanks cs) else None)
    else named_at kind c cs))

-- The value of a line end CR LF in a string, which is LF, and the text after it. The given text follows the CR.
abbrev pub line_feed_at : Kind → List ℕ → Option (List ℕ × List ℕ)
line_feed_at kind [] = None
line_feed_at kind (c ∷ cs) =
    if is_string kind && c == code "\n" then found (code "\n" ∷ []) cs else None

-- The value of the character or escape at the start of a text, and the text after it. `None` if a literal of the kind
-- doesn't allow it.
unfoldable pub unit_at : Kind → List ℕ → Option (List ℕ × List ℕ)
unit_at kind [] = None
unit_at kind (c ∷ cs) =
    if c == code "\\" then escape_at kind cs
    else (if is_plain kind c then found (content_of kind (c ∷ [])) cs
    else (if c == code "\r" then line_feed_at kind cs else None))
