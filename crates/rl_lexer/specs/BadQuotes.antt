-- Invalid quoted literals of a source, such as `''` and `'ab'`. At the start of an invalid quoted literal, neither a
-- valid literal nor a lifetime begins. The source contains the end of the invalid literal. rustc also lexes the invalid
-- literal as one token, and continues after that token.
use Rattle.std.specs.Prelude.{◌≡◌, ℕ, Bool, false, not, ◌||◌, ◌==◌, List, [], codes, ◌∷◌, ◌++◌, IsTrue, ⊤}
use Rattle.std.specs.Char.{is_ascii_digit}
use Rattle.std.specs.List.{list_all}
use Prim.Native.Char.{code}
use Rattle.rl_syntax.specs.Texts.{first_passes, begins_char, is_start, is_continue}
use Rattle.rl_lexer.specs.Lexemes.{BodyPart, PlainPart, EscapedPart, body_text, IsRun, IsLexedSuffix}

pub data BadQuote : Type 0 where
  -- An identifier, or text that begins with a digit, between apostrophes: `'ab'`, `'12'`.
  WordQuote : (first : ℕ) (more : List ℕ) → BadQuote
  -- A raw identifier between apostrophes: `'r#ab'`.
  RawWordQuote : (first : ℕ) (more : List ℕ) → BadQuote
  -- An apostrophe, a digit and the identifier characters after it, without a closing apostrophe: `'1a`.
  DigitQuote : (digit : ℕ) (more : List ℕ) → BadQuote
  -- Any other text from an apostrophe up to the next one, and a suffix: `''`, `'+-'u8`.
  OtherQuote : (parts : List BodyPart) (suffix : List ℕ) → BadQuote
  -- Everything from `b'` up to the next apostrophe, and a suffix: `b'hello'`.
  ByteQuote : (parts : List BodyPart) (suffix : List ℕ) → BadQuote

abbrev pub bad_quote_text : BadQuote → List ℕ
bad_quote_text (WordQuote c more) = code "'" ∷ c ∷ more ++ codes "'"
bad_quote_text (RawWordQuote c more) = code "'" ∷ code "r" ∷ code "#" ∷ c ∷ more ++ codes "'"
bad_quote_text (DigitQuote c more) = code "'" ∷ c ∷ more
bad_quote_text (OtherQuote parts suffix) = code "'" ∷ body_text parts ++ code "'" ∷ suffix
bad_quote_text (ByteQuote parts suffix) = code "b" ∷ code "'" ∷ body_text parts ++ code "'" ∷ suffix

-- A condition on the text between the apostrophes of an invalid quoted literal. An apostrophe or a slash occurs in the
-- text only after a backslash. An LF that doesn't follow a backslash is the last character of the text.
abbrev pub IsQuoteBody : List BodyPart → Type 0
IsQuoteBody [] = ⊤
IsQuoteBody (PlainPart c ∷ parts) =
    IsTrue (not (c == code "'" || c == code "\\" || c == code "/")) × (c ≡ code "\n" → parts ≡ []) × IsQuoteBody parts
IsQuoteBody (EscapedPart c ∷ parts) = IsQuoteBody parts

abbrev pub begins_escape : ℕ → Bool
begins_escape c = c == code "\\"

-- Whether a character begins an identifier, a number or an escape.
abbrev pub begins_word_or_escape : ℕ → Bool
begins_word_or_escape c = begins_escape c || (is_ascii_digit c || is_start c)

-- The parts of the invalid quoted literal are valid, and the text `after`, which follows the literal, doesn't continue
-- it. For example, `'1a` isn't an invalid quoted literal before `b`, since `'1ab` is one. The text between two
-- apostrophes doesn't begin with a backslash.
abbrev pub IsBadQuote : BadQuote → List ℕ → Type 0
IsBadQuote (WordQuote c more) after =
    IsTrue (is_ascii_digit c || is_start c) × IsTrue (list_all is_continue more)
IsBadQuote (RawWordQuote c more) after =
    IsTrue (is_start c) × IsTrue (list_all is_continue more)
IsBadQuote (DigitQuote c more) after =
    IsTrue (is_ascii_digit c) × IsRun is_continue more after
    × (begins_char (code "'") after ≡ false)
IsBadQuote (OtherQuote parts suffix) after =
    (first_passes begins_word_or_escape (body_text parts) ≡ false) × IsQuoteBody parts
    × IsLexedSuffix suffix after
IsBadQuote (ByteQuote parts suffix) after =
    (first_passes begins_escape (body_text parts) ≡ false) × IsQuoteBody parts
    × IsLexedSuffix suffix after
