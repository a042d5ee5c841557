-- The lexemes of a text: its literals, identifiers, delimiters and punctuation characters. A value of the type `Lexeme`
-- consists of the parts of a lexeme's text. A character is represented by its code. A lexeme is as long as possible:
-- `12` isn't a lexeme before `3`.
--
-- Lexemes are the tokens of the Rust Reference, chapters Tokens (sections Literals, Punctuation, Delimiters) and
-- Identifiers. The text in a literal isn't checked, and doc comments, lifetimes and raw identifiers aren't lexemes.
pub use Rattle.rl_syntax.specs.Texts.{is_start, is_continue}
use Rattle.std.specs.Prelude.{◌≡◌, ℕ, ◌⊎◌, Bool, true, false, not, ◌&&◌, ◌||◌, ◌==◌, List, [], codes, ◌∷◌, ◌++◌, IsTrue, ⊤, replicate, if◌then◌else◌}
use Rattle.std.proofs.Common.{suc, zero}
use Rattle.std.specs.Char.{is_ascii_digit}
use Rattle.std.specs.List.{list_all}
use Prim.Native.Char.{code}
use Rattle.rl_syntax.specs.Texts.{is_among, first_passes, begins, is_run_part}
use Rattle.rl_syntax.specs.Numbers.{is_exponent_letter}

-- Whether a character names a base after a zero: x, o or b.
abbrev pub is_base_letter : ℕ → Bool
is_base_letter c = c == code "x" || c == code "o" || c == code "b"

abbrev pub delimiters : List ℕ
delimiters = codes "()[]{}"

-- The punctuation characters except the slash.
abbrev pub marks : List ℕ
marks = codes "~!@#$%^&*-=+|;:,<.>?"

-- Whether a text begins with a given number of hashes.
abbrev pub begins_hashes : ℕ → List ℕ → Bool
begins_hashes zero t = true
begins_hashes (suc n) [] = false
begins_hashes (suc n) (c ∷ t) = c == code "#" && begins_hashes n t

-- Whether a text begins with the dot of a number: neither another dot nor an identifier follows the dot.
abbrev pub begins_dot : List ℕ → Bool
begins_dot [] = false
begins_dot (c ∷ t) = c == code "." && not (first_passes (λ d. d == code "." || is_start d) t)

-- The prefix of a string literal, before its quote or before its `r`: nothing, `b` or `c`.
pub data LiteralPrefix : Type 0 where
  NoPrefix : LiteralPrefix
  BytePrefix : LiteralPrefix
  CPrefix : LiteralPrefix

abbrev pub prefix_text : LiteralPrefix → List ℕ
prefix_text NoPrefix = []
prefix_text BytePrefix = codes "b"
prefix_text CPrefix = codes "c"

-- The text begins with any number of hashes, and a quote.
pub record BeginsHashedQuote (t : List ℕ) : Type 0 where
  pub hashes : ℕ
  pub rest : List ℕ
  pub text_is : t ≡ replicate hashes (code "#") ++ (code "\"" ∷ rest)

-- The text begins like a raw literal: with a prefix or without one, then `r`, any number of hashes, and a quote.
pub record BeginsRaw (t : List ℕ) : Type 0 where
  pub prefix : LiteralPrefix
  pub rest : List ℕ
  pub opens : BeginsHashedQuote rest
  pub text_is : t ≡ prefix_text prefix ++ (code "r" ∷ rest)

-- Whether a text begins with a literal's prefix and its quote: `b"`, `c"` or `b'`.
abbrev pub begins_prefixed_quote : List ℕ → Bool
begins_prefixed_quote t =
    begins (codes "b\"") t || (begins (codes "c\"") t || begins (codes "b'") t)

-- Whether a text begins with `r#` and a character that may begin an identifier.
abbrev pub begins_raw_identifier : List ℕ → Bool
begins_raw_identifier [] = false
begins_raw_identifier (c ∷ []) = false
begins_raw_identifier (c ∷ d ∷ cs) = c == code "r" && d == code "#" && first_passes is_start cs

-- The text begins like a literal with a prefix, or like a raw identifier.
abbrev pub BeginsOtherwise : List ℕ → Type 0
BeginsOtherwise t =
    IsTrue (begins_prefixed_quote t) ⊎ (BeginsRaw t ⊎ IsTrue (begins_raw_identifier t))

-- A part of the text between a string literal's quotes: a character by itself, or a backslash and any character.
pub data BodyPart : Type 0 where
  PlainPart : (c : ℕ) → BodyPart
  EscapedPart : (c : ℕ) → BodyPart

abbrev pub body_text : List BodyPart → List ℕ
body_text [] = []
body_text (PlainPart c ∷ parts) = c ∷ body_text parts
body_text (EscapedPart c ∷ parts) = code "\\" ∷ c ∷ body_text parts

abbrev pub IsBody : List BodyPart → Type 0
IsBody [] = ⊤
IsBody (PlainPart c ∷ parts) = IsTrue (not (c == code "\"" || c == code "\\")) × IsBody parts
IsBody (EscapedPart c ∷ parts) = IsBody parts

-- The text between the quotes of a character or byte literal: one character, or a backslash, any character, and more
-- text.
pub data CharacterBody : Type 0 where
  OneCharacter : (c : ℕ) → CharacterBody
  EscapedCharacter : (c : ℕ) (more : List ℕ) → CharacterBody

abbrev pub character_body_text : CharacterBody → List ℕ
character_body_text (OneCharacter c) = c ∷ []
character_body_text (EscapedCharacter c more) = code "\\" ∷ c ∷ more

abbrev pub IsCharacterBody : CharacterBody → Type 0
IsCharacterBody (OneCharacter c) = IsTrue (not (c == code "\\"))
IsCharacterBody (EscapedCharacter c more) =
    IsTrue (list_all (λ d. not (d == code "'" || d == code "\n")) more)

-- The fraction of a decimal number: nothing, or a dot and the digits after the dot.
pub data LexedFraction : Type 0 where
  NoLexedFraction : LexedFraction
  LexedDot : (digits : List ℕ) → LexedFraction

abbrev pub lexed_fraction_text : LexedFraction → List ℕ
lexed_fraction_text NoLexedFraction = []
lexed_fraction_text (LexedDot digits) = code "." ∷ digits

pub data LexedSign : Type 0 where
  NoLexedSign : LexedSign
  LexedPlus : LexedSign
  LexedMinus : LexedSign

abbrev pub lexed_sign_text : LexedSign → List ℕ
lexed_sign_text NoLexedSign = []
lexed_sign_text LexedPlus = codes "+"
lexed_sign_text LexedMinus = codes "-"

-- The exponent of a decimal number: nothing, or a letter, a sign or no sign, underscores, a digit, and the characters
-- after that digit.
pub data LexedExponent : Type 0 where
  NoLexedExponent : LexedExponent
  LexedPower : (letter : ℕ) (sign : LexedSign) (underscores digit : ℕ) (more : List ℕ)
      → LexedExponent

abbrev pub lexed_exponent_text : LexedExponent → List ℕ
lexed_exponent_text NoLexedExponent = []
lexed_exponent_text (LexedPower letter sign n d more) =
    letter ∷ lexed_sign_text sign ++ (replicate n (code "_") ++ d ∷ more)

-- The text begins with an exponent: `e` or `E`, a sign or no sign, any number of underscores, and a digit.
pub record BeginsLexedExponent (t : List ℕ) : Type 0 where
  pub letter : ℕ
  pub sign : LexedSign
  pub underscores : ℕ
  pub digit : ℕ
  pub rest : List ℕ
  pub is_letter : IsTrue (is_exponent_letter letter)
  pub is_digit : IsTrue (is_ascii_digit digit)
  pub text_is :
      t ≡ letter ∷ (lexed_sign_text sign ++ (replicate underscores (code "_") ++ (digit ∷ rest)))

pub data Lexeme : Type 0 where
  -- A string literal that isn't raw, with its prefix.
  QuotedLexeme : (p : LiteralPrefix) (parts : List BodyPart) (suffix : List ℕ) → Lexeme
  RawLexeme : (p : LiteralPrefix) (hashes : ℕ) (body suffix : List ℕ) → Lexeme
  -- A character or byte literal.
  CharacterLexeme : (is_byte : Bool) (inside : CharacterBody) (suffix : List ℕ) → Lexeme
  -- A number with the prefix `0x`, `0o` or `0b`, and the identifier characters after it, which include the suffix.
  BasedLexeme : (letter : ℕ) (digits : List ℕ) → Lexeme
  DecimalLexeme : (digit : ℕ) (more : List ℕ) (fraction : LexedFraction)
      (exponent : LexedExponent) (suffix : List ℕ) → Lexeme
  IdentifierLexeme : (first : ℕ) (more : List ℕ) → Lexeme
  DelimiterLexeme : (c : ℕ) → Lexeme
  MarkLexeme : (c : ℕ) → Lexeme

abbrev pub lexeme_text : Lexeme → List ℕ
lexeme_text (QuotedLexeme p parts suffix) =
    prefix_text p ++ code "\"" ∷ body_text parts ++ code "\"" ∷ suffix
lexeme_text (RawLexeme p n body suffix) =
    prefix_text p ++ code "r" ∷ replicate n (code "#") ++ code "\"" ∷ body
    ++ code "\"" ∷ replicate n (code "#") ++ suffix
lexeme_text (CharacterLexeme is_byte inside suffix) =
    (if is_byte then codes "b" else []) ++ code "'" ∷ character_body_text inside
    ++ code "'" ∷ suffix
lexeme_text (BasedLexeme letter digits) = code "0" ∷ letter ∷ digits
lexeme_text (DecimalLexeme d more fraction exponent suffix) =
    d ∷ more ++ (lexed_fraction_text fraction ++ (lexed_exponent_text exponent ++ suffix))
lexeme_text (IdentifierLexeme c more) = c ∷ more
lexeme_text (DelimiterLexeme c) = c ∷ []
lexeme_text (MarkLexeme c) = c ∷ []

-- The text `run` consists of characters that pass the test, and the text `after`, which follows it, doesn't begin with such a
-- character.
pub record IsRun (test : ℕ → Bool) (run after : List ℕ) : Type 0 where
  pub each : IsTrue (list_all test run)
  pub ends : first_passes test after ≡ false

-- The suffix of a lexeme: an identifier, or an empty text if no identifier follows.
abbrev pub IsLexedSuffix : List ℕ → List ℕ → Type 0
IsLexedSuffix [] after = first_passes is_start after ≡ false
IsLexedSuffix (c ∷ more) after = IsTrue (is_start c) × IsRun is_continue more after

-- The body of a raw literal with n hashes: no quote in it is followed by n hashes.
abbrev pub IsRawBody : ℕ → List ℕ → Type 0
IsRawBody n [] = ⊤
IsRawBody n (c ∷ body) = ((c == code "\"" && begins_hashes n body) ≡ false) × IsRawBody n body

abbrev pub IsLexedFraction : LexedFraction → List ℕ → Type 0
IsLexedFraction NoLexedFraction after = begins_dot after ≡ false
IsLexedFraction (LexedDot digits) after =
    IsTrue (begins_dot (code "." ∷ digits ++ after))
    × IsRun (is_run_part is_ascii_digit) digits after

abbrev pub IsLexedExponent : LexedExponent → List ℕ → Type 0
IsLexedExponent NoLexedExponent after = BeginsLexedExponent after → ⊥
IsLexedExponent (LexedPower letter sign n d more) after =
    IsTrue (is_exponent_letter letter) × IsTrue (is_ascii_digit d)
    × IsRun (is_run_part is_ascii_digit) more after

-- The parts of the lexeme are valid, and the text `after`, which follows the lexeme, doesn't continue it. For example,
-- the number `12` isn't a lexeme before `3`.
abbrev pub IsLexeme : Lexeme → List ℕ → Type 0
IsLexeme (QuotedLexeme p parts suffix) after = IsBody parts × IsLexedSuffix suffix after
IsLexeme (RawLexeme p n body suffix) after = IsRawBody n body × IsLexedSuffix suffix after
IsLexeme (CharacterLexeme is_byte inside suffix) after =
    IsCharacterBody inside × IsLexedSuffix suffix after
IsLexeme (BasedLexeme letter digits) after =
    IsTrue (is_base_letter letter) × IsRun is_continue digits after
IsLexeme (DecimalLexeme d more fraction exponent suffix) after =
    let after_fraction = lexed_exponent_text exponent ++ (suffix ++ after) in
    let after_digits = lexed_fraction_text fraction ++ after_fraction in
    IsTrue (is_ascii_digit d)
    × ((d == code "0" && first_passes is_base_letter (more ++ after_digits)) ≡ false)
    × IsRun (is_run_part is_ascii_digit) more after_digits
    × IsLexedFraction fraction after_fraction
    × IsLexedExponent exponent (suffix ++ after)
    × IsLexedSuffix suffix after
IsLexeme (IdentifierLexeme c more) after =
    IsTrue (is_start c) × IsRun is_continue more after × (BeginsOtherwise (c ∷ more ++ after) → ⊥)
IsLexeme (DelimiterLexeme c) after = IsTrue (is_among delimiters c)
IsLexeme (MarkLexeme c) after =
    IsTrue (is_among marks c)
    ⊎ ((c ≡ code "/") × (first_passes (λ d. d == code "/" || d == code "*") after ≡ false))

-- The text `w` is a lexeme if the text `after` follows `w`.
abbrev pub LexemeWith : List ℕ → List ℕ → Type 0
LexemeWith w after = (l : Lexeme) × IsLexeme l after × (w ≡ lexeme_text l)

-- The form of a lexeme: a literal, an identifier, one of the six delimiters, or another punctuation character.
pub data LexemeForm : Type 0 where
  LiteralForm : LexemeForm
  IdentifierForm : LexemeForm
  DelimiterForm : (c : ℕ) → LexemeForm
  MarkForm : (c : ℕ) → LexemeForm

abbrev pub form_of : Lexeme → LexemeForm
form_of (IdentifierLexeme first more) = IdentifierForm
form_of (DelimiterLexeme c) = DelimiterForm c
form_of (MarkLexeme c) = MarkForm c
form_of _ = LiteralForm

-- The text begins with a lexeme, and the text `after` follows the lexeme.
abbrev pub LexemeBefore : List ℕ → List ℕ → Type 0
LexemeBefore t after = (w : List ℕ) × LexemeWith w after × (t ≡ w ++ after)

-- Whether a character is a punctuation character: one of `marks`, or the slash.
abbrev pub is_punct : ℕ → Bool
is_punct c = is_among marks c || c == code "/"
