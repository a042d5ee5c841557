-- The statements of the theorems in src/laws.rt, by name.
use Rattle.std.specs.Prelude.{codes, ◌≡◌, ◌<◌, ℕ, IsFalse, IsTrue, ◌⊎◌, List}
use Rattle.std.specs.Char.{is_ascii_digit}
use Rattle.std.specs.List.{list_all}
use Rattle.rl_syntax.specs.Strict.{dec}
use Rattle.rl_syntax.specs.Texts.{begins_char, code}
use Rattle.rl_syntax.specs.Spelling.{place_value}
use Rattle.rl_syntax.specs.Reading.{HasNoReading, HasReading, IsPast}
use Rattle.rl_lexer.specs.BadQuotes.{BadQuote, bad_quote_text}
use Rattle.rl_lexer.specs.Sources.{BadQuoteToken, IsSource}
use Rattle.rl_strict.specs.StrictShapes.{IsToken}
use Rattle.rl_strict.specs.Limits.{ExplainsValue}
use Rattle.rl_strict.specs.OneFlaw.{HasOneFlaw, IsExplainedOnce}
use Rattle.rl_strict.specs.SignedFlaws.{ExplainsSigned, IsSignedToken}
use Rattle.rl_strict.specs.FileTexts.{ExplainsInFile, ExplainsSignedInFile, ExplainsSignedValueInFile, ExplainsValueInFile}

-- The digits by which the strict grammar writes an integer of any size represent that integer in base ten.
abbrev pub StrictDigitsRepresentTheirNumber : Type 0
StrictDigitsRepresentTheirNumber = (n : ℕ) → place_value 10 (dec n) ≡ n

-- The digits by which the strict grammar writes an integer are ASCII decimal digits.
abbrev pub StrictDigitsAreDecimal : Type 0
StrictDigitsAreDecimal = (n : ℕ) → IsTrue (list_all is_ascii_digit (dec n))

-- The decimal text of an integer above 0 doesn't begin with `0`.
abbrev pub NoZeroLeadsStrictDigits : Type 0
NoZeroLeadsStrictDigits = (n : ℕ) → 0 < n → IsFalse (begins_char (code "0") (dec n))

-- The decimal text of the integer 0 is `0`.
abbrev pub ZeroIsOneStrictDigit : Type 0
ZeroIsOneStrictDigit = dec 0 ≡ codes "0"

-- A text has at most one flaw that explains why it isn't a literal token: one kind, one byte range, and one range of text to
-- show. So `explain` returns the only possible flaw.
abbrev pub ATextHasOneFlaw : Type 0
ATextHasOneFlaw = (text : List ℕ) → HasOneFlaw text

-- A text has at most one flaw that explains why it is neither a literal token nor a minus and a number. `read` with `signed =
-- true` returns this flaw.
abbrev pub ATextHasOneSignedFlaw : Type 0
ATextHasOneSignedFlaw = (text : List ℕ) → IsExplainedOnce ExplainsSigned text

-- A text has at most one flaw that explains why it has no value. An integer above 128 bits,
-- with or without a minus before it, has no value. `explain_missing_value` returns this flaw.
abbrev pub ATextHasOneValueFlaw : Type 0
ATextHasOneValueFlaw = (text : List ℕ) → IsExplainedOnce ExplainsValue text

-- A literal token, or a minus and a number, parses by `syn`'s grammar or is an integer above 128 bits.
abbrev pub ATokenReadsOrIsPastTheLimit : Type 0
ATokenReadsOrIsPastTheLimit = (text : List ℕ) → IsSignedToken text → HasReading text ⊎ IsPast text

-- A literal token, or a minus and a number, that doesn't parse by `syn`'s grammar is an integer above 128 bits. So if a text
-- doesn't parse, `explain_missing_value` returns a reason, unless the text is a float only by its suffix (`is_float_by_suffix`).
abbrev pub AnUnreadTokenIsPastTheLimit : Type 0
AnUnreadTokenIsPastTheLimit = (text : List ℕ) → HasNoReading text → IsSignedToken text → IsPast text

-- In a source, single quotes around no character or several characters don't parse by `syn`'s grammar. Examples are `''`,
-- `'ab'`, `b'hello'`, and `'1a`.
abbrev pub ABadQuoteHasNoReading : Type 0
ABadQuoteHasNoReading =
    (quote : BadQuote) (after : List ℕ) → IsSource (BadQuoteToken quote) after
    → HasNoReading (bad_quote_text quote)

-- In a source, single quotes around no character or several characters aren't a literal token.
abbrev pub ABadQuoteIsNoToken : Type 0
ABadQuoteIsNoToken =
    (quote : BadQuote) (after : List ℕ) → IsSource (BadQuoteToken quote) after
    → IsToken (bad_quote_text quote) → ⊥

-- A literal's text in a file, where rustc reads CR LF as LF, has at most one flaw that explains why it isn't a literal
-- token. Each byte offset in the text as rustc reads it corresponds to one byte offset in the file. `read` with
-- `LineEnds::File` returns this flaw.
abbrev pub ATextInAFileHasOneFlaw : Type 0
ATextInAFileHasOneFlaw = (text : List ℕ) → IsExplainedOnce ExplainsInFile text

-- A literal's text in a file has at most one flaw that explains why it is neither a literal token nor a minus and a number.
-- `read` with `LineEnds::File` and `signed = true` returns this flaw.
abbrev pub ATextInAFileHasOneSignedFlaw : Type 0
ATextInAFileHasOneSignedFlaw = (text : List ℕ) → IsExplainedOnce ExplainsSignedInFile text

-- A literal's text in a file has at most one flaw that explains why it has no value. `explain_missing_value` with `LineEnds::File`
-- returns this flaw.
abbrev pub ATextInAFileHasOneValueFlaw : Type 0
ATextInAFileHasOneValueFlaw = (text : List ℕ) → IsExplainedOnce ExplainsValueInFile text

-- A literal's text in a file has at most one flaw that explains why it has no value, if a minus before a number is allowed.
-- `explain_missing_value` with `LineEnds::File` and `signed = true` returns this flaw.
abbrev pub ATextInAFileHasOneSignedValueFlaw : Type 0
ATextInAFileHasOneSignedValueFlaw = (text : List ℕ) → IsExplainedOnce ExplainsSignedValueInFile text
