-- The parse results and flaws of a text, with CR LF read as LF or not, and with a minus before a number allowed or not. Texts
-- of parse results are bytes. Other texts are lists of characters.
use Rattle.std.specs.Prelude.{◌≡◌, ◌⊎◌, ℕ, Bool, true, false, List, drop, encode_utf8_all}
use Rattle.std.specs.Str.{chars}
use Rattle.rl_syntax.specs.Reading.{HasReading}
use Rattle.rl_lenient.specs.declared.found.Body.{Body}
use Rattle.rl_lenient.specs.Founds.{suffix_in}
use Rattle.rl_syntax.specs.Texts.{byte_len}
use Rattle.rl_strict.specs.declared.flaws.Flaw.{Flaw}
use Rattle.rl_strict.specs.declared.flaws.FlawKind.{FlawKind}
use Rattle.rl_strict.specs.declared.line_ends.LineEnds.{LineEnds}
use Rattle.rl_strict.specs.declared.line_ends.LineEnds.TheVariants.{Text as InText, File as InFile}
use Rattle.rl_strict.specs.declared.strict_reading.Reading.{Reading}
use Rattle.rl_strict.specs.declared.strict_reading.Reading.TheVariants.{Text}
use Rattle.rl_strict.specs.FileTexts.{ExplainsInFile, ExplainsSignedInFile, ExplainsSignedValueInFile, ExplainsValueInFile, IsPlaceInFile}
use Rattle.rl_strict.specs.Flaws.{StopsBefore}
use Rattle.rl_strict.specs.Limits.{ExplainsLimit, ExplainsValue, IsFloatBySuffix}
use Rattle.rl_strict.specs.LineEnds.{IsRestOf, lf_text, read_of}
use Rattle.rl_strict.specs.SignedFlaws.{ExplainsSigned, IsSignedFlawOf, IsSignedToken}
use Rattle.rl_strict.specs.StrictFlaws.{ExplainsStrictly, IsStrictFlawOf}
use Rattle.rl_strict.specs.StrictRead.{IsSignedRead, IsStrictReading}
use Rattle.rl_strict.specs.StrictShapes.{IsToken}

-- ---- parse results

-- The text is a literal token. The flag tells whether the text may also be a minus and a number, such as `-1`.
abbrev pub IsTokenIf : Bool → List ℕ → Type 0
IsTokenIf false = IsToken
IsTokenIf true = IsSignedToken

-- The parse result of a literal token. The flag tells whether the text may also be a minus and a number, such as `-1`.
abbrev pub ReadsOf : Bool → List ℕ → Reading → Type 0
ReadsOf false text reading = IsStrictReading text reading
ReadsOf true text reading = IsSignedRead text reading

-- The bytes of the text as rustc reads it in a file: without each CR before an LF.
abbrev pub lf_bytes : List ℕ → List ℕ
lf_bytes text = encode_utf8_all (lf_text (chars text))

-- The byte offsets in `read` are positions in the text as rustc reads it in a file. The byte offsets in `body` are the same
-- positions in the text as written. The field `plain` of `body` is `false`, since the body may contain CR LF.
pub record IsBodyInFile (text : List ℕ) (read body : Body) : Type 0 where
  pub lo : IsPlaceInFile (chars text) read.lo body.lo
  pub hi : IsPlaceInFile (chars text) read.hi body.hi
  pub suffix_at : IsPlaceInFile (chars text) read.suffix_at body.suffix_at
  pub suffix_is : suffix_in text body ≡ suffix_in (lf_bytes text) read
  pub plain_is : body.plain ≡ false

-- The parse result of a literal's text in a file. A string parses as the text that rustc reads, with CR LF read as LF. No
-- other literal contains a CR LF, so it parses as written.
abbrev pub IsReadingInFile : Bool → List ℕ → Reading → Type 0
IsReadingInFile signed text (Text kind body) =
    (read : Body) × IsStrictReading (lf_bytes text) (Text kind read) × IsBodyInFile text read body
IsReadingInFile signed text reading = (lf_text (chars text) ≡ chars text) × ReadsOf signed text reading

-- The parse result of a literal's text, outside files or in a file.
abbrev pub IsReadingOf : LineEnds → Bool → List ℕ → Reading → Type 0
IsReadingOf InText signed text reading = ReadsOf signed text reading
IsReadingOf InFile signed text reading = IsReadingInFile signed text reading

-- Whether the body is known to be the literal's value. In a file, this is never known.
abbrev pub plain_of : LineEnds → Bool → Bool
plain_of InText plain = plain
plain_of InFile plain = false

-- ---- flaws of a text

-- The kind of flaw describes the error in the text. The last two arguments are ends of the text: the text to show for the
-- flaw begins at the first one, and the flaw at the second one. The flag tells whether the text may be a minus and a number.
abbrev pub SaysOf : Bool → FlawKind → List ℕ → List ℕ → List ℕ → Type 0
SaysOf false kind text piece rest = IsStrictFlawOf kind text piece rest
SaysOf true kind text piece rest = IsSignedFlawOf kind text piece rest

-- With CR LF read as LF in a file, `text` isn't a literal token (nor a minus and a number, if `signed` is true). The flaw is
-- at `rest`: the text before `rest` can be completed to a valid text, and no longer prefix can. The text to show for the
-- flaw begins at `piece`. `piece` and `rest` are ends of the text as written.
pub record IsFlawOf (ends : LineEnds) (signed : Bool) (text : List ℕ) (kind : FlawKind) (piece rest : List ℕ) : Type 0 where
  pub none : IsTokenIf signed (read_of ends text) → ⊥
  pub stops : StopsBefore (IsTokenIf signed) (read_of ends text) (read_of ends rest)
  pub says : SaysOf signed kind (read_of ends text) (read_of ends piece) (read_of ends rest)
  pub piece_in : IsRestOf ends text piece
  pub rest_in : IsRestOf ends text rest

-- `rest` is an end of `text`, and begins at the byte offset `at`. In a file, `rest` doesn't begin between a CR and its LF.
pub record IsRestPlace (ends : LineEnds) (text rest : List ℕ) (at : ℕ) : Type 0 where
  pub is_rest : IsRestOf ends text rest
  pub at_is : at ≡ byte_len is_rest.front

-- The byte offset `at` in `text` is after the first character of `rest`, or is the text's end if `rest` is empty. In a file,
-- a CR LF is one character.
pub record IsPlaceAfter (ends : LineEnds) (text rest : List ℕ) (at : ℕ) : Type 0 where
  pub after : List ℕ
  pub place : IsRestPlace ends text after at
  pub after_is : read_of ends after ≡ drop 1 (read_of ends rest)

-- The flaw explains why the text isn't a literal token. If the flag allows a minus before a number, the flaw explains why
-- the text is neither a literal token nor a minus and a number.
abbrev pub ExplainsOf : LineEnds → Bool → List ℕ → Flaw → Type 0
ExplainsOf InText false text flaw = ExplainsStrictly text flaw
ExplainsOf InText true text flaw = ExplainsSigned text flaw
ExplainsOf InFile false text flaw = ExplainsInFile text flaw
ExplainsOf InFile true text flaw = ExplainsSignedInFile text flaw

-- ---- texts with a value

-- The text has a value in Rust. In a file, CR LF is read as LF.
abbrev pub HasValueOf : LineEnds → List ℕ → Type 0
HasValueOf ends text = HasReading (read_of ends text) ⊎ IsFloatBySuffix (read_of ends text)

-- The flaw explains why the text has no value. The flag tells whether a minus before a number is allowed.
abbrev pub ExplainsValueOf : LineEnds → Bool → List ℕ → Flaw → Type 0
ExplainsValueOf InText false text flaw = ExplainsStrictly text flaw ⊎ (IsToken text × ExplainsLimit text flaw)
ExplainsValueOf InText true text flaw = ExplainsValue text flaw
ExplainsValueOf InFile false text flaw = ExplainsValueInFile text flaw
ExplainsValueOf InFile true text flaw = ExplainsSignedValueInFile text flaw
