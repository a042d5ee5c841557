-- The literals and the errors of a source, where lexing resumes after each error.
use Rattle.std.specs.Prelude.{◌≡◌, ◌+◌, ◌-◌, ℕ, Bool, false, not, ◌&&◌, ◌||◌, ◌==◌, codes, List, [], ◌∷◌, length, drop, Option, None, Some, MatchOption, if◌then◌else◌}
use Rattle.std.specs.Str.{chars}
use Prim.Native.Char.{code}
use Rattle.rl_syntax.specs.Texts.{begins, begins_char, IsTail}
use Rattle.rl_lexer.specs.Cursors.{CursorState, IsCursorState}
use Rattle.rl_lexer.specs.Sources.{IsCutUpTo, PassesTo, TakesLiteralAfter, SourceErrorAt}
use Rattle.rl_lexer.specs.declared.lex_error.LexError.{LexError}
use Rattle.rl_lexer.specs.declared.sources.SourceToken.{SourceToken}
use Rattle.rl_cursors.specs.NextLiterals.{FindsReading}
use Rattle.rl_cursors.specs.declared.source_literals.SourceStep.{SourceStep}
use Rattle.rl_cursors.specs.declared.source_literals.SourceStep.TheVariants.{End, Literal, Rejected}

-- The state of a cursor over a source: the whole text, in bytes, and the part of the text from the position at which lexing
-- last resumed. The part is lexed as a source of its own.
pub record RecoveryState : Type 0 where
  pub whole : List ℕ
  pub part : CursorState

-- ---- the next literal

-- A token that the cursor lexed in its part of the text, with the token's byte range in the whole text.
abbrev pub token_of_whole : RecoveryState → SourceToken → SourceToken
token_of_whole t l =
    let before = length t.whole - length t.part.text in
    record { form = l.form; text = l.text; lo = before + l.lo; hi = before + l.hi }

-- The literal `l` is the next literal that the cursor reads.
pub record TakesLiteral (old : RecoveryState) (l : SourceToken) (new : RecoveryState) : Type 0 where
  pub token : SourceToken
  pub takes : TakesLiteralAfter old.part token new.part
  pub literal_is : l ≡ token_of_whole old token
  pub same : new.whole ≡ old.whole

-- ---- the position where lexing resumes after an error

-- The text begins with the opening quote of a character or byte literal: `'` or `b'`.
abbrev pub begins_character : List ℕ → Bool
begins_character [] = false
begins_character (c ∷ t) = c == code "'" || (c == code "b" && begins_char (code "'") t)

-- The text from its first LF on. If `joins` is true, an LF that a backslash escapes doesn't count. `escaped` is true if the
-- first character is escaped.
abbrev pub from_line_end : Bool → Bool → List ℕ → Option (List ℕ)
from_line_end joins escaped [] = None
from_line_end joins escaped (c ∷ t) =
    if c == code "\n" && not escaped then Some (c ∷ t)
    else from_line_end joins (joins && c == code "\\" && not escaped) t

-- The text from the position where lexing resumes after the error at the start of the given text, or `None` if lexing doesn't
-- resume.
--
-- After an unclosed block comment, lexing doesn't resume. After an unclosed quote, it resumes at the LF that ends the quote's
-- line. After the quote of a character or byte literal, an escaped line end continues the line.
abbrev pub lines_after : List ℕ → Option (List ℕ)
lines_after t =
    if begins (codes "/*") t then None else from_line_end (begins_character t) false (drop 1 t)

-- Lexing resumes at `lines`, an end of the text. The cursor lexes `lines` as a source of its own, and hasn't consumed any
-- token of `lines` yet.
pub record TakesUp (text lines : List ℕ) (part : CursorState) : Type 0 where
  pub following : IsTail text part.text
  pub lines_are : chars part.text ≡ lines
  pub begun : IsCutUpTo (chars part.text) [] (chars part.rest)
  pub cursor : IsCursorState part.text part.rest

-- Lexing resumes after the error at the start of the text. If the error extends to the text's end, no text is left to lex.
abbrev pub TakesUpAfter : List ℕ → CursorState → Type 0
TakesUpAfter text part =
    MatchOption (lines_after (chars text)) (part ≡ record { text = []; rest = [] })
    (λ lines. TakesUp text lines part)

-- ---- the next error

-- The error `e` is at the start of `rest`, an end of the whole text, and lexing resumes after it.
pub record StopsAt (rest : List ℕ) (old : RecoveryState) (e : LexError) (new : RecoveryState)
    : Type 0 where
  pub error : SourceErrorAt e.kind (chars rest)
  pub place : e.at + length rest ≡ length old.whole
  pub goes_on : TakesUpAfter rest new.part
  pub same : new.whole ≡ old.whole

-- The error `e` is the next error of the source. The tokens before the error aren't literals.
pub record ReportsUnclosed (old : RecoveryState) (e : LexError) (new : RecoveryState) : Type 0 where
  pub at : CursorState
  pub passes : PassesTo old.part at
  pub stops : StopsAt at.rest old e new

-- The text ends, and only tokens that aren't literals precede its end.
pub record EndsAfter (old new : RecoveryState) : Type 0 where
  pub passes : PassesTo old.part new.part
  pub ends : new.part.rest ≡ []
  pub same : new.whole ≡ old.whole

-- A cursor's step from the state `old` to the state `new` returns the text's end, a literal with its parse result, or an
-- error.
abbrev pub StepsRecovery : RecoveryState → SourceStep → RecoveryState → Type 0
StepsRecovery old End new = EndsAfter old new
StepsRecovery old (Literal token found) new =
    TakesLiteral old token new × FindsReading token.text.now found
StepsRecovery old (Rejected e) new = ReportsUnclosed old e new
