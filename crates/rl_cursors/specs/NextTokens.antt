-- The next token of a cursor: its parts, and when two statements about it speak of one cursor after it.
use Rattle.std.specs.Prelude.{◌≡◌, ℕ, List, Option, option_map}
use Rattle.std.specs.Str.{chars}
use Rattle.rl_lexer.specs.declared.cursor.Lexeme.{Lexeme}
use Rattle.rl_lexer.specs.declared.lexeme.Form.{Form}
use Rattle.rl_lexer.specs.declared.source.SourceForm.{SourceForm}
use Rattle.rl_lexer.specs.declared.sources.SourceToken.{SourceToken}
use Rattle.rl_lexer.specs.Cuts.{LexedToken, LexesUpTo}
use Rattle.rl_lexer.specs.Cursors.{CursorState, GivesNext, TakesNext}
use Rattle.rl_lexer.specs.Sources.{CutSource, GivesSource, IsCutUpTo, TakesSource}
use Rattle.rl_cursors.specs.declared.next_literals.NextLiteral.{NextLiteral}
use Rattle.rl_cursors.specs.NextLiterals.{TakesNextLiteral, HasNoNextLiteral}

-- The form, the text and the byte range of a token that a cursor returns.
abbrev pub token_parts : Lexeme → Form × List ℕ × ℕ × ℕ
token_parts l = (l.form, l.text.now, l.lo, l.hi)

abbrev pub source_token_parts : SourceToken → SourceForm × List ℕ × ℕ × ℕ
source_token_parts l = (l.form, l.text.now, l.lo, l.hi)

-- The text before the cursor is lexed into tokens. This is so for a new cursor, and after each token that a cursor consumes.
abbrev pub IsLexedBefore : CursorState → Type 0
IsLexedBefore t = (done : List LexedToken) × LexesUpTo 0 (chars t.text) done (chars t.rest)

-- The source before the cursor is lexed into tokens.
abbrev pub IsSourceLexedBefore : CursorState → Type 0
IsSourceLexedBefore t = (done : List CutSource) × IsCutUpTo (chars t.text) done (chars t.rest)

-- A cursor over a text has one next token, or none.
abbrev pub ACursorHasOneNextToken : Type 0
ACursorHasOneNextToken =
    (old a b : CursorState) (x y : Option Lexeme) → GivesNext old x a → GivesNext old y b
    → option_map token_parts x ≡ option_map token_parts y

-- A cursor over a source has one next token, or none.
abbrev pub ASourceCursorHasOneNextToken : Type 0
ASourceCursorHasOneNextToken =
    (old a b : CursorState) (x y : Option SourceToken) → GivesSource old x a → GivesSource old y b
    → option_map source_token_parts x ≡ option_map source_token_parts y

-- A cursor over a text has one position after its next token, and the text before this position is lexed into tokens.
abbrev pub ACursorHasOneNextPosition : Type 0
ACursorHasOneNextPosition =
    (old a b : CursorState) (l m : Lexeme) → IsLexedBefore old → TakesNext old l a → TakesNext old m b → a ≡ b

abbrev pub ACursorStaysLexed : Type 0
ACursorStaysLexed = (old new : CursorState) (l : Lexeme) → IsLexedBefore old → TakesNext old l new → IsLexedBefore new

-- A cursor over a source has one position after its next token.
abbrev pub ASourceCursorHasOneNextPosition : Type 0
ASourceCursorHasOneNextPosition =
    (old a b : CursorState) (l m : SourceToken) → IsSourceLexedBefore old → TakesSource old l a → TakesSource old m b
    → a ≡ b

-- A cursor over a text has at most one next literal: one token, one minus before it, and one position after it.
abbrev pub ACursorHasOneNextLiteral : Type 0
ACursorHasOneNextLiteral =
    (old a b : CursorState) (l m : NextLiteral) → IsLexedBefore old → TakesNextLiteral old l a
    → TakesNextLiteral old m b
    → (token_parts l.token ≡ token_parts m.token) × (l.minus_at ≡ m.minus_at) × (a ≡ b)

-- If a cursor consumes a literal, it isn't a cursor without a next literal.
abbrev pub ATakenLiteralIsANextLiteral : Type 0
ATakenLiteralIsANextLiteral =
    (old new : CursorState) (l : NextLiteral) → IsLexedBefore old → TakesNextLiteral old l new → HasNoNextLiteral old → ⊥
