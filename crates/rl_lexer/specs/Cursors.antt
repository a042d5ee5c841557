-- The state of a cursor over a text's tokens, and the meaning of its results, for contracts.
use Rattle.std.specs.Prelude.{◌≡◌, ℕ, ◌+◌, List, [], ◌∷◌, ◌++◌, length, encode_utf8_all, Option, Some, MatchOption}
use Rattle.std.specs.Str.{chars, IsUtf8}
use Rattle.rl_syntax.specs.Texts.{IsTail}
use Rattle.rl_lexer.specs.Lexemes.{lexeme_text, IsLexeme, form_of, LexemeForm, LiteralForm, IdentifierForm, DelimiterForm, MarkForm}
use Rattle.rl_lexer.specs.Cuts.{LexedToken, end_of, LexesUpTo, OpenGroup, open_groups, HasFirstError, BeginsNoLexeme}
use Rattle.rl_lexer.specs.declared.cursor.Lexeme.{Lexeme}
use Rattle.rl_lexer.specs.declared.lex_error.LexKind.{LexKind}
use Rattle.rl_lexer.specs.declared.lexeme.Form.{Form as FoundForm}
use Rattle.rl_lexer.specs.declared.lexeme.Form.TheVariants as found

-- The state of a cursor: the whole text, and the end of the text that isn't lexed yet. Both are lists of bytes.
pub record CursorState : Type 0 where
  pub text : List ℕ
  pub rest : List ℕ

pub record IsCursorState (text rest : List ℕ) : Type 0 where
  pub is_text : IsUtf8 text
  pub following : IsTail text rest

-- Converts the form of a token in the code to the form of a token in the definitions.
abbrev pub form_view : FoundForm → LexemeForm
form_view found.Literal = LiteralForm
form_view found.Identifier = IdentifierForm
form_view (found.Delimiter c) = DelimiterForm c
form_view (found.Mark c) = MarkForm c

-- The token `l`, which a cursor returns, has the form, the text and the byte range of `w`, a lexed token of the
-- definitions.
pub record IsBorrowedToken (l : Lexeme) (w : LexedToken) : Type 0 where
  pub form_is : form_of w.lexeme ≡ form_view l.form
  pub bytes_are : encode_utf8_all (lexeme_text w.lexeme) ≡ l.text.now
  pub chars_are : lexeme_text w.lexeme ≡ chars l.text.now
  pub lo_is : w.at ≡ l.lo
  pub hi_is : end_of w ≡ l.hi

-- The cursor consumes the token `l` and returns it. The text that remained before, `old.rest`, begins with the token.
-- If the text before the token is lexed into some tokens, the text before `new.rest` is lexed into these tokens and
-- `l`.
pub record TakesNext (old : CursorState) (l : Lexeme) (new : CursorState) : Type 0 where
  pub cut : LexedToken
  pub is_cut : IsBorrowedToken l cut
  pub after : List ℕ
  pub begins : chars old.rest ≡ lexeme_text cut.lexeme ++ after
  pub is_lexeme : IsLexeme cut.lexeme after
  pub place : l.lo + length old.rest ≡ length old.text
  pub goes_on : (done : List LexedToken) → LexesUpTo 0 (chars old.text) done (chars old.rest)
      → LexesUpTo 0 (chars old.text) (done ++ cut ∷ []) (chars new.rest)
  pub same : new.text ≡ old.text
  pub following : IsTail old.rest new.rest

-- Suppose that the text before the cursor can be lexed into tokens without an error. Then the first error of the whole
-- text has the kind `kind` and the byte offset `at`.
abbrev pub IsFirstError : CursorState → LexKind → ℕ → Type 0
IsFirstError t kind at =
    (cuts : List LexedToken) (groups : List OpenGroup)
    → LexesUpTo 0 (chars t.text) cuts (chars t.rest) → open_groups [] cuts ≡ Some groups
    → HasFirstError (chars t.text) kind at

-- The meaning of the result of a cursor's `next`. If a token begins the remaining text, the result is this token.
-- Otherwise the result is `None`, and the cursor doesn't move.
abbrev pub GivesNext : CursorState → Option Lexeme → CursorState → Type 0
GivesNext old token new =
    MatchOption token (BeginsNoLexeme (chars old.rest) × (new ≡ old)) (λ l. TakesNext old l new)
