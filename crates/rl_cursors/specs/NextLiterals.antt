-- The next literal of a list of literals, or the error of the list.
use Rattle.std.specs.Prelude.{◌≡◌, ◌≢◌, ◌⊎◌, ℕ, ◌+◌, List, [], ◌∷◌, length, Option, Some, None, MatchOption, IsSomeAnd, ⊤, if◌then◌else◌}
use Rattle.std.specs.Str.{chars}
use Prim.Native.Char.{code}
use Rattle.rl_lexer.specs.declared.cursor.Lexeme.{Lexeme}
use Rattle.rl_syntax.specs.declared.kind.Kind.TheVariants.{Bool as BoolKind}
use Rattle.rl_lexer.specs.declared.lex_error.LexKind.{LexKind}
use Rattle.rl_lexer.specs.Cursors.{CursorState, TakesNext, form_view}
use Rattle.rl_lexer.specs.Lexemes.{LexemeForm, LiteralForm, IdentifierForm, DelimiterForm, MarkForm}
use Rattle.rl_lexer.specs.Cuts.{BeginsNoLexeme, OpenGroup, ErrorAt, is_opener}
use Rattle.rl_syntax.specs.Reading.{HasNoReading, HasNoTruth}
use Rattle.rl_lenient.specs.declared.found.Found.{Found}
use Rattle.rl_cursors.specs.declared.next_literals.NextLiteral.{NextLiteral}
use Rattle.rl_cursors.specs.declared.next_literals.ListStep.{ListStep}
use Rattle.rl_cursors.specs.declared.next_literals.ListStep.TheVariants.{End, Literal, Rejected}
use Rattle.rl_cursors.specs.declared.next_literals.Rejection.{Rejection}
use Rattle.rl_cursors.specs.declared.next_literals.RejectionKind.{RejectionKind}
use Rattle.rl_cursors.specs.declared.next_literals.RejectionKind.TheVariants.{Lex, Group, UnmatchedClose, NotALiteral}
use Rattle.rl_lenient.specs.Founds.{IsFound}

-- The text, in bytes, has the given parse result, or `None` if it isn't a literal.
abbrev pub FindsReading : List ℕ → Option Found → Type 0
FindsReading text found = MatchOption found (HasNoReading (chars text)) (IsFound text)

-- A token of the given form and text is a literal by itself, with the given parse result: a literal token, `true` or `false`. An
-- invalid literal has no parse result.
abbrev pub IsLiteralToken : LexemeForm → List ℕ → Option Found → Type 0
IsLiteralToken LiteralForm text found = FindsReading text found
IsLiteralToken IdentifierForm text found =
    IsSomeAnd found (λ f. IsFound text f × (f.kind ≡ BoolKind))
IsLiteralToken _ text found = ⊥

-- The cursor consumes one token, which is the literal.
pub record TakesLiteralToken (old : CursorState) (l : NextLiteral) (new : CursorState) : Type 0 where
  pub takes : TakesNext old l.token new
  pub literal : IsLiteralToken (form_view l.token.form) l.token.text.now l.found
  pub no_minus : l.minus_at ≡ None

-- The cursor consumes two tokens, a minus and a number, which together are the literal.
pub record TakesNegative (old : CursorState) (l : NextLiteral) (new : CursorState) : Type 0 where
  pub minus : Lexeme
  pub between : CursorState
  pub found : Found
  pub takes_minus : TakesNext old minus between
  pub takes_number : TakesNext between l.token new
  pub is_minus : form_view minus.form ≡ MarkForm (code "-")
  pub is_number : form_view l.token.form ≡ LiteralForm
  pub is_found : IsFound (code "-" ∷ l.token.text.now) found
  pub found_is : l.found ≡ Some found
  pub minus_is : l.minus_at ≡ Some minus.lo

abbrev pub TakesNextLiteral : CursorState → NextLiteral → CursorState → Type 0
TakesNextLiteral old l new = TakesLiteralToken old l new ⊎ TakesNegative old l new

-- After a minus, the cursor's next token isn't a number.
abbrev pub HasNoNumber : CursorState → Type 0
HasNoNumber t =
    BeginsNoLexeme (chars t.rest)
    ⊎ ((l : Lexeme) × (new : CursorState) × TakesNext t l new
    × ((form_view l.form ≢ LiteralForm) ⊎ HasNoReading (code "-" ∷ chars l.text.now)))

-- Neither the token of the given form and text, nor a minus and the next token, is a literal. Each literal token counts as a
-- literal, even if it is invalid.
abbrev pub BeginsNone : LexemeForm → List ℕ → CursorState → Type 0
BeginsNone LiteralForm text following = ⊥
BeginsNone IdentifierForm text following = HasNoTruth (chars text)
BeginsNone (DelimiterForm c) text following = ⊤
BeginsNone (MarkForm c) text following = (c ≢ code "-") ⊎ HasNoNumber following

-- The cursor's next tokens aren't a literal: no token begins at the cursor, or the next token doesn't begin a literal.
abbrev pub HasNoNextLiteral : CursorState → Type 0
HasNoNextLiteral t =
    BeginsNoLexeme (chars t.rest)
    ⊎ ((l : Lexeme) × (new : CursorState) × TakesNext t l new
    × BeginsNone (form_view l.form) l.text.now new)

-- The bytes of a token's text, with a minus before it if there is one.
abbrev pub with_minus : Option ℕ → List ℕ → List ℕ
with_minus (Some at) text = code "-" ∷ text
with_minus None text = text

-- The bytes of a literal's text: its token's text, with the minus directly before it.
abbrev pub whole_text : NextLiteral → List ℕ
whole_text l = with_minus l.minus_at l.token.text.now

-- The parse result of a literal of a list is the parse result of the literal's text.
abbrev pub IsReadLiteral : NextLiteral → Type 0
IsReadLiteral l = FindsReading (whole_text l) l.found

-- The reason why a token of the given form doesn't begin a literal.
abbrev pub token_rejection : LexemeForm → RejectionKind
token_rejection (DelimiterForm c) = if is_opener c then Group else UnmatchedClose
token_rejection _ = NotALiteral

-- The reason why the text after the cursor, which isn't empty, doesn't begin with a literal. The reason is the lexer's
-- error, or the form of the next token.
abbrev pub IsRejected : CursorState → RejectionKind → Type 0
IsRejected t why =
    ((kind : LexKind) × (why ≡ Lex kind)
    × ((groups : List OpenGroup) → ErrorAt kind groups (chars t.rest)))
    ⊎ ((l : Lexeme) × (new : CursorState) × TakesNext t l new
    × (why ≡ token_rejection (form_view l.form)))

-- The error of a list. Its offset is the cursor's position, and its kind is the reason why a literal doesn't begin there.
pub record RejectsNext (t : CursorState) (r : Rejection) : Type 0 where
  pub reason : IsRejected t r.kind
  pub place : r.at + length t.rest ≡ length t.text

-- The result of one step over a list of literals, and the cursors before and after the step. At the end of the list, and at
-- an error, the cursor doesn't move.
abbrev pub StepsList : CursorState → ListStep → CursorState → Type 0
StepsList old End new = (old.rest ≡ []) × (new ≡ old)
StepsList old (Literal l) new = TakesNextLiteral old l new
StepsList old (Rejected r) new = HasNoNextLiteral old × RejectsNext old r × (new ≡ old)
