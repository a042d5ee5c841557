-- The meaning of parsing a whole text: the text is lexed into token trees, and a parser runs on the token trees, with
-- the text's end as scope. A text is the list of its bytes here.
use Rattle.std.specs.Prelude.{◌≡◌, ◌≢◌, ◌⊎◌, ℕ, List, [], length, Result, Ok, Err}
use Rattle.std.specs.Str.{chars}
use Rattle.rl_syntax.specs.declared.span.Span.{Span}
use Rattle.rl_lexer.specs.declared.lex_error.LexKind.{LexKind}
use Rattle.rl_tokens.specs.declared.error.ErrorKind.TheVariants.{Unexpected}
use Rattle.rl_tokens.specs.declared.error.Error.{Error}
use Rattle.rl_tokens.specs.Errors.{lex_rejection}
use Rattle.rl_tokens.specs.Trees.{Tree}
use Rattle.rl_tokens.specs.Lexing.{Lexes}
use Rattle.rl_lexer.specs.Cuts.{Rejects}
use Rattle.rl_tokens.specs.Buffers.{first_span}

-- The empty span at the byte offset `at` of a file.
abbrev pub place_at : ℕ → ℕ → Span
place_at file at = record { file = file; lo = at; hi = at }

-- The error `e` is the error for a text that can't be lexed: the text's first error, or an allocation failure at the
-- start of a token. The error's span is empty, at the error's byte offset. The text is the list of its characters here.
pub record RejectsLexing {A : Type 0} (text : List ℕ) (file : ℕ) (e : Error A) : Type 0 where
  pub kind : LexKind
  pub at : ℕ
  pub rejected : Rejects text kind at
  pub error : e ≡ lex_rejection kind (place_at file at)

-- The error `e` is the error for token trees after a parsed value. The parser parses a value from the start of `trees`,
-- and leaves token trees over. The error `Unexpected` is reported at the first token tree that is left. The relation
-- `runs` specifies the parser.
pub record LeavesTrees {T A : Type 0}
    (runs : List Tree → Span → Result T (Error A) → List Tree → Type 0) (trees : List Tree)
    (scope : Span) (e : Error A) : Type 0 where
  pub value : T
  pub rest : List Tree
  pub ran : runs trees scope (Ok value) rest
  pub some : rest ≢ []
  pub error : e ≡ record { span = first_span rest scope; kind = Unexpected }

-- The error `e` is the error for token trees that aren't exactly one value: the parser's own error, or `Unexpected` for
-- a token tree after the value.
pub record RejectsParse {T A : Type 0}
    (runs : List Tree → Span → Result T (Error A) → List Tree → Type 0) (trees : List Tree)
    (scope : Span) (e : Error A) : Type 0 where
  pub why : ((rest : List Tree) × runs trees scope (Err e) rest) ⊎ LeavesTrees runs trees scope e

-- The text is lexed into token trees, and the parser consumes all of them and returns `value`.
pub record ParsesAll {T E : Type 0} (runs : List Tree → Span → Result T E → List Tree → Type 0)
    (text : List ℕ) (file : ℕ) (value : T) : Type 0 where
  pub trees : List Tree
  pub lexes : Lexes (chars text) file trees
  pub ran : runs trees (place_at file (length text)) (Ok value) []

-- The text is lexed into token trees, and the parser rejects these with the error `e`.
pub record RejectsLexed {T A : Type 0}
    (runs : List Tree → Span → Result T (Error A) → List Tree → Type 0) (text : List ℕ) (file : ℕ)
    (e : Error A) : Type 0 where
  pub trees : List Tree
  pub lexes : Lexes (chars text) file trees
  pub rejected : RejectsParse runs trees (place_at file (length text)) e

-- The error of parsing a whole text: the error for a text that can't be lexed, or the error for token trees that aren't
-- exactly one value.
abbrev pub RejectsAll : {T A : Type 0}
    → (List Tree → Span → Result T (Error A) → List Tree → Type 0) → List ℕ → ℕ → Error A → Type 0
RejectsAll runs text file e = RejectsLexing (chars text) file e ⊎ RejectsLexed runs text file e
