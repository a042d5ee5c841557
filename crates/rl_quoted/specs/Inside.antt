-- The meaning of parsing a string literal's decoded value. The value is lexed into token trees. Each token tree gets
-- the literal's span, or the span in the file from which it comes. A parser runs on the token trees with the literal's
-- span as scope.
use Rattle.std.specs.Prelude.{◌≡◌, ◌≢◌, ◌⊎◌, ℕ, List, [], ◌∷◌, Result, Ok, Err, string_bytes}
use Rattle.std.specs.Str.{chars}
use Rattle.rl_syntax.specs.declared.span.Span.{Span}
use Rattle.rl_syntax.specs.declared.kind.Kind.TheVariants.{Str}
use Rattle.rl_lexer.specs.declared.lex_error.LexKind.{LexKind}
use Rattle.rl_tokens.specs.declared.error.ErrorKind.{ErrorKind}
use Rattle.rl_tokens.specs.declared.error.ErrorKind.TheVariants.{Unexpected, Suffix}
use Rattle.rl_tokens.specs.declared.error.Error.{Error}
use Rattle.rl_tokens.specs.Errors.{memory_at, lex_rejection}
use Rattle.rl_tokens.specs.Buffers.{first_span}
use Rattle.rl_syntax.specs.Texts.{SpannedText}
use Rattle.rl_tokens.specs.Trees.{Tree, Trees, GroupTree, IdentTree, PunctTree, LiteralTree, NoTrees, MoreTrees}
use Rattle.rl_syntax.specs.Reading.{Characters, HasContents, HasSuffix}
use Rattle.rl_tokens.specs.Lexing.{Lexes}
use Rattle.rl_lexer.specs.Cuts.{Rejects}
use Rattle.rl_tokens.specs.Whole.{place_at}
use Rattle.rl_quoted.specs.declared.inside.Placing.{Placing}
use Rattle.rl_quoted.specs.declared.inside.Placing.TheVariants.{AtLiteral, InFile}
use Rattle.rl_quoted.specs.Places.{IsSpanOf}

-- The span `place` in the file for a range of a string literal's decoded value: the literal's span, or the span from
-- which the range's bytes come.
abbrev pub IsReportedAt : Placing → SpannedText → Span → Span → Type 0
IsReportedAt AtLiteral token span place = place ≡ token.span
IsReportedAt InFile token span place = IsSpanOf Str token span.lo span.hi place

-- The span `place` of the error for token trees that a parser leaves over in a string literal: the literal's span, or
-- the span of the first of the token trees.
abbrev pub IsLeftoverAt : Placing → SpannedText → List Tree → Span → Type 0
IsLeftoverAt AtLiteral token rest place = place ≡ token.span
IsLeftoverAt InFile token rest place = place ≡ first_span rest token.span

-- The second token tree is the first one with each span replaced, also inside groups. `goes` relates an old span to its
-- new span.
abbrev mutual
  pub IsMoved : (Span → Span → Type 0) → Tree → Tree → Type 0
  IsMoved goes (GroupTree d inside span) moved =
      (there : Trees) × (place : Span) × AreMovedInside goes inside there × goes span place
      × (moved ≡ GroupTree d there place)
  IsMoved goes (IdentTree i) moved =
      (place : Span) × goes i.span place × (moved ≡ IdentTree (record i { span = place }))
  IsMoved goes (PunctTree p) moved =
      (place : Span) × goes p.span place × (moved ≡ PunctTree (record p { span = place }))
  IsMoved goes (LiteralTree l) moved =
      (place : Span) × goes l.span place × (moved ≡ LiteralTree (record l { span = place }))

  pub AreMovedInside : (Span → Span → Type 0) → Trees → Trees → Type 0
  AreMovedInside goes NoTrees moved = moved ≡ NoTrees
  AreMovedInside goes (MoreTrees t ts) moved =
      (first : Tree) × (others : Trees) × IsMoved goes t first × AreMovedInside goes ts others
      × (moved ≡ MoreTrees first others)

abbrev pub AreMoved : (Span → Span → Type 0) → List Tree → List Tree → Type 0
AreMoved goes [] moved = moved ≡ []
AreMoved goes (t ∷ ts) moved =
    (first : Tree) × (others : List Tree) × IsMoved goes t first × AreMoved goes ts others
    × (moved ≡ first ∷ others)

-- The string literal's decoded value is lexed into the token trees `trees`, and their spans are replaced as `placing`
-- selects, also inside groups.
pub record AreInside (placing : Placing) (token : SpannedText) (trees : List Tree) : Type 0 where
  pub value : List ℕ
  pub contents : HasContents Str (chars token.text) (Characters value)
  pub cut : List Tree
  pub lexes : Lexes value token.span.file cut
  pub moved : AreMoved (IsReportedAt placing token) cut trees

-- A parser runs on the token trees of a string literal's decoded value. The parser's result is `answer`, and it leaves
-- the token trees `rest` over. The relation `runs` specifies the parser.
pub record Runs {R : Type 0} (placing : Placing)
    (runs : List Tree → Span → R → List Tree → Type 0) (token : SpannedText) (answer : R)
    (rest : List Tree) : Type 0 where
  pub trees : List Tree
  pub inside : AreInside placing token trees
  pub ran : runs trees token.span answer rest

-- A parser consumes all token trees of a string literal's decoded value and returns `value`, and the literal has no
-- suffix.
pub record IsParsed {T E : Type 0} (placing : Placing)
    (runs : List Tree → Span → Result T E → List Tree → Type 0) (token : SpannedText) (value : T)
    : Type 0 where
  pub ran : Runs placing runs token (Ok value) []
  pub no_suffix : HasSuffix Str (chars token.text) []

-- The error `e` is the error for a string literal whose decoded value can't be lexed: the first error of the decoded
-- value, or an allocation failure, at the span in the file that `placing` selects for its position.
pub record RejectsLexingInside {A : Type 0} (placing : Placing) (token : SpannedText) (e : Error A)
    : Type 0 where
  pub value : List ℕ
  pub contents : HasContents Str (chars token.text) (Characters value)
  pub kind : LexKind
  pub at : ℕ
  pub rejected : Rejects value kind at
  pub place : Span
  pub reported : IsReportedAt placing token (place_at token.span.file at) place
  pub error : e ≡ lex_rejection kind place

-- A parser that runs on the token trees of a string literal's decoded value returns the error `e`.
pub record IsOwnRejection {T E : Type 0} (placing : Placing)
    (runs : List Tree → Span → Result T E → List Tree → Type 0) (token : SpannedText) (e : E)
    : Type 0 where
  pub rest : List Tree
  pub ran : Runs placing runs token (Err e) rest

-- The error `e` is `Unexpected`. A parser returns a value, but leaves some token trees of a string literal's decoded
-- value over.
pub record LeavesTreesInside {T A : Type 0} (placing : Placing)
    (runs : List Tree → Span → Result T (Error A) → List Tree → Type 0) (token : SpannedText)
    (e : Error A) : Type 0 where
  pub value : T
  pub rest : List Tree
  pub ran : Runs placing runs token (Ok value) rest
  pub some : rest ≢ []
  pub place : Span
  pub reported : IsLeftoverAt placing token rest place
  pub error : e ≡ record { span = place; kind = Unexpected }

-- The kind of error is `Suffix`, with the literal's suffix, which isn't empty.
abbrev pub ReportsSuffix : {A : Type 0} → List ℕ → ErrorKind A → Type 0
ReportsSuffix text (Suffix suffix) =
    HasSuffix Str text (chars (string_bytes suffix)) × (string_bytes suffix ≢ [])
ReportsSuffix text _ = ⊥

-- The error `e` is the error for a string literal with a suffix: `Suffix`, at the literal's span.
pub record IsSuffixed {A : Type 0} (token : SpannedText) (e : Error A) : Type 0 where
  pub span : e.span ≡ token.span
  pub suffix : ReportsSuffix (chars token.text) e.kind

-- The error `e` is the error for a string literal with a suffix. A parser consumes all token trees of the literal's
-- decoded value.
pub record LeavesSuffix {T A : Type 0} (placing : Placing)
    (runs : List Tree → Span → Result T (Error A) → List Tree → Type 0) (token : SpannedText)
    (e : Error A) : Type 0 where
  pub value : T
  pub ran : Runs placing runs token (Ok value) []
  pub suffixed : IsSuffixed token e

-- The errors of parsing a string literal's decoded value, in the order in which they are reported: a lexing error, the
-- parser's own error, token trees that are left over, and a suffix of the literal. Another error is an allocation
-- failure at the literal's span.
abbrev pub RejectsInsideAt : {T A : Type 0} → Placing
    → (List Tree → Span → Result T (Error A) → List Tree → Type 0) → SpannedText → Error A → Type 0
RejectsInsideAt placing runs token e =
    RejectsLexingInside placing token e ⊎ IsOwnRejection placing runs token e
    ⊎ LeavesTreesInside placing runs token e ⊎ LeavesSuffix placing runs token e
    ⊎ (e ≡ memory_at token.span)

-- The result and the errors of parsing a string literal's decoded value if each token gets the literal's span.
abbrev pub IsParsedInside : {T E : Type 0}
    → (List Tree → Span → Result T E → List Tree → Type 0) → SpannedText → T → Type 0
IsParsedInside = IsParsed AtLiteral

abbrev pub RejectsInside : {T A : Type 0}
    → (List Tree → Span → Result T (Error A) → List Tree → Type 0) → SpannedText → Error A → Type 0
RejectsInside = RejectsInsideAt AtLiteral

-- The result and the errors of parsing a string literal's decoded value if each token gets the span in the file from
-- which it comes.
abbrev pub IsParsedInFile : {T E : Type 0}
    → (List Tree → Span → Result T E → List Tree → Type 0) → SpannedText → T → Type 0
IsParsedInFile = IsParsed InFile

abbrev pub RejectsInFile : {T A : Type 0}
    → (List Tree → Span → Result T (Error A) → List Tree → Type 0) → SpannedText → Error A → Type 0
RejectsInFile = RejectsInsideAt InFile
