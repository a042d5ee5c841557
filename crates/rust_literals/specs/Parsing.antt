-- The results of the parsers of literals, and the literals that a text consists of.
use Rattle.std.specs.Prelude.{◌≡◌, ◌≢◌, ◌⊎◌, ℕ, List, [], ◌∷◌, codes, Result, Ok, Err}
use Rattle.std.specs.Str.{chars}
use Rattle.rl_syntax.specs.declared.span.Span.{Span}
use Rattle.rl_syntax.specs.declared.kind.Kind.TheVariants.{Bool as BoolKind}
use Rattle.rl_tokens.specs.declared.error.Error.{Error}
use Rattle.rl_tokens.specs.Errors.{memory_at}
use Rattle.rl_syntax.specs.Spans.{nowhere}
use Rattle.rl_syntax.specs.Texts.{SpannedText}
use Rattle.rl_tokens.specs.Trees.{Tree}
use Rattle.rl_syntax.specs.Reading.{Reads, Truth}
use Rattle.rl_tokens.specs.Lexing.{Lexes}
use Rattle.rl_tokens.specs.Buffers.{first_span, IsRejection}
use Rattle.rl_fronts.specs.Fronts.{IsFront, HasFront, HasNoFront, PassesOther, LacksMemoryAtFront}
use Rattle.rl_tokens.specs.Whole.{RejectsLexing}
use Rattle.rust_literals.specs.declared.lit.Lit.{Lit}
use Rattle.rust_literals.specs.declared.lit_bool.LitBool.{LitBool}
use Rattle.rust_literals.specs.Literals.{IsReadFrom}

-- The token trees `trees` are the literal `lit`, followed by `rest`. `lit` is parsed from the text of the token at the
-- start, or is `Verbatim` if that text isn't a valid literal or is an integer above 128 bits.
pub record IsLitFront {A : Type 0} (trees : List Tree) (lit : Lit A) (rest : List Tree)
    : Type 0 where
  pub token : SpannedText
  pub front : IsFront trees token rest
  pub read : IsReadFrom token lit

-- The token trees `trees` are the `bool` literal `literal`, followed by `rest`.
pub record IsTruthFront (trees : List Tree) (literal : LitBool) (rest : List Tree) : Type 0 where
  pub token : SpannedText
  pub front : IsFront trees token rest
  pub reads : Reads (chars token.text) BoolKind (Truth literal.value) []
  pub span : literal.span ≡ token.span

-- The error `e` is the error for token trees that don't begin with a literal. The parser consumes none of them.
pub record FindsNone {A : Type 0} (trees : List Tree) (scope : Span) (e : Error A)
    (rest : List Tree) : Type 0 where
  pub rejection : IsRejection trees scope (codes "literal") e
  pub none : HasNoFront trees
  pub stays : rest ≡ trees

-- The result of the parser of `Lit`, which accepts literals of any kind: a literal, or an error.
abbrev pub RunsLit : {A : Type 0} → List Tree → Span → Result (Lit A) (Error A) → List Tree → Type 0
RunsLit trees scope (Ok lit) rest = IsLitFront trees lit rest
RunsLit trees scope (Err e) rest =
    (HasFront trees × LacksMemoryAtFront trees scope e rest) ⊎ FindsNone trees scope e rest

-- The result of the parser of `LitBool`: a `bool` literal, or an error.
abbrev pub RunsTruth : {A : Type 0} → List Tree → Span → Result LitBool (Error A) → List Tree
    → Type 0
RunsTruth trees scope (Ok literal) rest = IsTruthFront trees literal rest
RunsTruth trees scope (Err e) rest =
    PassesOther BoolKind (codes "boolean literal") trees scope e rest

-- The token trees are the literals of the list, one after another, followed by `rest`.
abbrev pub ReadsLiterals : {A : Type 0} → List Tree → List (Lit A) → List Tree → Type 0
ReadsLiterals trees [] rest = trees ≡ rest
ReadsLiterals trees (l ∷ ls) rest =
    (after : List Tree) × IsLitFront trees l after × ReadsLiterals after ls rest

-- The error `e` is the error for the first token tree that isn't a literal, after zero or more literals.
pub record RejectsNextLiteral {A : Type 0} (trees : List Tree) (scope : Span) (e : Error A)
    : Type 0 where
  pub list : List (Lit A)
  pub rest : List Tree
  pub leads : ReadsLiterals trees list rest
  pub some : rest ≢ []
  pub none : HasNoFront rest
  pub rejection : IsRejection rest scope (codes "literal") e

-- The error `e` is an allocation failure after zero or more literals: for the next literal, at its position, or for the
-- list of literals, at `Span::call_site`.
pub record LacksMemory {A : Type 0} (trees : List Tree) (scope : Span) (e : Error A) : Type 0 where
  pub list : List (Lit A)
  pub rest : List Tree
  pub leads : ReadsLiterals trees list rest
  pub memory : (HasFront rest × (e ≡ memory_at (first_span rest scope))) ⊎ (e ≡ memory_at nowhere)

-- The whole text consists of the literals `list`: it is lexed into the token trees of these literals, and no token tree
-- remains.
pub record AreRead {A : Type 0} (text : List ℕ) (file : ℕ) (list : List (Lit A)) : Type 0 where
  pub trees : List Tree
  pub lexes : Lexes text file trees
  pub leads : ReadsLiterals trees list []

-- The text is lexed into token trees, and the error `e` is the error for the first token tree that isn't a literal, or
-- an allocation failure.
pub record RejectsLiteralTrees {A : Type 0} (text : List ℕ) (file end : ℕ) (e : Error A)
    : Type 0 where
  pub trees : List Tree
  pub lexes : Lexes text file trees
  pub rejected : RejectsNextLiteral trees (record { file = file; lo = end; hi = end }) e
      ⊎ LacksMemory trees (record { file = file; lo = end; hi = end }) e

-- The errors of `read_all` for a text whose length in bytes is `end`.
abbrev pub RejectsText : {A : Type 0} → List ℕ → ℕ → ℕ → Error A → Type 0
RejectsText text file end e = RejectsLexing text file e ⊎ RejectsLiteralTrees text file end e
