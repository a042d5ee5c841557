-- The literal at the start of a list of token trees, and the result of parsing a literal there.
use Rattle.std.specs.Prelude.{◌≡◌, ◌⊎◌, ℕ, ◌<◌, ◌==◌, min, max, List, ◌∷◌, length, Result, Ok, Err, if◌then◌else◌}
use Rattle.std.specs.Str.{chars}
use Prim.Native.Char.{code}
use Rattle.rl_syntax.specs.declared.span.Span.{Span}
use Rattle.rl_syntax.specs.declared.kind.Kind.{Kind}
use Rattle.rl_syntax.specs.declared.kind.Kind.TheVariants.{Bool as BoolKind}
use Rattle.rl_tokens.specs.declared.error.Error.{Error}
use Rattle.rl_tokens.specs.Errors.{memory_at}
use Rattle.rl_syntax.specs.Texts.{SpannedText}
use Rattle.rl_tokens.specs.Puncts.{Mark}
use Rattle.rl_tokens.specs.Trees.{Tree, IdentTree, PunctTree, LiteralTree}
use Rattle.rl_syntax.specs.Reading.{ReadsAs, HasReading}
use Rattle.rl_tokens.specs.Buffers.{first_span, IsRejection}

-- The span from the first byte of two spans to their last byte if both are in one file, else the first of the two
-- spans.
abbrev pub joined_span : Span → Span → Span
joined_span a b =
    if a.file == b.file then record { file = a.file; lo = min a.lo b.lo; hi = max a.hi b.hi } else a

-- A minus and the literal token after it, as one token. White space and comments between the two aren't part of its
-- text.
abbrev pub joined : Mark → SpannedText → SpannedText
joined mark token = record { text = code "-" ∷ token.text; span = joined_span mark.span token.span }

-- The list of token trees is a literal, whose token is `token`, followed by `rest`. The literal is a literal token with
-- any text, the identifier `true` or `false`, or a minus and a literal token that together are one literal.
abbrev pub IsFront : List Tree → SpannedText → List Tree → Type 0
IsFront (LiteralTree l ∷ trees) token rest = (token ≡ l) × (rest ≡ trees)
IsFront (IdentTree i ∷ trees) token rest =
    ReadsAs BoolKind (chars i.text) × (token ≡ i) × (rest ≡ trees)
IsFront (PunctTree m ∷ LiteralTree l ∷ trees) token rest =
    (m.ch ≡ code "-") × HasReading (code "-" ∷ chars l.text) × (token ≡ joined m l) × (rest ≡ trees)
IsFront _ token rest = ⊥

-- The list of token trees doesn't begin with a literal token, with `true` or `false`, or with a minus and a literal
-- token that together are one literal.
abbrev pub HasNoFront : List Tree → Type 0
HasNoFront trees = (token : SpannedText) (rest : List Tree) → IsFront trees token rest → ⊥

-- The list of token trees is a valid literal of the kind `kind`, whose token is `token`, followed by `rest`. `rest` is
-- shorter than the list.
pub record IsFrontOf (kind : Kind) (trees : List Tree) (token : SpannedText) (rest : List Tree)
    : Type 0 where
  pub front : IsFront trees token rest
  pub reads : ReadsAs kind (chars token.text)
  pub shorter : length rest < length trees

-- Two conditions on a list of token trees: that it begins with a literal, and that it begins with a valid literal of
-- the kind given.
abbrev pub HasFront : List Tree → Type 0
HasFront trees = (token : SpannedText) × (rest : List Tree) × IsFront trees token rest

abbrev pub HasFrontOf : Kind → List Tree → Type 0
HasFrontOf kind trees = (token : SpannedText) × (rest : List Tree) × IsFrontOf kind trees token rest

-- The list of token trees begins with a literal of another kind than `kind`, or with an invalid literal. `rest` follows
-- that literal.
pub record IsOtherFront (kind : Kind) (trees : List Tree) (rest : List Tree) : Type 0 where
  pub token : SpannedText
  pub front : IsFront trees token rest
  pub other : ReadsAs kind (chars token.text) → ⊥

-- The error `e` is `Memory` at the start of the token trees, which begin with a literal. No token tree is consumed.
pub record LacksMemoryAtFront {A : Type 0} (trees : List Tree) (scope : Span) (e : Error A)
    (rest : List Tree) : Type 0 where
  pub error : e ≡ memory_at (first_span trees scope)
  pub stays : rest ≡ trees

-- A parser of literals of the kind `kind` rejects token trees that don't begin with a literal of that kind. The error's
-- message names `word`. If the token trees begin with another literal, the parser consumes that literal, and otherwise
-- it consumes nothing.
pub record PassesOther {A : Type 0} (kind : Kind) (word : List ℕ) (trees : List Tree) (scope : Span)
    (e : Error A) (rest : List Tree) : Type 0 where
  pub rejection : IsRejection trees scope word e
  pub none : HasFrontOf kind trees → ⊥
  pub passed : IsOtherFront kind trees rest ⊎ (HasNoFront trees × (rest ≡ trees))

-- The result of a parser of literals of the kind `kind`: a literal's token, or an error. `word` names the expected
-- literal in the error's message.
abbrev pub RunsAs : {A : Type 0} → Kind → List ℕ → List Tree → Span → Result SpannedText (Error A)
    → List Tree → Type 0
RunsAs kind word trees scope (Ok token) rest = IsFrontOf kind trees token rest
RunsAs kind word trees scope (Err e) rest =
    (HasFrontOf kind trees × LacksMemoryAtFront trees scope e rest)
    ⊎ PassesOther kind word trees scope e rest
