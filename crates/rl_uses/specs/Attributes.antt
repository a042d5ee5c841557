-- The results of the parser of an attribute `name = "value"`.
use Rattle.std.specs.Prelude.{◌≡◌, ◌⊎◌, List, ◌∷◌, IsFalse, codes, Result, Ok, Err}
use Prim.Native.Char.{code}
use Rattle.rl_syntax.specs.declared.span.Span.{Span}
use Rattle.rl_syntax.specs.declared.kind.Kind.TheVariants.{Str}
use Rattle.rl_tokens.specs.declared.error.Error.{Error}
use Rattle.rl_tokens.specs.Errors.{memory_at}
use Rattle.rl_syntax.specs.Texts.{SpannedText}
use Rattle.rl_tokens.specs.Trees.{Tree, IdentTree}
use Rattle.rl_tokens.specs.Buffers.{begins_mark, IsAfterMark, IsRejection}
use Rattle.rl_attributes.specs.Attributes.{MissesName}
use Rattle.rl_grammar.specs.Fronts.{IsFrontOf, RunsAs}
use Rattle.rl_uses.specs.declared.attribute.Attribute.{Attribute}

-- The token trees `trees` are `=` and the string literal `value`, followed by `rest`.
pub record IsAttributeValue (trees : List Tree) (value : SpannedText) (rest : List Tree)
    : Type 0 where
  pub following : List Tree
  pub equals : IsAfterMark (code "=") trees following
  pub string : IsFrontOf Str following value rest

-- The error `e` is the error for token trees that don't begin with `=`, where `=` is expected.
pub record MissesValueEquals {A : Type 0} (trees : List Tree) (scope : Span) (e : Error A)
    : Type 0 where
  pub none : IsFalse (begins_mark (code "=") trees)
  pub rejection : IsRejection trees scope (codes "`=`") e

-- The error `e` is the error of the parser of string literals, which rejects the token trees after `=`.
pub record MissesString {A : Type 0} (trees : List Tree) (scope : Span) (e : Error A) : Type 0 where
  pub following : List Tree
  pub after : List Tree
  pub equals : IsAfterMark (code "=") trees following
  pub rejected : RunsAs Str (codes "string literal") following scope (Err e) after

-- The error `e` is the error for token trees that don't begin with `=` and a string literal.
pub record RejectsValue {A : Type 0} (trees : List Tree) (scope : Span) (e : Error A) : Type 0 where
  pub why : MissesValueEquals trees scope e ⊎ MissesString trees scope e

-- The token trees `trees` are the identifier `name`, `=` and the string literal `value`, followed by `rest`.
pub record IsStringAttribute (trees : List Tree) (name value : SpannedText) (rest : List Tree)
    : Type 0 where
  pub following : List Tree
  pub named : trees ≡ IdentTree name ∷ following
  pub set : IsAttributeValue following value rest

-- The error `e` is an allocation failure for the identifier at the start of the token trees, with the identifier's
-- span.
pub record LacksMemoryForIdentifier {A : Type 0} (trees : List Tree) (e : Error A) : Type 0 where
  pub name : SpannedText
  pub following : List Tree
  pub named : trees ≡ IdentTree name ∷ following
  pub error : e ≡ memory_at name.span

-- The error `e` is the error for an identifier without `=` and a string literal after it.
pub record MissesValue {A : Type 0} (trees : List Tree) (scope : Span) (e : Error A) : Type 0 where
  pub name : SpannedText
  pub following : List Tree
  pub named : trees ≡ IdentTree name ∷ following
  pub rejected : RejectsValue following scope e

-- The error `e` is the error for token trees that don't begin with an attribute `name = "value"`: the error for the
-- first missing part, or an allocation failure.
pub record RejectsAttribute {A : Type 0} (trees : List Tree) (scope : Span) (e : Error A)
    : Type 0 where
  pub why : MissesName trees scope e ⊎ LacksMemoryForIdentifier trees e
      ⊎ MissesValue trees scope e

-- The result of the parser of an attribute: the attribute, or an error, with no token tree consumed.
abbrev pub RunsAttribute : {A : Type 0} → List Tree → Span → Result (Attribute A) (Error A)
    → List Tree → Type 0
RunsAttribute trees scope (Ok attribute) rest =
    IsStringAttribute trees attribute.name attribute.value rest
RunsAttribute trees scope (Err e) rest = RejectsAttribute trees scope e × (rest ≡ trees)
