-- The steps of the parser of a list of attributes, and the set of names that the parser has seen.
use Rattle.std.specs.Prelude.{◌≡◌, ◌⊎◌, ℕ, Bool, true, List, [], IsTrue, cond}
use Prim.Native.Char.{code}
use Rattle.std.specs.BTreeSet.{BTreeSet}
use Rattle.std.specs.Str.{bytes_eq}
use Rattle.rl_syntax.specs.declared.span.Span.{Span}
use Rattle.rl_tokens.specs.declared.error.ErrorKind.{ErrorKind}
use Rattle.rl_tokens.specs.declared.error.ErrorKind.TheVariants.{Memory}
use Rattle.rl_tokens.specs.declared.error.Error.{Error}
use Rattle.rl_tokens.specs.Errors.{memory_at}
use Rattle.rl_tokens.specs.Trees.{Tree}
use Rattle.rl_tokens.specs.Buffers.{begins_ident, IsAfterMark}
use Rattle.rl_attributes.specs.declared.attributes.name.Name.{Name}
use Rattle.rl_attributes.specs.Names.{has_name}
use Rattle.rl_attributes.specs.Attributes.{Attribute, IsAttribute, RejectsNextAttribute}

-- The set `new` contains the names of the set `old`, the name `name`, and no others.
abbrev pub AddsName : BTreeSet Name → BTreeSet Name → List ℕ → Type 0
AddsName old new name =
    (other : List ℕ) → has_name new other ≡ cond (bytes_eq name other) true (has_name old other)

-- The token trees `trees` are the attribute `attribute`, a comma, and the token trees `rest`. Or they are only the
-- attribute.
pub record IsNext (trees : List Tree) (attribute : Attribute) (rest : List Tree) : Type 0 where
  pub following : List Tree
  pub is : IsAttribute trees attribute following
  pub comma : IsAfterMark (code ",") following rest ⊎ ((following ≡ []) × (rest ≡ []))

-- The error `e` is an allocation failure, at any span, and the token trees `trees` begin with an identifier.
pub record LacksMemoryInStep {A : Type 0} (trees : List Tree) (e : Error A) : Type 0 where
  pub begun : IsTrue (begins_ident trees)
  pub memory : e.kind ≡ Memory

-- The error `e` is an error of parsing the next attribute of a list: an allocation failure, or the error for a missing
-- part or a repeated name at the start of `trees`. `seen` tells which names occurred before.
abbrev pub RejectsStep : {A : Type 0} → (List ℕ → Bool) → List Tree → Span → Error A → Type 0
RejectsStep seen trees scope e = LacksMemoryInStep trees e ⊎ RejectsNextAttribute seen trees scope e

-- An error of the given kind with the span `span`. If the kind is an allocation failure, the span is `place` instead.
abbrev pub kind_reported_at : {A : Type 0} → ErrorKind A → Span → Span → Error A
kind_reported_at Memory span place = memory_at place
kind_reported_at kind span place = record { span = span; kind = kind }

abbrev pub reported_at : {A : Type 0} → Error A → Span → Error A
reported_at e place = kind_reported_at e.kind e.span place
