-- The results of the parser of a list of attributes.
use Rattle.std.specs.Prelude.{◌≡◌, List, [], All, Result, Ok, Err}
use Rattle.rl_syntax.specs.declared.span.Span.{Span}
use Rattle.rl_tokens.specs.declared.error.Error.{Error}
use Rattle.rl_tokens.specs.declared.error.ErrorKind.TheVariants.{Memory}
use Rattle.rl_tokens.specs.Trees.{Tree}
use Rattle.rl_attributes.specs.declared.attributes.Entry.{Entry}
use Rattle.rl_attributes.specs.declared.attributes.Attrs.{Attrs}
use Rattle.rl_attributes.specs.Attributes.{Attribute, AreAttributes, RejectsAttributeTrees}
use Rattle.rl_attributes.specs.Entries.{attributes_of, IsReadEntry}

-- The attributes of a list, in their order.
abbrev pub entries_of : {A : Type 0} → Attrs A → List (Entry A)
entries_of attrs = attrs.entries.items

-- The span of the error for a missing name: the end of the text, or the scope of the parse buffer.
abbrev pub attrs_end : {A : Type 0} → Attrs A → Span
attrs_end attrs = attrs.end

-- The token trees `trees` are the attributes `entries` with commas between them, and each value is parsed from the text
-- of its literal.
pub record AreEntries {A : Type 0} (trees : List Tree) (entries : List (Entry A)) : Type 0 where
  pub are : AreAttributes trees (attributes_of entries)
  pub read : All IsReadEntry entries

-- The result of the parser of a list of attributes: a list, with all token trees consumed, or an error, with none
-- consumed.
abbrev pub RunsAttrs : {A : Type 0} → List Tree → Span → Result (Attrs A) (Error A) → List Tree
    → Type 0
RunsAttrs trees scope (Ok attrs) rest =
    AreEntries trees (entries_of attrs) × (rest ≡ []) × (attrs_end attrs ≡ scope)
RunsAttrs trees scope (Err e) rest = RejectsAttributeTrees trees scope e × (rest ≡ trees)

-- The result is the list of attributes `list`, or the error for an allocation failure.
abbrev pub IsListOrMemory : {A : Type 0} → List Attribute → Result (Attrs A) (Error A) → Type 0
IsListOrMemory list (Ok attrs) = attributes_of (entries_of attrs) ≡ list
IsListOrMemory list (Err e) = e.kind ≡ Memory
