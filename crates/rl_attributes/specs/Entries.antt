-- Attributes whose values are parsed literals (entries), and their parts.
use Rattle.std.specs.Prelude.{◌≡◌, ℕ, List, All, map, string_bytes}
use Rattle.std.specs.Str.{chars}
use Rattle.rl_syntax.specs.Reading.{IsReadAs}
use Rattle.rust_literals.specs.declared.lit.Lit.{Lit}
use Rattle.rust_literals.specs.Literals.{kind_of, token_of}
use Rattle.rl_attributes.specs.declared.attributes.Entry.{Entry}
use Rattle.rl_attributes.specs.Attributes.{Attribute, NamesDiffer}

-- Converts an attribute whose value is a parsed literal to an `Attribute`, which contains the texts and spans of the
-- name and the literal.
abbrev pub attribute_of : {A : Type 0} → Entry A → Attribute
attribute_of entry =
    record {
      name = record { text = string_bytes entry.name; span = entry.span };
      literal = token_of entry.value;
    }

abbrev pub attributes_of : {A : Type 0} → List (Entry A) → List Attribute
attributes_of entries = map attribute_of entries

-- The attribute's value is parsed from the text of its literal, or is `Verbatim` if that text isn't a valid literal or
-- is an integer above 128 bits.
abbrev pub IsReadEntry : {A : Type 0} → Entry A → Type 0
IsReadEntry entry = IsReadAs (kind_of entry.value) (chars (token_of entry.value).text)

-- The literal is parsed from its own text, or is `Verbatim` if that text isn't a valid literal or is an integer above
-- 128 bits. The fact is stated so that it has at most one proof.
abbrev pub IsReadLit : {A : Type 0} → Lit A → Type 0
IsReadLit lit = ∥ IsReadAs (kind_of lit) (chars (token_of lit).text) ∥₁

-- The value of each attribute is parsed from the text of its literal. A list of attributes keeps this fact as an
-- invariant.
abbrev pub AreReadValues : {A : Type 0} → List (Entry A) → Type 0
AreReadValues entries = All (λ e. IsReadLit e.value) entries

-- The attribute has the name `name`.
abbrev pub HasName : {A : Type 0} → List ℕ → Entry A → Type 0
HasName name entry = string_bytes entry.name ≡ name

-- No two attributes of a list have the same name.
abbrev pub EntriesDiffer : {A : Type 0} → List (Entry A) → Type 0
EntriesDiffer entries = NamesDiffer (attributes_of entries)
