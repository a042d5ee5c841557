-- The output lines of attributes. Each has the attribute's name, a space, and the output line of its literal. Texts and lines are
-- lists of characters.
use Rattle.std.specs.Prelude.{◌≡◌, ℕ, List, ◌∷◌, ◌++◌, string_bytes}
use Prim.Native.Char.{code}
use Rattle.std.specs.Str.{chars}
use Rattle.rl_program.specs.Lines.{IsLineOf, Joins}
use Rattle.rl_program.specs.LitLines.{IsLineOfLit}
use Rattle.rl_attributes.specs.declared.attributes.Entry.{Entry}
use Rattle.rl_attributes.specs.Attributes.{Attribute, AreAttributesOf}

-- The output line of an attribute: its name, a space, and the output line of its literal.
abbrev pub IsAttributeLine : Attribute → List ℕ → Type 0
IsAttributeLine a shown =
    (line : List ℕ) × IsLineOf (chars a.literal.text) line
    × (shown ≡ chars a.name.text ++ (code " " ∷ line))

-- The output lines of attributes, in order.
abbrev pub AreAttributeLines : List Attribute → List ℕ → Type 0
AreAttributeLines list shown = Joins IsAttributeLine list shown

-- The text is a list of attributes, and `shown` are their output lines.
pub record ShowsAttributes (text shown : List ℕ) : Type 0 where
  pub list : List Attribute
  pub are : AreAttributesOf text 0 list
  pub lines : AreAttributeLines list shown

-- ---- the output lines of attributes in the program's memory

-- The output line of an attribute in the program's memory, which is an entry of `Attrs`.
abbrev pub IsLineOfEntry : {A : Type 0} → Entry A → List ℕ → Type 0
IsLineOfEntry entry shown =
    (line : List ℕ) × IsLineOfLit entry.value line
    × (shown ≡ chars (string_bytes entry.name) ++ (code " " ∷ line))

-- The output lines of attributes in the program's memory, in order.
abbrev pub AreLinesOfEntries : {A : Type 0} → List (Entry A) → List ℕ → Type 0
AreLinesOfEntries entries shown = Joins IsLineOfEntry entries shown
