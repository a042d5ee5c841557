-- The literals that are parsed from a printed list of literals: a text of literals with separators between them.
use Rattle.std.specs.Prelude.{◌≡◌, ℕ, ◌+◌, List, [], ◌∷◌, Some, Result, Ok, Err, Vec}
use Rattle.std.specs.Str.{chars, encode_utf8_all}
use Rattle.rl_syntax.specs.declared.kind.Kind.{Kind}
use Rattle.rl_tokens.specs.declared.error.Error.{Error}
use Rattle.rl_tokens.specs.declared.error.ErrorKind.TheVariants.{Memory}
use Rattle.rl_syntax.specs.declared.kind.Kind.TheVariants.{Str}
use Rattle.rl_syntax.specs.Reading.{Characters, ReadsAs, Contents}
use Rattle.rl_syntax.specs.Texts.{byte_len}
use Rattle.rl_syntax.specs.Printed.{Item, item_text, Entry, token_at, IsItemOf}
use Rattle.rust_literals.specs.declared.lit.Lit.{Lit}
use Rattle.rust_literals.specs.Literals.{kind_of, IsReadFrom, IsLitOf}

-- The result is a list of literals with the property `holds`, or the error for an allocation failure.
abbrev pub HoldsOrMemory : {A B : Type 0} → (List (Lit A) → Type 0)
    → Result (Vec (Lit A) B) (Error A) → Type 0
HoldsOrMemory holds (Ok found) = holds found.items
HoldsOrMemory holds (Err e) = e.kind ≡ Memory

-- The literal `lit` is parsed from the item `item` of a printed list of literals, which begins at the byte offset `at`
-- of the file. The literal has the item's text and byte range, and the kind, value and suffix that Rust's grammar gives
-- the item.
pub record IsItemRead {A : Type 0} (file at : ℕ) (item : Item) (lit : Lit A) : Type 0 where
  pub read : IsReadFrom (token_at file at (item_text item)) lit
  pub characters : chars (encode_utf8_all (item_text item)) ≡ item_text item
  pub kind : (kind : Kind) × (kind_of lit ≡ Some kind) × ReadsAs kind (item_text item)
  pub is_of_kind : (kind : Kind) (contents : Contents) (suffix : List ℕ)
      → IsItemOf kind contents suffix item → IsLitOf kind contents suffix lit

-- The literals are parsed from the items of a printed list of literals one by one. The text of the list begins at the
-- byte offset `at` of the file.
abbrev pub AreItems : {A : Type 0} → (file at : ℕ) → List Entry → List (Lit A) → Type 0
AreItems file at [] lits = lits ≡ []
AreItems file at (e ∷ es) [] = ⊥
AreItems file at (e ∷ es) (l ∷ ls) =
    IsItemRead file (at + byte_len e.gap) e.item l
    × AreItems file (at + byte_len e.gap + byte_len (item_text e.item)) es ls

-- The literals are strings without suffixes, with these values.
abbrev pub AreStrings : {A : Type 0} → List (Lit A) → List (List ℕ) → Type 0
AreStrings [] values = values ≡ []
AreStrings (l ∷ ls) [] = ⊥
AreStrings (l ∷ ls) (v ∷ vs) = IsLitOf Str (Characters v) [] l × AreStrings ls vs
