-- Printed lists of literals with separators between them, and the literals that are read from them.
use Rattle.std.specs.Prelude.{◌≡◌, ◌≢◌, ◌⊎◌, ℕ, ◌+◌, List, [], ◌∷◌, ◌++◌, IsTrue, codes, drop}
use Rattle.std.specs.List.{AllByRecursion}
use Rattle.std.specs.Str.{chars}
use Prim.Native.Char.{code}
use Rattle.rl_syntax.specs.Texts.{byte_len, first_passes, is_among}
use Rattle.rl_syntax.specs.Trivia.{IsTrivia}
use Rattle.rl_syntax.specs.declared.kind.Kind.TheVariants.{Int, Float}
use Rattle.rl_syntax.specs.Reading.{Digits}
use Rattle.rl_syntax.specs.Readings.{Reading}
use Rattle.rust_literals.specs.declared.lit.Lit.{Lit}
use Rattle.rust_literals.specs.Literals.{token_of}
use Rattle.rl_theorem.specs.RustRules.{IsLiteral}
use Rattle.rl_theorem.specs.SynRules.{IsSynLiteral}
use Rattle.rl_theorem.specs.Headline.{HoldsReading}

-- An item of a printed list: the separator before it, its text, and its parse result.
pub record ListItem : Type 0 where
  pub gap : List ℕ
  pub text : List ℕ
  pub reading : Reading

-- The text is a minus, and directly after it a number of Rust's grammar. In the value, `-` precedes the number's digits.
pub record IsNegative (text : List ℕ) (r : Reading) : Type 0 where
  pub number : List ℕ
  pub digits : List ℕ
  pub text_is : text ≡ code "-" ∷ number
  pub contents_is : r.contents ≡ Digits (code "-" ∷ digits)
  pub is_number : (r.kind ≡ Int) ⊎ (r.kind ≡ Float)
  pub strict : IsLiteral number (record { kind = r.kind; contents = Digits digits; suffix = r.suffix })

-- The item has its parse result by Rust's grammar, which also allows a minus before a number here. The item has it by
-- `syn`'s grammar too. This excludes integers above 128 bits and nothing else, by the laws `a_strict_text_reads` and
-- `a_strict_number_reads_after_a_minus` of `rl_syntax`.
pub record IsListItem (i : ListItem) : Type 0 where
  pub gap : IsTrivia i.gap
  pub strict : IsLiteral i.text i.reading ⊎ IsNegative i.text i.reading
  pub syn : IsSynLiteral i.text i.reading

-- The separator before the item is empty only if the item begins with `"`, `'` or `-`.
abbrev pub IsSeparated : ListItem → Type 0
IsSeparated i = (i.gap ≢ []) ⊎ IsTrue (first_passes (is_among (codes "\"'-")) i.text)

-- The text of a printed list: its items in order, each after its separator, and the separator after the last one.
abbrev pub list_text : List ListItem → List ℕ → List ℕ
list_text [] last = last
list_text (i ∷ is) last = i.gap ++ (i.text ++ list_text is last)

-- The text is a printed list: separator, item, separator, .., item, separator. Each item is a literal, and each
-- separator is white space and plain comments. The first and the last separator may be empty. Another separator is
-- empty only before an item that begins with `"`, `'` or `-`. So `true"a"` is a printed list of two items. A text that ends
-- with a line comment without LF isn't a printed list.
pub record PrintedList (t : List ℕ) (items : List ListItem) (last : List ℕ) : Type 0 where
  pub each : AllByRecursion IsListItem items
  pub apart : AllByRecursion IsSeparated (drop 1 items)
  pub last_gap : IsTrivia last
  pub text : t ≡ list_text items last

-- The literal is the item that begins at the byte offset `at` of the file. It holds the item's parse result.
pub record IsItemAt {A : Type 0} (file at : ℕ) (i : ListItem) (lit : Lit A) : Type 0 where
  pub holds : HoldsReading lit i.reading
  pub text : chars (token_of lit).text ≡ i.text
  pub span : (token_of lit).span ≡ record { file = file; lo = at; hi = at + byte_len i.text }

-- The literals are the items of a printed list, one by one. The list begins at the byte offset `at` of the file.
abbrev pub HoldItems : {A : Type 0} → ℕ → ℕ → List ListItem → List (Lit A) → Type 0
HoldItems file at [] lits = lits ≡ []
HoldItems file at (i ∷ is) [] = ⊥
HoldItems file at (i ∷ is) (l ∷ ls) =
    IsItemAt file (at + byte_len i.gap) i l × HoldItems file (at + byte_len i.gap + byte_len i.text) is ls
