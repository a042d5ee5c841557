-- Printed lists of literals with separators between them, and the tokens of a printed list. A character is represented
-- by its code.
use Rattle.std.specs.Prelude.{◌≡◌, ◌≢◌, ℕ, ◌+◌, ◌⊎◌, Bool, List, [], ◌∷◌, ◌++◌, IsTrue, ⊤, drop, codes, encode_utf8_all}
use Rattle.std.specs.List.{AllByRecursion}
use Prim.Native.Char.{code}
use Rattle.rl_syntax.specs.declared.kind.Kind.{Kind}
use Rattle.rl_syntax.specs.declared.kind.Kind.TheVariants.{Bool as BoolKind}
use Rattle.rl_syntax.specs.Texts.{is_among, first_passes, SpannedText, byte_len}
use Rattle.rl_syntax.specs.Trivia.{IsTrivia}
use Rattle.rl_syntax.specs.Reading.{Contents, Digits, truth_text, HasReading}
use Rattle.rl_syntax.specs.Strict.{Strict}
use Rattle.rl_syntax.specs.Quoted.{is_number}

-- An item of a printed list: `true` or `false`, the text of another literal, or a minus and the text of a number.
pub data Item : Type 0 where
  WordItem : (truth : Bool) → Item
  LiteralItem : (text : List ℕ) → Item
  MinusItem : (text : List ℕ) → Item

abbrev pub item_text : Item → List ℕ
item_text (WordItem truth) = truth_text truth
item_text (LiteralItem text) = text
item_text (MinusItem text) = code "-" ∷ text

-- An item of a printed list, and the separator before it.
pub record Entry : Type 0 where
  pub gap : List ℕ
  pub item : Item

-- The text of a printed list: its entries in order, and the separator after the last one.
abbrev pub printed_text : List Entry → List ℕ → List ℕ
printed_text [] last = last
printed_text (e ∷ es) last = e.gap ++ (item_text e.item ++ printed_text es last)

-- The token with the text `text` and its span, where the token begins at the byte offset `at` of the file.
abbrev pub token_at : ℕ → ℕ → List ℕ → SpannedText
token_at file at text =
    record {
      text = encode_utf8_all text;
      span = record { file = file; lo = at; hi = at + byte_len text };
    }

-- The text is a literal of the kind by Rust's grammar.
abbrev pub IsStrictAs : Kind → List ℕ → Type 0
IsStrictAs kind t = (contents : Contents) × (suffix : List ℕ) × Strict t kind contents suffix

-- The item of a printed list is a literal of both grammars: of Rust's, and of `syn`'s. After a minus it is a number.
-- `true` and `false` always have this property.
abbrev pub IsStrictItem : Item → Type 0
IsStrictItem (WordItem truth) = ⊤
IsStrictItem (LiteralItem text) =
    (kind : Kind) × (kind ≢ BoolKind) × IsStrictAs kind text × HasReading text
IsStrictItem (MinusItem text) =
    (kind : Kind) × IsTrue (is_number kind) × IsStrictAs kind text × HasReading (code "-" ∷ text)

-- The kind, value and suffix of an item of a printed list of literals by Rust's grammar. The value of a minus and a
-- number is the number's digits with `-` before them.
abbrev pub IsItemOf : Kind → Contents → List ℕ → Item → Type 0
IsItemOf kind contents suffix (WordItem truth) = Strict (truth_text truth) kind contents suffix
IsItemOf kind contents suffix (LiteralItem text) = Strict text kind contents suffix
IsItemOf kind contents suffix (MinusItem text) =
    (digits : List ℕ) × IsTrue (is_number kind) × Strict text kind (Digits digits) suffix
    × (contents ≡ Digits (code "-" ∷ digits))

-- The separator before the item is empty only if the item begins with `"`, `'` or `-`.
abbrev pub IsApart : Entry → Type 0
IsApart e = (e.gap ≢ []) ⊎ IsTrue (first_passes (is_among (codes "\"'-")) (item_text e.item))

-- The text is a printed list: separator, item, separator, .., item, separator. Each item is a literal, and each
-- separator is white space and plain comments. The first and the last separator may be empty. Another separator is
-- empty only before an item that begins with `"`, `'` or `-`.
pub record Printed (t : List ℕ) (entries : List Entry) (last : List ℕ) : Type 0 where
  pub items : AllByRecursion (λ e. IsTrivia e.gap × IsStrictItem e.item) entries
  pub apart : AllByRecursion IsApart (drop 1 entries)
  pub last_gap : IsTrivia last
  pub text : t ≡ printed_text entries last
