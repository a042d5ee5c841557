-- The literals of a list, one after another, and the items of a printed list that are left. No memory is taken, so no
-- definition speaks of it.
use Rattle.std.specs.Prelude.{◌≡◌, ℕ, ◌+◌, Bool, true, false, List, [], ◌∷◌, ◌++◌, map, Option, Some, None}
use Rattle.std.specs.List.{AllByRecursion}
use Rattle.std.specs.Str.{chars}
use Rattle.rl_syntax.specs.Texts.{byte_len}
use Rattle.rl_syntax.specs.Readings.{Reading, IsTheReading}
use Rattle.rl_syntax.specs.Printed.{Item, Entry, item_text, IsStrictItem, IsItemOf}
use Rattle.rl_lexer.specs.Cuts.{LexedToken, LexesUpTo}
use Rattle.rl_lexer.specs.PrintedTokens.{as_token, printed_tokens}
use Rattle.rl_lexer.specs.Cursors.{CursorState}
use Rattle.rl_lenient.specs.declared.found.Found.{Found}
use Rattle.rl_lenient.specs.Founds.{suffix_in}
use Rattle.rl_cursors.specs.declared.next_literals.NextLiteral.{NextLiteral}
use Rattle.rl_cursors.specs.declared.next_literals.ListStep.{ListStep}
use Rattle.rl_cursors.specs.declared.next_literals.ListStep.TheVariants.{End, Literal, Rejected}
use Rattle.rl_cursors.specs.NextLiterals.{whole_text}

-- The state of a list: its cursor, and whether the list ended with an error.
pub record ListState : Type 0 where
  pub cursor : CursorState
  pub is_done : Bool

abbrev pub is_rejected : ListStep → Bool
is_rejected (Rejected r) = true
is_rejected _ = false

-- The byte offset where a literal begins: at its minus, if it has one.
abbrev pub begins_at : Option ℕ → ℕ → ℕ
begins_at (Some minus) at = minus
begins_at None at = at

-- The code's parse result of the literal has the kind and the suffix of the parse result `r`.
abbrev pub IsFoundAs : Reading → NextLiteral → Type 0
IsFoundAs r l =
    (f : Found) × (l.found ≡ Some f) × (f.kind ≡ r.kind)
    × (chars (suffix_in (whole_text l) f.body) ≡ r.suffix)

-- The literal is the item of a printed list that begins at the byte offset `at`. Its parse result is the one that Rust's
-- grammar gives the item, and there is no other.
pub record IsItemTaken (at : ℕ) (item : Item) (l : NextLiteral) : Type 0 where
  pub reading : Reading
  pub strict : IsItemOf reading.kind reading.contents reading.suffix item
  pub text : chars (whole_text l) ≡ item_text item
  pub reads : IsTheReading (chars (whole_text l)) reading
  pub found : IsFoundAs reading l
  pub lo : begins_at l.minus_at l.token.lo ≡ at
  pub hi : l.token.hi ≡ at + byte_len (item_text item)

-- The items `entries` are left in the list: the whole text is lexed into the tokens before the cursor, and then the
-- tokens of these items. The first separator begins at the byte offset `at`.
pub record ItemsLeft (at : ℕ) (entries : List Entry) (s : ListState) : Type 0 where
  pub going : s.is_done ≡ false
  pub strict : AllByRecursion (λ e. IsStrictItem e.item) entries
  pub all : List LexedToken
  pub taken : List LexedToken
  pub whole : LexesUpTo 0 (chars s.cursor.text) all []
  pub before : LexesUpTo 0 (chars s.cursor.text) taken (chars s.cursor.rest)
  pub left : map as_token all ≡ map as_token taken ++ printed_tokens at entries

-- A step over the items that are left: the step is the first item, and the others are left after it. If none is left,
-- the step is the end.
abbrev pub TakesItem : ℕ → List Entry → ListStep → ListState → Type 0
TakesItem at [] step new = (step ≡ End) × ItemsLeft at [] new
TakesItem at (e ∷ es) step new =
    (l : NextLiteral) × (step ≡ Literal l) × IsItemTaken (at + byte_len e.gap) e.item l
    × ItemsLeft (at + byte_len e.gap + byte_len (item_text e.item)) es new
