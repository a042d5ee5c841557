-- The token trees into which a printed list of literals is lexed. A printed list is a text of literals with separators
-- between them.
use Rattle.std.specs.Prelude.{ℕ, ◌+◌, List, [], ◌∷◌, ◌++◌}
use Prim.Native.Char.{code}
use Rattle.rl_tokens.specs.Trees.{Tree, IdentTree, PunctTree, LiteralTree}
use Rattle.rl_lexer.specs.PrintedTokens.{Reprinted}
use Rattle.rl_syntax.specs.Texts.{byte_len}
use Rattle.rl_tokens.specs.Lexing.{Lexes}
use Rattle.rl_syntax.specs.Reading.{truth_text}
use Rattle.rl_syntax.specs.Printed.{Entry, Item, LiteralItem, MinusItem, Printed, WordItem, item_text, token_at}

-- The token trees of one item of a printed list of literals: a word `true` or `false`, a literal, or a minus and a
-- literal. The item begins at the byte offset `at` of the file.
abbrev pub item_trees : ℕ → ℕ → Item → List Tree
item_trees file at (WordItem truth) = IdentTree (token_at file at (truth_text truth)) ∷ []
item_trees file at (LiteralItem text) = LiteralTree (token_at file at text) ∷ []
item_trees file at (MinusItem text) =
    PunctTree (record { ch = code "-"; span = record { file = file; lo = at; hi = at + 1 } })
    ∷ LiteralTree (token_at file (at + 1) text) ∷ []

-- The token trees of all items of a printed list of literals, which begins at the byte offset `at` of the file.
abbrev pub printed_trees : ℕ → ℕ → List Entry → List Tree
printed_trees file at [] = []
printed_trees file at (e ∷ es) =
    item_trees file (at + byte_len e.gap) e.item
    ++ printed_trees file (at + byte_len e.gap + byte_len (item_text e.item)) es

-- A theorem: a printed list of literals that Rust's grammar accepts is lexed into the token trees of the list's items
-- and no others.
abbrev pub PrintedLiteralsLexToTheirTrees : Type 0
PrintedLiteralsLexToTheirTrees =
    (t : List ℕ) (entries : List Entry) (last : List ℕ) (file : ℕ) → Printed t entries last
    → Lexes t file (printed_trees file 0 entries)

-- A theorem: a printed list of literals that were lexed from any text is lexed into the token trees of the list's items
-- and no others.
abbrev pub ReprintedLiteralsLexToThemselves : Type 0
ReprintedLiteralsLexToThemselves =
    (t : List ℕ) (entries : List Entry) (last : List ℕ) (file : ℕ) → Reprinted t entries last
    → Lexes t file (printed_trees file 0 entries)
