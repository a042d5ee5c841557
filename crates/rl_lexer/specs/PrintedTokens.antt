-- The tokens of a printed list of literals, which is a text of literals with separators between them.
use Rattle.std.specs.Prelude.{◌≡◌, ◌≢◌, ℕ, ◌+◌, Bool, List, [], ◌∷◌, ◌++◌, map, Some, ⊤, drop}
use Rattle.std.specs.List.{AllByRecursion}
use Prim.Native.Char.{code}
use Rattle.rl_syntax.specs.Texts.{byte_len}
use Rattle.rl_syntax.specs.Trivia.{IsTrivia}
use Rattle.rl_syntax.specs.Reading.{truth_text}
use Rattle.rl_syntax.specs.Printed.{Entry, Item, LiteralItem, MinusItem, WordItem, item_text, printed_text}
use Rattle.rl_lexer.specs.Lexemes.{Lexeme, lexeme_text, IsLexeme, LexemeForm, LiteralForm, IdentifierForm, MarkForm, form_of}
use Rattle.rl_lexer.specs.Cuts.{LexedToken, LexesUpTo, open_groups}

-- A token: its form, its text, and the byte offset where it begins.
pub record Token : Type 0 where
  pub form : LexemeForm
  pub text : List ℕ
  pub at : ℕ

abbrev pub as_token : LexedToken → Token
as_token w = record { form = form_of w.lexeme; text = lexeme_text w.lexeme; at = w.at }

-- A literal, a word `true` or `false`, and a minus, as tokens at a byte offset.
abbrev pub literal_token : ℕ → List ℕ → Token
literal_token at text = record { form = LiteralForm; text = text; at = at }

abbrev pub word_token : ℕ → Bool → Token
word_token at truth = record { form = IdentifierForm; text = truth_text truth; at = at }

abbrev pub minus_token : ℕ → Token
minus_token at = record { form = MarkForm (code "-"); text = code "-" ∷ []; at = at }

-- The tokens of one item of a printed list of literals. The item begins at the byte offset `at`.
abbrev pub item_tokens : ℕ → Item → List Token
item_tokens at (WordItem truth) = word_token at truth ∷ []
item_tokens at (LiteralItem text) = literal_token at text ∷ []
item_tokens at (MinusItem text) = minus_token at ∷ literal_token (at + 1) text ∷ []

-- The tokens of all items of a printed list of literals, which begins at the byte offset `at`.
abbrev pub printed_tokens : ℕ → List Entry → List Token
printed_tokens at [] = []
printed_tokens at (e ∷ es) =
    item_tokens (at + byte_len e.gap) e.item
    ++ printed_tokens (at + byte_len e.gap + byte_len (item_text e.item)) es

-- The whole text `t` is lexed into the tokens `tokens`, which open no group that they don't close.
pub record LexesTo (t : List ℕ) (tokens : List Token) : Type 0 where
  pub cuts : List LexedToken
  pub are_cuts : LexesUpTo 0 t cuts []
  pub none_open : open_groups [] cuts ≡ Some []
  pub tokens_are : map as_token cuts ≡ tokens

-- There is a text at whose start the lexer finds the given text as a literal token. The literal needn't be valid.
abbrev pub IsLexedLiteral : List ℕ → Type 0
IsLexedLiteral text =
    (l : Lexeme) × (after : List ℕ) × IsLexeme l after × (form_of l ≡ LiteralForm)
    × (text ≡ lexeme_text l)

abbrev pub IsLexedItem : Item → Type 0
IsLexedItem (WordItem truth) = ⊤
IsLexedItem (LiteralItem text) = IsLexedLiteral text
IsLexedItem (MinusItem text) = IsLexedLiteral text

-- The text `t` is a printed list of lexed literals: a separator, an item, a separator, and so on, up to the separator
-- `last`. Each item is a literal as the lexer finds it in some text, and each separator is trivia (white space and
-- plain comments). The first and the last separator may be empty. A separator between two items isn't empty.
pub record Reprinted (t : List ℕ) (entries : List Entry) (last : List ℕ) : Type 0 where
  pub items : AllByRecursion (λ e. IsTrivia e.gap × IsLexedItem e.item) entries
  pub apart : AllByRecursion (λ e. e.gap ≢ []) (drop 1 entries)
  pub last_gap : IsTrivia last
  pub text : t ≡ printed_text entries last
