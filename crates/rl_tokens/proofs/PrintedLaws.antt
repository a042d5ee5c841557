-- Proofs that printed lists of literals are lexed into the token trees of their items.
use Rattle.rl_syntax.proofs.Common.{◌≡◌, ℕ, ◌+◌, List, [], ◌∷◌, ◌++◌, map, length, refl, ◌∙◌, ap, encode_ascii, lit<}
use Rattle.rl_syntax.specs.Texts.{byte_len}
use Rattle.rl_syntax.specs.Printed.{Item, WordItem, LiteralItem, MinusItem, item_text, Entry, token_at}
use Rattle.rl_lexer.specs.PrintedTokens.{Token, word_token, literal_token, item_tokens, printed_tokens, LexesTo}
use Rattle.rl_lexer.proofs.PrintedLaws.{printed_lexes, reprinted_lexes}
use Rattle.rl_tokens.specs.Trees.{Tree, FlatPunct, FlatLiteral, flat_trees}
use Rattle.rl_tokens.specs.Lexing.{Lexes}
use Rattle.rl_tokens.specs.PrintedTrees.{item_trees, printed_trees, PrintedLiteralsLexToTheirTrees, ReprintedLiteralsLexToThemselves}
use Rattle.rl_tokens.proofs.CutLaws.{flat_view, flat_tokens}

minus_len : byte_len (45 ∷ []) ≡ 1
minus_len = ap (λ z. length (z ++ [])) (encode_ascii 45 (lit< tt))

-- The tokens of an item are the tokens of the item's token trees.
item_flat : (file at : ℕ) (item : Item) (tokens : List Token) (trees : List Tree) → map (flat_view file) tokens
    ≡ flat_trees trees → map (flat_view file) (item_tokens at item ++ tokens) ≡ flat_trees (item_trees file at item ++ trees)
unfolding flat_view
item_flat file at (WordItem truth) tokens trees same = ap (λ fs. flat_view file (word_token at truth) ∷ fs) same
item_flat file at (LiteralItem text) tokens trees same = ap (λ fs. flat_view file (literal_token at text) ∷ fs) same
item_flat file at (MinusItem text) tokens trees same =
    ap (λ n. FlatPunct (record { ch = 45; span = record { file = file; lo = at; hi = at + n } })
    ∷ FlatLiteral (token_at file (at + 1) text) ∷ map (flat_view file) tokens) minus_len
    ∙ ap (λ fs. FlatPunct (record { ch = 45; span = record { file = file; lo = at; hi = at + 1 } })
    ∷ FlatLiteral (token_at file (at + 1) text) ∷ fs) same

trees_flat : (file at : ℕ) (entries : List Entry) → map (flat_view file) (printed_tokens at entries)
    ≡ flat_trees (printed_trees file at entries)
trees_flat file at [] = refl
trees_flat file at (e ∷ es) =
    let next = at + byte_len e.gap + byte_len (item_text e.item) in
    item_flat file (at + byte_len e.gap) e.item (printed_tokens next es) (printed_trees file next es)
    (trees_flat file next es)

to_trees : (t : List ℕ) (file : ℕ) (entries : List Entry) → LexesTo t (printed_tokens 0 entries)
    → Lexes t file (printed_trees file 0 entries)
to_trees t file entries is = record {
  cuts = is.cuts;
  are_cuts = is.are_cuts;
  none_open = is.none_open;
  flat_is = flat_tokens file is.cuts ∙ ap (map (flat_view file)) is.tokens_are ∙ trees_flat file 0 entries;
}

pub printed_literals_lex_to_their_trees : PrintedLiteralsLexToTheirTrees
printed_literals_lex_to_their_trees t entries last file printed =
    to_trees t file entries (printed_lexes t entries last printed)

pub reprinted_literals_lex_to_themselves : ReprintedLiteralsLexToThemselves
reprinted_literals_lex_to_themselves t entries last file reprinted =
    to_trees t file entries (reprinted_lexes t entries last reprinted)
