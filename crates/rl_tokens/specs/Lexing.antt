-- The relation between a text and its token trees: the text's tokens, and the groups that they form.
pub use Rattle.rl_lexer.specs.Cuts.{LexedToken, end_of, LexesUpTo, is_pair, is_opener, is_closer, OpenGroup, closes, popped, after_delimiter, after_form, after_lexeme, open_groups, begins_doc_comment, begins_lifetime, BeginsQuote, BeginsLexeme, BeginsNoLexeme, ErrorAt, innermost, error_place, HasFirstError, LeavesRestAt, Rejects, OneError}
use Rattle.std.specs.Prelude.{◌≡◌, ◌⊎◌, ℕ, ◌||◌, ◌==◌, List, [], map, encode_utf8_all, Some, if◌then◌else◌}
use Prim.Native.Char.{code}
use Rattle.rl_syntax.specs.declared.span.Span.{Span}
use Rattle.rl_tokens.specs.declared.token.Delimiter.{Delimiter}
use Rattle.rl_tokens.specs.declared.token.Delimiter.TheVariants.{Parenthesis, Brace, Bracket}
use Rattle.rl_lexer.specs.declared.lex_error.LexKind.{LexKind}
use Rattle.rl_tokens.specs.Trees.{Tree, FlatToken, Opening, Closing, FlatIdent, FlatPunct, FlatLiteral, flat_trees}
use Rattle.rl_lexer.specs.Lexemes.{lexeme_text, LexemeForm, LiteralForm, IdentifierForm, DelimiterForm, MarkForm, form_of}

-- The pair of delimiters that the opening or closing delimiter `c` belongs to.
abbrev pub delimiter_for : ℕ → Delimiter
delimiter_for c =
    if c == code "(" || c == code ")" then Parenthesis
    else (if c == code "[" || c == code "]" then Bracket else Brace)

-- Converts a token with the given form, text and span to an element of a flat list of tokens. In a flat list each
-- delimiter of a group is an element of its own.
abbrev pub flat_form : LexemeForm → List ℕ → Span → FlatToken
flat_form LiteralForm text span = FlatLiteral (record { text = text; span = span })
flat_form IdentifierForm text span = FlatIdent (record { text = text; span = span })
flat_form (DelimiterForm c) text span =
    if is_opener c then Opening (delimiter_for c) span else Closing (delimiter_for c) span
flat_form (MarkForm c) text span = FlatPunct (record { ch = c; span = span })

-- Converts a lexed token of a file to an element of a flat list of tokens. The element's span is the file and the byte
-- range of the token.
abbrev pub flat_token : ℕ → LexedToken → FlatToken
flat_token file w =
    flat_form (form_of w.lexeme) (encode_utf8_all (lexeme_text w.lexeme))
    (record { file = file; lo = w.at; hi = end_of w })

-- The whole text `t` is lexed into the token trees `trees`. No text remains, and no group is open at the end.
pub record Lexes (t : List ℕ) (file : ℕ) (trees : List Tree) : Type 0 where
  pub cuts : List LexedToken
  pub are_cuts : LexesUpTo 0 t cuts []
  pub none_open : open_groups [] cuts ≡ Some []
  pub flat_is : map (flat_token file) cuts ≡ flat_trees trees

-- A theorem: a text is lexed into at most one list of token trees.
abbrev pub OneList : Type 0
OneList = (t : List ℕ) (file : ℕ) (xs ys : List Tree) → Lexes t file xs → Lexes t file ys → xs ≡ ys

-- A theorem: if a text is lexed into token trees, the text has no first error.
abbrev pub NeverBoth : Type 0
NeverBoth =
    (t : List ℕ) (file : ℕ) (trees : List Tree) (k : LexKind) (at : ℕ) → Lexes t file trees
    → HasFirstError t k at → ⊥

-- A theorem: each text is lexed into token trees, or has a first error.
abbrev pub ATextLexesOrHasAnError : Type 0
ATextLexesOrHasAnError =
    (t : List ℕ) (file : ℕ)
    → ((trees : List Tree) × Lexes t file trees) ⊎ ((kind : LexKind) × (at : ℕ) × HasFirstError t kind at)
