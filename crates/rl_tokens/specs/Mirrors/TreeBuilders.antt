-- An executable model of the builder of token trees, for proofs only: the token trees of a text while the text is
-- lexed, and the groups that are open.
use Rattle.std.specs.Prelude.{◌≡◌, ◌<◌, ℕ, ◌+◌, true, false, List, [], ◌∷◌, ◌++◌, IsTrue, Some, length, map, reverse, not, ◌&&◌, ⊤}
use Rattle.std.specs.Str.{chars}
use Prim.Native.Char.{code}
use Rattle.rl_tokens.specs.declared.token.Delimiter.{Delimiter}
use Rattle.rl_tokens.specs.declared.token.Delimiter.TheVariants.{Parenthesis, Brace, Bracket}
use Rattle.rl_lexer.specs.declared.lex_error.LexKind.{LexKind}
use Rattle.rl_lexer.specs.declared.lex_error.LexKind.TheVariants.{UnmatchedClose, TooDeep, Memory}
use Rattle.rl_tokens.specs.declared.nest.GroupBuilder.{GroupBuilder}
use Rattle.rl_tokens.specs.declared.nest.TreeBuilder.{TreeBuilder}
use Rattle.rl_tokens.specs.declared.token.TokenTree.{TokenTree}
use Rattle.rl_syntax.specs.Texts.{is_among, xid_ok}
use Rattle.rl_lexer.specs.Lexemes.{is_punct, LexemeForm, LiteralForm, IdentifierForm, DelimiterForm, MarkForm, delimiters}
use Rattle.rl_tokens.specs.Trees.{FlatToken, Opening, Closing, tree_view, stream_view, flat, flat_trees}
use Rattle.rl_lexer.specs.Cuts.{OpenGroup, is_closer, closes, popped, after_form, OpensTooDeep}
use Rattle.rl_tokens.specs.Lexing.{flat_form}

abbrev pub opener_of : Delimiter → ℕ
opener_of Parenthesis = code "("
opener_of Brace = code "{"
opener_of Bracket = code "["

abbrev pub closer_of : Delimiter → ℕ
closer_of Parenthesis = code ")"
closer_of Brace = code "}"
closer_of Bracket = code "]"

abbrev pub group_of : {A : Type 0} → GroupBuilder A → OpenGroup
group_of o = record { opener = opener_of o.delimiter; at = o.at }

-- The open groups of a builder of token trees, from the innermost to the outermost.
abbrev pub groups_of : {A : Type 0} → TreeBuilder A → List OpenGroup
groups_of n = reverse (map group_of n.opened.items)

-- The tokens before the open groups, and the opening delimiters of the open groups, in the order of the text. The list
-- of open groups begins with the outermost.
abbrev pub flat_open : {A : Type 0} → ℕ → List (GroupBuilder A) → List FlatToken
flat_open file [] = []
flat_open file (o ∷ os) =
    flat_trees (stream_view o.before)
    ++ (Opening o.delimiter (record { file = file; lo = o.at; hi = o.at + 1 }) ∷ flat_open file os)

-- All tokens that were added to a builder of token trees, in the order of the text.
abbrev pub flat_builder : {A : Type 0} → TreeBuilder A → List FlatToken
flat_builder n = flat_open n.file n.opened.items ++ flat_trees (stream_view n.trees)

-- The builder `new` is the builder `old` with the token tree `tree` appended to the innermost open group, or to the
-- text if no group is open.
pub record TakesTree {A : Type 0} (old new : TreeBuilder A) (tree : TokenTree A) : Type 0 where
  pub opened_same : new.opened ≡ old.opened
  pub file_same : new.file ≡ old.file
  pub trees : flat_trees (stream_view new.trees) ≡ flat_trees (stream_view old.trees)
      ++ flat (tree_view tree)

-- The builder `new` is the builder `old` with one more open group, whose opening delimiter is at the byte offset `at`.
pub record OpensGroup {A : Type 0} (old new : TreeBuilder A) (delimiter : Delimiter) (at : ℕ)
    : Type 0 where
  pub shallow : length (groups_of old) < 128
  pub groups : groups_of new ≡ record { opener = opener_of delimiter; at = at } ∷ groups_of old
  pub file_same : new.file ≡ old.file
  pub flat : flat_builder new ≡ flat_builder old
      ++ (Opening delimiter (record { file = old.file; lo = at; hi = at + 1 }) ∷ [])

-- The builder `new` is the builder `old` with the innermost open group closed. The closing delimiter's byte range is
-- from `lo` to `hi`.
pub record ClosesGroup {A : Type 0} (old new : TreeBuilder A) (delimiter : Delimiter) (lo hi : ℕ)
    : Type 0 where
  pub closes_it : closes (groups_of old) (closer_of delimiter) ≡ true
  pub groups : groups_of new ≡ popped (groups_of old)
  pub file_same : new.file ≡ old.file
  pub flat : flat_builder new ≡ flat_builder old
      ++ (Closing delimiter (record { file = old.file; lo = lo; hi = hi }) ∷ [])

-- The kinds of error for a group that can't be opened, and for a group that can't be closed, with their conditions.
abbrev pub RejectsOpener : List OpenGroup → LexKind → Type 0
RejectsOpener groups TooDeep = length groups ≡ 128
RejectsOpener groups Memory = ⊤
RejectsOpener groups _ = ⊥

abbrev pub RejectsCloser : List OpenGroup → Delimiter → LexKind → Type 0
RejectsCloser groups delimiter UnmatchedClose = closes groups (closer_of delimiter) ≡ false
RejectsCloser groups delimiter Memory = ⊤
RejectsCloser groups delimiter _ = ⊥

-- The text and the byte range of a token fit the token's form: the text of an identifier token is an identifier, a
-- delimiter is one byte long, and the character of a punctuation token is a punctuation character.
abbrev pub IsFitting : LexemeForm → List ℕ → ℕ → ℕ → Type 0
IsFitting LiteralForm text lo hi = ⊤
IsFitting IdentifierForm text lo hi = IsTrue (xid_ok (chars text))
IsFitting (DelimiterForm c) text lo hi = IsTrue (is_among delimiters c) × (hi ≡ lo + 1)
IsFitting (MarkForm c) text lo hi = IsTrue (is_punct c)

-- The builder `new` is the builder `old` with one more token, which has the form, text and byte range given.
pub record TakesToken {A : Type 0} (old new : TreeBuilder A) (form : LexemeForm) (text : List ℕ)
    (lo hi : ℕ) : Type 0 where
  pub groups : after_form (groups_of old) form lo ≡ Some (groups_of new)
  pub flat : flat_builder new ≡ flat_builder old
      ++ (flat_form form text (record { file = old.file; lo = lo; hi = hi }) ∷ [])
  pub file : new.file ≡ old.file

-- The form of a token is a closing delimiter that doesn't match the innermost open group.
abbrev pub ClosesWrong : List OpenGroup → LexemeForm → Type 0
ClosesWrong groups (DelimiterForm c) = IsTrue (is_closer c && not (closes groups c))
ClosesWrong groups _ = ⊥

-- The kinds of error for a token that can't be added to a builder of token trees, with their conditions.
abbrev pub RejectsForm : List OpenGroup → LexemeForm → LexKind → Type 0
RejectsForm groups form UnmatchedClose = ClosesWrong groups form
RejectsForm groups form TooDeep = OpensTooDeep groups form
RejectsForm groups form Memory = ⊤
RejectsForm groups form _ = ⊥
