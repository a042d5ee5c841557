-- The tokens of a whole text, its groups, and the first error of a text that can't be lexed.
use Rattle.std.specs.Prelude.{◌≡◌, ◌≢◌, ◌⊎◌, ℕ, ◌+◌, Bool, false, not, ◌&&◌, ◌||◌, ◌==◌, nat_lt, List, [], ◌∷◌, ◌++◌, length, IsTrue, IsFalse, codes, Option, Some, None, option_and_then, if◌then◌else◌}
use Prim.Native.Char.{code}
use Rattle.rl_syntax.specs.Texts.{is_among, first_passes, begins, byte_len, is_start}
use Rattle.rl_lexer.specs.Skipping.{Skipped}
use Rattle.rl_lexer.specs.declared.lex_error.LexKind.{LexKind}
use Rattle.rl_lexer.specs.declared.lex_error.LexError.{LexError}
use Rattle.rl_lexer.specs.declared.lex_error.LexKind.TheVariants.{DocComment, UnclosedComment, UnclosedQuote, Lifetime, RawIdentifier, StrayCharacter, UnmatchedClose, UnclosedGroup, TooDeep, Memory}
use Rattle.rl_lexer.specs.Lexemes.{Lexeme, lexeme_text, IsLexeme, LexemeBefore, LexemeForm, DelimiterForm, form_of, BeginsRaw, begins_prefixed_quote, begins_raw_identifier}

-- A lexed token, and the byte offset where it begins.
pub record LexedToken : Type 0 where
  pub lexeme : Lexeme
  pub at : ℕ

abbrev pub end_of : LexedToken → ℕ
end_of w = w.at + byte_len (lexeme_text w.lexeme)

-- The text `t` is lexed into the given tokens, with white space and comments before each of them. After the last token, and the
-- white space and comments after it, the text `r` is left. The text `t` begins at the byte offset `at`.
abbrev pub LexesUpTo : ℕ → List ℕ → List LexedToken → List ℕ → Type 0
LexesUpTo at t [] r = Skipped t r
LexesUpTo at t (w ∷ ws) r =
    (after : List ℕ) × Skipped t (lexeme_text w.lexeme ++ after) × IsLexeme w.lexeme after
    × (w.at + byte_len (lexeme_text w.lexeme ++ after) ≡ at + byte_len t)
    × LexesUpTo (end_of w) after ws r

-- Whether two characters are the opening and the closing delimiter of a group.
abbrev pub is_pair : ℕ → ℕ → Bool
is_pair opener closer =
    (opener == code "(" && closer == code ")") || (opener == code "[" && closer == code "]")
    || (opener == code "{" && closer == code "}")

abbrev pub is_opener : ℕ → Bool
is_opener c = is_among (codes "([{") c

abbrev pub is_closer : ℕ → Bool
is_closer c = is_among (codes ")]}") c

-- An open group: its opening delimiter, and the byte offset of that delimiter.
pub record OpenGroup : Type 0 where
  pub opener : ℕ
  pub at : ℕ

abbrev pub closes : List OpenGroup → ℕ → Bool
closes [] c = false
closes (o ∷ os) c = is_pair o.opener c

abbrev pub popped : List OpenGroup → List OpenGroup
popped [] = []
popped (o ∷ os) = os

-- The groups that are open after a delimiter, the innermost first. The result is `None` if the delimiter is a closing
-- one that doesn't match the innermost group, or an opening one inside 128 groups.
abbrev pub after_delimiter : List OpenGroup → ℕ → ℕ → Option (List OpenGroup)
after_delimiter groups c at =
    if is_opener c
    then (if nat_lt (length groups) 128 then Some (record { opener = c; at = at } ∷ groups)
    else None)
    else (if closes groups c then Some (popped groups) else None)

abbrev pub after_form : List OpenGroup → LexemeForm → ℕ → Option (List OpenGroup)
after_form groups (DelimiterForm c) at = after_delimiter groups c at
after_form groups _ at = Some groups

abbrev pub after_lexeme : List OpenGroup → Lexeme → ℕ → Option (List OpenGroup)
after_lexeme groups l at = after_form groups (form_of l) at

-- The groups that are open after the given tokens, where `groups` are open before the tokens. The result is `None` if a
-- delimiter is an error.
abbrev pub open_groups : List OpenGroup → List LexedToken → Option (List OpenGroup)
open_groups groups [] = Some groups
open_groups groups (w ∷ ws) =
    option_and_then (λ g. open_groups g ws) (after_lexeme groups w.lexeme w.at)

-- Whether a text begins like a doc comment: with `///` but not `////`, with `//!`, with `/**` but neither `/**/` nor `/***`, or
-- with `/*!`.
abbrev pub begins_doc_comment : List ℕ → Bool
begins_doc_comment r =
    (begins (codes "///") r && not (begins (codes "////") r)) || begins (codes "//!") r
    || (begins (codes "/**") r && not (begins (codes "/**/") r || begins (codes "/***") r))
    || begins (codes "/*!") r

abbrev pub begins_lifetime : List ℕ → Bool
begins_lifetime [] = false
begins_lifetime (c ∷ cs) = c == code "'" && first_passes is_start cs

-- The text begins like a quoted literal: with a quote, with a prefix and a quote, with a raw literal's opening
-- delimiter, or with an apostrophe that doesn't begin a lifetime.
abbrev pub BeginsQuote : List ℕ → Type 0
BeginsQuote r =
    IsTrue (begins (codes "\"") r) ⊎ (IsTrue (begins_prefixed_quote r)
    ⊎ (BeginsRaw r ⊎ (IsTrue (begins (codes "'") r) × IsFalse (begins_lifetime r))))

-- The text begins with a token. `BeginsNoLexeme` states that a text doesn't begin with a token.
abbrev pub BeginsLexeme : List ℕ → Type 0
BeginsLexeme r = (after : List ℕ) × LexemeBefore r after

abbrev pub BeginsNoLexeme : List ℕ → Type 0
BeginsNoLexeme r = (after : List ℕ) → LexemeBefore r after → ⊥

-- An error of the given kind is at the start of `r`, the text that isn't lexed yet. The groups `groups` are open before
-- `r`. No error of a text has the kind `Memory`, which is a failed allocation.
abbrev pub ErrorAt : LexKind → List OpenGroup → List ℕ → Type 0
ErrorAt DocComment groups r = IsTrue (begins_doc_comment r)
ErrorAt UnclosedComment groups r = IsTrue (begins (codes "/*") r) × IsFalse (begins_doc_comment r)
ErrorAt UnclosedQuote groups r = BeginsNoLexeme r × BeginsQuote r
ErrorAt Lifetime groups r = BeginsNoLexeme r × IsTrue (begins_lifetime r)
ErrorAt RawIdentifier groups r = BeginsNoLexeme r × IsTrue (begins_raw_identifier r)
ErrorAt StrayCharacter groups r =
    (r ≢ []) × BeginsNoLexeme r × (BeginsQuote r → ⊥)
    × IsFalse (begins_doc_comment r || begins (codes "/*") r || begins_lifetime r
    || begins_raw_identifier r)
ErrorAt UnmatchedClose groups r =
    IsTrue (first_passes (λ c. is_closer c && not (closes groups c)) r)
ErrorAt UnclosedGroup groups r = (r ≡ []) × (groups ≢ [])
ErrorAt TooDeep groups r = IsTrue (first_passes is_opener r) × (length groups ≡ 128)
ErrorAt Memory groups r = ⊥

abbrev pub innermost : List OpenGroup → ℕ → ℕ
innermost [] at = at
innermost (o ∷ os) at = o.at

-- The error `e` is the error for a text that ends inside a group: `UnclosedGroup` at the opening delimiter of the
-- innermost open group.
pub record EndsInGroup (groups : List OpenGroup) (e : LexError) : Type 0 where
  pub kind : e.kind ≡ UnclosedGroup
  pub some_open : groups ≢ []
  pub place : (at : ℕ) → e.at ≡ innermost groups at

-- The form of a token is an opening delimiter, and 128 groups are open already.
abbrev pub OpensTooDeep : List OpenGroup → LexemeForm → Type 0
OpensTooDeep groups (DelimiterForm c) = IsTrue (is_opener c) × (length groups ≡ 128)
OpensTooDeep groups _ = ⊥

-- The byte offset of a lexing error. The error for a group that isn't closed is at the opening delimiter of the
-- innermost open group. Any other error is at the byte offset `at`, where the text that isn't lexed begins.
abbrev pub error_place : LexKind → List OpenGroup → ℕ → ℕ
error_place UnclosedGroup groups at = innermost groups at
error_place _ groups at = at

-- The first error of the text `t` has the kind `kind` and the byte offset `at`. The text before `rest` is lexed into
-- the tokens `cuts`, and lexing can't continue with `rest`.
pub record HasFirstError (t : List ℕ) (kind : LexKind) (at : ℕ) : Type 0 where
  pub cuts : List LexedToken
  pub rest : List ℕ
  pub groups : List OpenGroup
  pub rest_at : ℕ
  pub are_cuts : LexesUpTo 0 t cuts rest
  pub are_open : open_groups [] cuts ≡ Some groups
  pub error : ErrorAt kind groups rest
  pub rest_place : rest_at + byte_len rest ≡ byte_len t
  pub at_is : at ≡ error_place kind groups rest_at

-- The text is lexed into tokens up to the byte offset `at`, and a token begins there.
pub record LeavesRestAt (t : List ℕ) (at : ℕ) : Type 0 where
  pub cuts : List LexedToken
  pub rest : List ℕ
  pub are_cuts : LexesUpTo 0 t cuts rest
  pub begins : BeginsLexeme rest
  pub rest_place : at + byte_len rest ≡ byte_len t

-- The meaning of an error that the lexer returns. An error of the kind `Memory` is a failed allocation, and a token
-- begins at its byte offset. This token may be the closing delimiter of a group. An error of any other kind is the
-- text's first error.
abbrev pub Rejects : List ℕ → LexKind → ℕ → Type 0
Rejects t Memory at = LeavesRestAt t at
Rejects t kind at = HasFirstError t kind at

-- A text has at most one first error.
abbrev pub OneError : Type 0
OneError = (t : List ℕ) (k l : LexKind) (m n : ℕ) → HasFirstError t k m → HasFirstError t l n → (k ≡ l) × (m ≡ n)
