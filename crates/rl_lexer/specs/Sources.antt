-- The tokens of a whole Rust source: lexemes, raw identifiers, lifetimes, doc comments, invalid quoted literals and
-- stray characters. A byte order mark and an interpreter's line may precede them.
use Rattle.std.specs.Prelude.{◌≡◌, ◌⊎◌, ℕ, ◌+◌, Bool, false, not, ◌==◌, List, [], ◌∷◌, ◌++◌, length, map, IsTrue, IsFalse, codes, encode_utf8_all, Option, MatchOption, ⊤, if◌then◌else◌}
use Prim.Native.Char.{code}
use Rattle.std.specs.List.{AllByRecursion, list_all}
use Rattle.std.specs.Str.{chars}
use Rattle.rl_syntax.specs.Texts.{first_passes, begins_char, begins, byte_len, IsTail, is_start, is_continue}
use Rattle.rl_syntax.specs.Trivia.{Inside, inside_text, IsInside, is_comment_line, is_comment_block}
use Rattle.rl_lexer.specs.Skipping.{Skipped}
use Rattle.rl_lexer.specs.Lexemes.{Lexeme, lexeme_text, IsLexeme, IsRun, LexemeForm, LiteralForm, IdentifierForm, form_of, begins_raw_identifier}
use Rattle.rl_lexer.specs.BadQuotes.{BadQuote, bad_quote_text, IsBadQuote}
use Rattle.rl_lexer.specs.Cuts.{BeginsQuote, LexedToken, LexesUpTo}
use Rattle.rl_lexer.specs.Cursors.{CursorState, form_view}
use Rattle.rl_syntax.specs.Reading.{truth_text}
use Rattle.rl_lexer.specs.declared.lex_error.LexKind.{LexKind}
use Rattle.rl_lexer.specs.declared.lex_error.LexKind.TheVariants.{UnclosedComment, UnclosedQuote}
use Rattle.rl_lexer.specs.declared.source.SourceForm.{SourceForm}
use Rattle.rl_lexer.specs.declared.source.SourceForm.TheVariants as found
use Rattle.rl_lexer.specs.declared.sources.SourceToken.{SourceToken}

abbrev pub is_in_line : ℕ → Bool
is_in_line c = not (c == code "\n")

abbrev pub is_apostrophe : ℕ → Bool
is_apostrophe c = c == code "'"

pub data SourceLexeme : Type 0 where
  -- A literal, an identifier, a delimiter or a punctuation character.
  PlainToken : (l : Lexeme) → SourceLexeme
  -- A raw identifier: `r#` and an identifier.
  RawIdentifierToken : (first : ℕ) (more : List ℕ) → SourceLexeme
  -- A lifetime: `'` and an identifier. `RawLifetimeToken` is for `'r#` and an identifier.
  LifetimeToken : (first : ℕ) (more : List ℕ) → SourceLexeme
  RawLifetimeToken : (first : ℕ) (more : List ℕ) → SourceLexeme
  -- A doc comment that is a line: `//` and the rest of the line without its LF. `DocBlockToken` is for a block: `/*`
  -- and the text inside.
  DocLineToken : (body : List ℕ) → SourceLexeme
  DocBlockToken : (inside : Inside) → SourceLexeme
  -- An invalid quoted literal, as `'ab'`.
  BadQuoteToken : (q : BadQuote) → SourceLexeme
  -- A stray character: one that begins no other token.
  StrayToken : (c : ℕ) → SourceLexeme

abbrev pub source_text : SourceLexeme → List ℕ
source_text (PlainToken l) = lexeme_text l
source_text (RawIdentifierToken c more) = code "r" ∷ code "#" ∷ c ∷ more
source_text (LifetimeToken c more) = code "'" ∷ c ∷ more
source_text (RawLifetimeToken c more) = code "'" ∷ code "r" ∷ code "#" ∷ c ∷ more
source_text (DocLineToken body) = code "/" ∷ code "/" ∷ body
source_text (DocBlockToken inside) = code "/" ∷ code "*" ∷ inside_text inside
source_text (BadQuoteToken q) = bad_quote_text q
source_text (StrayToken c) = c ∷ []

-- The text is an identifier, where the text `after` doesn't continue it.
abbrev pub IsName : ℕ → List ℕ → List ℕ → Type 0
IsName c more after = IsTrue (is_start c) × IsRun is_continue more after

-- The parts of the token are valid, and the text `after`, which follows the token, doesn't continue it. The token is
-- neither an invalid quoted literal nor a stray character. No apostrophe follows a lifetime, since `'a'` is a character
-- literal. `'r#a` is a raw lifetime, and doesn't begin with the lifetime `'r`.
abbrev pub IsProper : SourceLexeme → List ℕ → Type 0
IsProper (PlainToken l) after = IsLexeme l after
IsProper (RawIdentifierToken c more) after = IsName c more after
IsProper (LifetimeToken c more) after =
    IsName c more after × (first_passes is_apostrophe after ≡ false)
    × (begins_raw_identifier (c ∷ more ++ after) ≡ false)
IsProper (RawLifetimeToken c more) after =
    IsName c more after × (first_passes is_apostrophe after ≡ false)
IsProper (DocLineToken body) after = IsRun is_in_line body after × IsFalse (is_comment_line body)
IsProper (DocBlockToken inside) after =
    IsInside inside × IsFalse (is_comment_block (inside_text inside))
IsProper (BadQuoteToken q) after = ⊥
IsProper (StrayToken c) after = ⊥

-- The text begins with a token that is neither an invalid quoted literal nor a stray character.
abbrev pub BeginsProper : List ℕ → Type 0
BeginsProper t =
    (w : SourceLexeme) × (after : List ℕ) × IsProper w after × (t ≡ source_text w ++ after)

-- The text begins like a quoted literal or a block comment.
abbrev pub Opens : List ℕ → Type 0
Opens t =
    BeginsQuote t ⊎ (IsTrue (first_passes is_apostrophe t) ⊎ IsTrue (begins (codes "/*") t))

-- The token is a token of a source, where the text `after` follows the token. An invalid quoted literal or a stray
-- character is a token only if no other token begins at its position. A stray character begins neither like a quoted
-- literal nor like a block comment.
abbrev pub IsSource : SourceLexeme → List ℕ → Type 0
IsSource (BadQuoteToken q) after =
    (BeginsProper (bad_quote_text q ++ after) → ⊥) × IsBadQuote q after
IsSource (StrayToken c) after = (BeginsProper (c ∷ after) → ⊥) × (Opens (c ∷ after) → ⊥)
IsSource (PlainToken l) after = IsProper (PlainToken l) after
IsSource (RawIdentifierToken c more) after = IsProper (RawIdentifierToken c more) after
IsSource (LifetimeToken c more) after = IsProper (LifetimeToken c more) after
IsSource (RawLifetimeToken c more) after = IsProper (RawLifetimeToken c more) after
IsSource (DocLineToken body) after = IsProper (DocLineToken body) after
IsSource (DocBlockToken inside) after = IsProper (DocBlockToken inside) after

-- The kind of a token of a source.
pub data SourceKind : Type 0 where
  PlainKind : (form : LexemeForm) → SourceKind
  RawIdentifierKind : SourceKind
  LifetimeKind : SourceKind
  DocCommentKind : SourceKind
  StrayKind : SourceKind

abbrev pub source_kind : SourceLexeme → SourceKind
source_kind (PlainToken l) = PlainKind (form_of l)
source_kind (RawIdentifierToken c more) = RawIdentifierKind
source_kind (LifetimeToken c more) = LifetimeKind
source_kind (RawLifetimeToken c more) = LifetimeKind
source_kind (DocLineToken body) = DocCommentKind
source_kind (DocBlockToken inside) = DocCommentKind
source_kind (BadQuoteToken q) = PlainKind LiteralForm
source_kind (StrayToken c) = StrayKind

-- Converts the form of a source's token in the code to the kind of the token in the definitions.
abbrev pub source_view : SourceForm → SourceKind
source_view (found.Token form) = PlainKind (form_view form)
source_view found.RawIdentifier = RawIdentifierKind
source_view found.Lifetime = LifetimeKind
source_view found.DocComment = DocCommentKind
source_view found.Stray = StrayKind

-- A token of the given kind begins the text `t`, and the text `rest` follows it.
pub record SourceBefore (t : List ℕ) (kind : SourceKind) (rest : List ℕ) : Type 0 where
  pub token : SourceLexeme
  pub is_source : IsSource token rest
  pub text_is : t ≡ source_text token ++ rest
  pub kind_is : source_kind token ≡ kind

-- No token of a source begins the text.
abbrev pub BeginsNoSource : List ℕ → Type 0
BeginsNoSource t = (kind : SourceKind) (rest : List ℕ) → SourceBefore t kind rest → ⊥

-- ---- the text before the first token

-- A text without the byte order mark at its start, or the text itself if it begins with another character.
abbrev pub without_byte_order_mark : List ℕ → List ℕ
without_byte_order_mark [] = []
without_byte_order_mark (c ∷ t) = if c == 0xfeff then t else c ∷ t

-- The text `t` begins with an interpreter's line, and `rest` follows the line. The line is `#!` and all characters up
-- to the next LF. If `[` follows the `#!`, after white space and plain comments, the text begins with an attribute
-- instead.
pub record IsScriptLine (t rest : List ℕ) : Type 0 where
  pub line : List ℕ
  pub text_is : t ≡ code "#" ∷ code "!" ∷ line ++ rest
  pub is_line : IsRun is_in_line line rest
  pub no_attribute : (s : List ℕ) → Skipped (line ++ rest) s
      → begins_char (code "[") s ≡ false

-- A text without the interpreter's line at its start, or the text itself if it doesn't begin with such a line.
abbrev pub IsWithoutLine : List ℕ → List ℕ → Type 0
IsWithoutLine t rest = IsScriptLine t rest ⊎ ((rest ≡ t) × ((r : List ℕ) → IsScriptLine t r → ⊥))

abbrev pub IsWithoutPreamble : List ℕ → List ℕ → Type 0
IsWithoutPreamble t rest = IsWithoutLine (without_byte_order_mark t) rest

-- ---- lexed tokens

-- A lexed token of a source, and the byte offset where it begins.
pub record CutSource : Type 0 where
  pub token : SourceLexeme
  pub at : ℕ

abbrev pub source_end : CutSource → ℕ
source_end w = w.at + byte_len (source_text w.token)

-- The text `t` is lexed into the given tokens of a source, with white space and plain comments before each of them. After the
-- last token, and the white space and comments after it, the text `r` is left. The text `t` begins at the byte offset `at`.
abbrev pub SourcesUpTo : ℕ → List ℕ → List CutSource → List ℕ → Type 0
SourcesUpTo at t [] r = Skipped t r
SourcesUpTo at t (w ∷ ws) r =
    (after : List ℕ) × Skipped t (source_text w.token ++ after) × IsSource w.token after
    × (w.at + byte_len (source_text w.token ++ after) ≡ at + byte_len t)
    × SourcesUpTo (source_end w) after ws r

-- The source `t` is lexed into the given tokens, after a byte order mark and an interpreter's line if it has them. After the last
-- token, and the white space and comments after it, the text `r` is left.
pub record IsCutUpTo (t : List ℕ) (cuts : List CutSource) (r : List ℕ) : Type 0 where
  pub at : ℕ
  pub body : List ℕ
  pub front : IsWithoutPreamble t body
  pub place : at + byte_len body ≡ byte_len t
  pub are_cuts : SourcesUpTo at body cuts r

-- The token `l`, which a source cursor returns, has the form, the text and the byte range of `w`, a lexed token of the
-- definitions.
pub record IsBorrowedSource (l : SourceToken) (w : CutSource) : Type 0 where
  pub kind_is : source_kind w.token ≡ source_view l.form
  pub bytes_are : encode_utf8_all (source_text w.token) ≡ l.text.now
  pub chars_are : source_text w.token ≡ chars l.text.now
  pub lo_is : w.at ≡ l.lo
  pub hi_is : source_end w ≡ l.hi

-- The cursor consumes the token `l` and returns it. The source that remained before, `old.rest`, begins with the token.
-- If the source before the token is lexed into some tokens, the source before `new.rest` is lexed into these tokens and
-- `l`.
pub record TakesSource (old : CursorState) (l : SourceToken) (new : CursorState) : Type 0 where
  pub cut : CutSource
  pub is_cut : IsBorrowedSource l cut
  pub after : List ℕ
  pub begins : chars old.rest ≡ source_text cut.token ++ after
  pub is_source : IsSource cut.token after
  pub place : l.lo + length old.rest ≡ length old.text
  pub goes_on : (done : List CutSource) → IsCutUpTo (chars old.text) done (chars old.rest)
      → IsCutUpTo (chars old.text) (done ++ cut ∷ []) (chars new.rest)
  pub same : new.text ≡ old.text
  pub following : IsTail old.rest new.rest

-- The meaning of the result of a source cursor's `next`. If a token begins the remaining source, the result is this
-- token. Otherwise the result is `None`, and the cursor doesn't move.
abbrev pub GivesSource : CursorState → Option SourceToken → CursorState → Type 0
GivesSource old token new =
    MatchOption token (BeginsNoSource (chars old.rest) × (new ≡ old)) (λ l. TakesSource old l new)

-- ---- literals

-- The token of a source is a literal: by its form, or because its text is `true` or `false`.
abbrev pub IsLiteralText : SourceKind → List ℕ → Type 0
IsLiteralText (PlainKind LiteralForm) text = ⊤
IsLiteralText (PlainKind IdentifierForm) text = (b : Bool) × (text ≡ truth_text b)
IsLiteralText _ text = ⊥

-- The token of a source isn't a literal.
abbrev pub IsOtherToken : CutSource → Type 0
IsOtherToken w = IsLiteralText (source_kind w.token) (source_text w.token) → ⊥

-- The tokens between the positions of the cursors `old` and `new` aren't literals. If the source before `old` is lexed
-- into some tokens, the source before `new` is lexed into these tokens and those between the two positions.
pub record PassesTo (old new : CursorState) : Type 0 where
  pub cuts : List CutSource
  pub others : AllByRecursion IsOtherToken cuts
  pub goes_on : (done : List CutSource) → IsCutUpTo (chars old.text) done (chars old.rest)
      → IsCutUpTo (chars old.text) (done ++ cuts) (chars new.rest)
  pub same : new.text ≡ old.text
  pub following : IsTail old.rest new.rest

-- The cursor consumes tokens that aren't literals, and then the token `l`, which is a literal.
pub record TakesLiteralAfter (old : CursorState) (l : SourceToken) (new : CursorState)
    : Type 0 where
  pub between : CursorState
  pub passes : PassesTo old between
  pub takes : TakesSource between l new
  pub is_literal : IsLiteralText (source_view l.form) (chars l.text.now)

-- ---- lines

-- The text `r` is the text after the first LF of `t`.
abbrev pub IsAfterLine : List ℕ → List ℕ → Type 0
IsAfterLine t r = (line : List ℕ) × IsTrue (list_all is_in_line line) × (t ≡ line ++ code "\n" ∷ r)

-- ---- errors

-- An error of the given kind is at the start of `r`, the end of a source that can't be lexed further.
abbrev pub SourceErrorAt : LexKind → List ℕ → Type 0
SourceErrorAt UnclosedComment r = BeginsNoSource r × IsTrue (begins (codes "/*") r)
SourceErrorAt UnclosedQuote r =
    BeginsNoSource r × (BeginsQuote r ⊎ IsTrue (first_passes is_apostrophe r))
SourceErrorAt _ r = ⊥

-- The first error of the source `t` has the kind `kind` and the byte offset `at`. The source before `rest` is lexed
-- into the tokens `cuts`, and the error is at the start of `rest`.
pub record SourceError (t : List ℕ) (kind : LexKind) (at : ℕ) : Type 0 where
  pub cuts : List CutSource
  pub rest : List ℕ
  pub are_cuts : IsCutUpTo t cuts rest
  pub error : SourceErrorAt kind rest
  pub rest_place : at + byte_len rest ≡ byte_len t

-- If the source before the cursor can be lexed into tokens, the first error of the whole source has the kind `kind` and
-- the byte offset `at`.
abbrev pub IsFirstSourceError : CursorState → LexKind → ℕ → Type 0
IsFirstSourceError t kind at =
    (cuts : List CutSource) → IsCutUpTo (chars t.text) cuts (chars t.rest)
    → SourceError (chars t.text) kind at

-- ---- laws

-- The kind of a lexed token, its text, and the byte offset where it begins.
abbrev pub told : CutSource → SourceKind × List ℕ × ℕ
told w = (source_kind w.token, source_text w.token, w.at)

-- A theorem: two lexings of a source, each as far as the source can be lexed, have equal tokens at equal byte offsets,
-- and leave equal remaining texts.
abbrev pub OneLexing : Type 0
OneLexing =
    (t : List ℕ) (vs ws : List CutSource) (r s : List ℕ) → IsCutUpTo t vs r → BeginsNoSource r
    → IsCutUpTo t ws s → BeginsNoSource s → (map told vs ≡ map told ws) × (r ≡ s)

-- Converts a lexed token of a text to a lexed token of a source.
abbrev pub plain_cut : LexedToken → CutSource
plain_cut w = record { token = PlainToken w.lexeme; at = w.at }

-- A theorem: if a text begins with neither a byte order mark nor an interpreter's line, the tokens of the text are also
-- its tokens as a source.
abbrev pub HoldsLexemes : Type 0
HoldsLexemes =
    (t : List ℕ) (cuts : List LexedToken) (r : List ℕ) → IsWithoutPreamble t t → LexesUpTo 0 t cuts r
    → IsCutUpTo t (map plain_cut cuts) r
