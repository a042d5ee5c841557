-- The literals of a source. For each literal, the definitions tell whether it may be a field of a tuple, and whether it is
-- inside a macro call. The text of a token is a list of bytes, and the source after the token a list of characters.
use Rattle.std.specs.Prelude.{◌≡◌, ℕ, Bool, true, false, cond, not, ◌&&◌, ◌||◌, ◌==◌, List, [], ◌∷◌, codes, if◌then◌else◌}
use Rattle.std.specs.Char.{is_ascii_digit}
use Rattle.std.specs.Str.{bytes_eq, chars}
use Prim.Native.Char.{code}
use Rattle.rl_syntax.specs.Texts.{begins_char, is_among}
use Rattle.rl_lexer.specs.Cursors.{CursorState}
use Rattle.rl_lexer.specs.Lexemes.{DelimiterForm, IdentifierForm, MarkForm}
use Rattle.rl_lexer.specs.Sources.{BeginsNoSource, DocCommentKind, IsLiteralText, PlainKind, SourceKind, StrayKind, TakesSource, source_view}
use Rattle.rl_lexer.specs.declared.sources.SourceToken.{SourceToken}
use Rattle.rl_style.specs.Calls.{CallState, advance_calls, is_in_call}
use Rattle.rl_style.specs.declared.restylable.Last.{Last}
use Rattle.rl_style.specs.declared.restylable.Last.TheVariants.{Other, Dot, Dots, Opening, Offset}
use Rattle.rl_style.specs.declared.restylable.Restylable.{Restylable}

-- The state of a cursor over the literals of a source: the unread source, the last token, the byte offset after it, the
-- position relative to macro calls, and whether a token before was a stray character.
pub record RestylableState : Type 0 where
  pub tokens : CursorState
  pub last : Last
  pub end : ℕ
  pub calls : CallState
  pub has_stray : Bool

-- Whether a source has a stray character up to its next token. `before` tells whether it has one before that token.
abbrev pub stray_after : Bool → SourceKind → Bool
stray_after before StrayKind = true
stray_after before _ = before

abbrev pub is_dot : SourceKind → Bool
is_dot (PlainKind (MarkForm c)) = c == code "."
is_dot _ = false

-- Returns the description of a dot (`Last`), where the argument describes the token before the dot. `joined` is true if that
-- token directly precedes the dot.
abbrev pub one_more : Last → Bool → Last
one_more Dot joined = cond joined Dots Dot
one_more Dots joined = cond joined Dots Dot
one_more _ joined = Dot

-- A tuple field and its colon may follow this token: a doc comment, `{`, `,` or `]`. A `]` may end an attribute.
abbrev pub is_opening : SourceKind → Bool
is_opening (PlainKind (DelimiterForm c)) = is_among (codes "{]") c
is_opening (PlainKind (MarkForm c)) = c == code ","
is_opening DocCommentKind = true
is_opening _ = false

abbrev pub is_offset : Last → Bool
is_offset Offset = true
is_offset _ = false

-- Returns the description (`Last`) of a token, which has the given kind and begins at the byte offset `lo`. The previous
-- token ends at the byte offset `end`, and `last` describes it.
abbrev pub next_after : Last → ℕ → SourceKind → ℕ → Last
next_after last end kind lo =
    if is_dot kind then one_more last (lo == end) else if is_opening kind then Opening else Other

-- The token is the word `offset_of`, the name of a macro that takes the names of fields.
abbrev pub names_offset : SourceKind → List ℕ → Bool
names_offset (PlainKind IdentifierForm) bytes = bytes_eq bytes (codes "offset_of")
names_offset _ bytes = false

abbrev pub ends_offset : SourceKind → Bool
ends_offset (PlainKind (DelimiterForm c)) = is_among (codes "{}") c
ends_offset (PlainKind (MarkForm c)) = c == code ";"
ends_offset _ = false

-- Returns the description (`Last`) of any token. It is `Offset` for the word `offset_of`, and for each later token up to the next
-- `;` or brace.
abbrev pub last_after : Last → ℕ → SourceKind → ℕ → List ℕ → Last
last_after last end kind lo bytes =
    if is_offset last && not (ends_offset kind) || names_offset kind bytes then Offset else next_after last end kind lo

abbrev pub begins_number : List ℕ → Bool
begins_number [] = false
begins_number (b ∷ bytes) = is_ascii_digit b

-- The text begins with one colon, which another colon doesn't directly follow.
abbrev pub begins_one_colon : List ℕ → Bool
begins_one_colon [] = false
begins_one_colon (c ∷ t) = c == code ":" && not (begins_char (code ":") t)

-- A number between the token that `last` describes and the source `rest` is a field of a tuple. `rest` begins with neither
-- white space nor a comment.
abbrev pub names_field : Last → List ℕ → Bool
names_field Dot rest = true
names_field Offset rest = true
names_field Opening rest = begins_one_colon rest
names_field _ rest = false

-- The literal may be a field of a tuple: it is a number that follows one dot, as in `t.0`, or the word `offset_of`, or that
-- precedes one colon, as in `S { 0: x }`.
abbrev pub is_field : Last → List ℕ → List ℕ → Bool
is_field last bytes rest = begins_number bytes && names_field last rest

-- The state of the cursor after it has read the token.
abbrev pub passed : RestylableState → SourceToken → CursorState → RestylableState
passed s token tokens = record {
  tokens = tokens;
  last = last_after s.last s.end (source_view token.form) token.lo token.text.now;
  end = token.hi;
  calls = advance_calls s.calls (source_view token.form) token.text.now;
  has_stray = stray_after s.has_stray (source_view token.form);
}

-- The token of a source is a literal.
abbrev pub IsLiteralOfSource : SourceToken → Type 0
IsLiteralOfSource token = IsLiteralText (source_view token.form) (chars token.text.now)

-- The next literal of the source, and the cursor's state after it. Other tokens may precede the literal.
pub data GivesLiteral : RestylableState → Restylable → RestylableState → Type 0 where
  Here : {s : RestylableState} → {l : Restylable} → {tokens : CursorState} → TakesSource s.tokens l.token tokens
      → IsLiteralOfSource l.token → l.is_field ≡ is_field s.last l.token.text.now (chars tokens.rest) → l.in_macro
      ≡ is_in_call s.calls
      → GivesLiteral s l (passed s l.token tokens)
  Behind : {s end : RestylableState} → {l : Restylable} → {token : SourceToken} → {tokens : CursorState}
      → TakesSource s.tokens token tokens → (IsLiteralOfSource token → ⊥) → GivesLiteral (passed s token tokens) l end
      → GivesLiteral s l end

-- The source has no further literal before its end or its first error.
pub data GivesNone : RestylableState → RestylableState → Type 0 where
  Stops : {s : RestylableState} → BeginsNoSource (chars s.tokens.rest) → GivesNone s s
  Passes : {s end : RestylableState} → {token : SourceToken} → {tokens : CursorState}
      → TakesSource s.tokens token tokens
      → (IsLiteralOfSource token → ⊥) → GivesNone (passed s token tokens) end → GivesNone s end
