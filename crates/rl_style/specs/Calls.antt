-- Definitions that tell whether a token is inside a macro call, a macro's definition or an attribute. The tokens before the
-- token decide. The text of an identifier is a list of bytes.
use Rattle.std.specs.Prelude.{ℕ, ◌+◌, ◌-◌, Bool, true, false, not, ◌&&◌, ◌==◌, nat_lt, List, [], ◌∷◌, codes, if◌then◌else◌}
use Rattle.std.specs.List.{list_any}
use Rattle.std.specs.Str.{bytes_eq}
use Prim.Native.Char.{code}
use Rattle.rl_syntax.specs.Texts.{is_among}
use Rattle.rl_lexer.specs.Lexemes.{LiteralForm, IdentifierForm, DelimiterForm, MarkForm}
use Rattle.rl_lexer.specs.Sources.{SourceKind, PlainKind, RawIdentifierKind, LifetimeKind, DocCommentKind, StrayKind}
use Rattle.rl_style.specs.declared.calls.Calls.{Calls}
use Rattle.rl_style.specs.declared.calls.Calls.TheVariants as found

-- The position of the next token relative to macro calls. The definition of a macro and an attribute count as macro calls.
pub data CallState : Type 0 where
  -- The next token is outside of macro calls.
  Outside : CallState
  -- The next token follows an identifier, which may be a macro's name.
  AfterWord : (word : List ℕ) → CallState
  -- The next token follows a macro's name and `!`, and perhaps identifiers after them, as in `macro_rules! m`.
  AfterBang : CallState
  -- The next token follows `#`, or `#!`.
  AfterHash : CallState
  -- The next token is inside a macro call, nested in `depth` brackets.
  Inside : (depth : ℕ) → CallState

-- The keywords of all editions of Rust. No macro has one of these names, so `!` after one is an operator or the never type.
abbrev pub keywords : List (List ℕ)
keywords =
    codes "as" ∷ codes "break" ∷ codes "const" ∷ codes "continue" ∷ codes "crate" ∷ codes "else" ∷ codes "enum"
    ∷ codes "extern" ∷ codes "false" ∷ codes "fn" ∷ codes "for" ∷ codes "if" ∷ codes "impl" ∷ codes "in" ∷ codes "let"
    ∷ codes "loop" ∷ codes "match" ∷ codes "mod" ∷ codes "move" ∷ codes "mut" ∷ codes "pub" ∷ codes "ref"
    ∷ codes "return" ∷ codes "self" ∷ codes "Self" ∷ codes "static" ∷ codes "struct" ∷ codes "super" ∷ codes "trait"
    ∷ codes "true" ∷ codes "type" ∷ codes "unsafe" ∷ codes "use" ∷ codes "where" ∷ codes "while" ∷ []

unfoldable pub is_keyword : List ℕ → Bool
is_keyword word = list_any (bytes_eq word) keywords

-- Returns the position relative to macro calls after one more identifier. After a macro's name and `!`, the identifier is the
-- name of a macro that is being defined, as in `macro_rules! m`.
abbrev pub after_word : CallState → List ℕ → CallState
after_word (Inside depth) word = Inside depth
after_word AfterBang word = AfterBang
after_word Outside word = AfterWord word
after_word (AfterWord last) word = AfterWord word
after_word AfterHash word = AfterWord word

abbrev pub at_hash : ℕ → CallState
at_hash mark = if mark == code "#" then AfterHash else Outside

-- Returns the position relative to macro calls after one more punctuation character. If `!` follows an identifier that isn't
-- a keyword, the identifier is a macro's name.
abbrev pub after_mark : CallState → ℕ → CallState
after_mark (Inside depth) mark = Inside depth
after_mark AfterHash mark = if mark == code "!" then AfterHash else at_hash mark
after_mark (AfterWord word) mark = if mark == code "!" && not (is_keyword word) then AfterBang else at_hash mark
after_mark AfterBang mark = at_hash mark
after_mark Outside mark = at_hash mark

-- The depth plus one. If the depth is the greatest 64-bit number, the result is this number.
abbrev pub deeper : ℕ → ℕ
deeper depth = if nat_lt depth 18446744073709551615 then depth + 1 else depth

-- Returns the position relative to macro calls after one more opening bracket. Brackets of any kind nest. Any bracket after a
-- macro's name and `!` begins a macro call. The bracket `[` after `#` begins an attribute.
abbrev pub after_opener : CallState → ℕ → CallState
after_opener (Inside depth) bracket = Inside (deeper depth)
after_opener AfterBang bracket = Inside 1
after_opener AfterHash bracket = if bracket == code "[" then Inside 1 else Outside
after_opener (AfterWord word) bracket = Outside
after_opener Outside bracket = Outside

abbrev pub after_closer : CallState → CallState
after_closer (Inside depth) = if nat_lt 1 depth then Inside (depth - 1) else Outside
after_closer _ = Outside

abbrev pub after_bracket : CallState → ℕ → CallState
after_bracket s bracket = if is_among (codes "([{") bracket then after_opener s bracket else after_closer s

-- Returns the position relative to macro calls after one more token that is a literal, a lifetime, a doc comment or a stray
-- character.
abbrev pub after_any_other : CallState → CallState
after_any_other (Inside depth) = Inside depth
after_any_other _ = Outside

-- Returns the position relative to macro calls after one more token, with the given kind and the text `bytes`.
abbrev pub advance_calls : CallState → SourceKind → List ℕ → CallState
advance_calls s (PlainKind IdentifierForm) bytes = after_word s bytes
advance_calls s (PlainKind (DelimiterForm c)) bytes = after_bracket s c
advance_calls s (PlainKind (MarkForm c)) bytes = after_mark s c
advance_calls s (PlainKind LiteralForm) bytes = after_any_other s
advance_calls s RawIdentifierKind bytes = after_word s bytes
advance_calls s LifetimeKind bytes = after_any_other s
advance_calls s DocCommentKind bytes = after_any_other s
advance_calls s StrayKind bytes = after_any_other s

-- The next token is inside a macro call.
abbrev pub is_in_call : CallState → Bool
is_in_call (Inside depth) = true
is_in_call _ = false

-- Converts the code's value of the type `Calls` to the definitions' value of the type `CallState`.
abbrev pub calls_seen : Calls → CallState
calls_seen found.Outside = Outside
calls_seen (found.AfterWord word) = AfterWord word.now
calls_seen found.AfterBang = AfterBang
calls_seen found.AfterHash = AfterHash
calls_seen (found.Inside depth) = Inside depth
