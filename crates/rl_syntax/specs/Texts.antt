-- Definitions on texts, which are lists of character codes (`code "x"` is the code of `x`): tests of a text's start,
-- identifier characters, and white space.
use Rattle.std.specs.Prelude.{◌≡◌, ◌≢◌, ℕ, Bool, true, false, not, ◌&&◌, ◌||◌, ◌==◌, List, [], ◌∷◌, ◌++◌, IsTrue, length, codes, encode_utf8_all}
use Rattle.std.specs.Char.{is_whitespace}
use Rattle.std.specs.Str.{IsUtf8}
use Rattle.std.specs.List.{list_all, list_any}
pub use Prim.Native.Char.{code}
use Rattle.unicode_ident.specs.Ident.{is_xid_start, is_xid_continue}
use Rattle.rl_syntax.specs.declared.span.Span.{Span}
use Prim.Native.Char.{code}

-- Whether a character is white space: it has Unicode's property White_Space, or is the direction mark U+200E or U+200F. This is
-- `is_whitespace` of `syn` 3.0.9, src/whitespace.rs.
abbrev pub is_white : ℕ → Bool
is_white c = is_whitespace c || c == 0x200e || c == 0x200f

-- Whether a text is an identifier, which the lenient grammar accepts as a suffix. The text `_` counts as an identifier.
abbrev pub xid_ok : List ℕ → Bool
xid_ok [] = false
xid_ok (c ∷ cs) = (c == code "_" || is_xid_start c) && list_all is_xid_continue cs

-- The text is an identifier that Rust's grammar accepts as a suffix: it isn't `_`.
pub record IsWord (x : List ℕ) : Type 0 where
  pub identifier : IsTrue (xid_ok x)
  pub not_underscore : x ≢ code "_" ∷ []

-- Whether a text begins with a character that passes the test.
abbrev pub first_passes : (ℕ → Bool) → List ℕ → Bool
first_passes test [] = false
first_passes test (c ∷ cs) = test c

-- Whether a text begins with the given character.
abbrev pub begins_char : ℕ → List ℕ → Bool
begins_char k t = first_passes (λ c. c == k) t

-- Whether a character is one of the given ones.
abbrev pub is_among : List ℕ → ℕ → Bool
is_among codes c = list_any (λ k. c == k) codes

-- Whether a text begins with the given characters.
abbrev pub begins : List ℕ → List ℕ → Bool
begins [] t = true
begins (p ∷ ps) [] = false
begins (p ∷ ps) (c ∷ cs) = c == p && begins ps cs

abbrev pub is_underscore : ℕ → Bool
is_underscore c = c == code "_"

-- Whether a character passes the test `digit`, or is an underscore.
abbrev pub is_run_part : (ℕ → Bool) → ℕ → Bool
is_run_part digit c = digit c || is_underscore c

-- `rest` is the end of `text`, and is UTF-8. Both are lists of bytes.
pub record IsTail (text rest : List ℕ) : Type 0 where
  pub front : List ℕ
  pub text_is : text ≡ front ++ rest
  pub is_text : IsUtf8 rest

-- The number of bytes of a text in UTF-8.
abbrev pub byte_len : List ℕ → ℕ
byte_len cs = length (encode_utf8_all cs)

-- A token that has a text: its bytes, and its span.
pub record SpannedText : Type 0 where
  pub text : List ℕ
  pub span : Span

-- Whether a character may begin an identifier token (the Rust Reference, chapter Identifiers). `is_continue` is the test of
-- characters that may continue an identifier token.
abbrev pub is_start : ℕ → Bool
is_start c = (c == code "_" || is_xid_start c) && not (is_white c)

abbrev pub is_continue : ℕ → Bool
is_continue c = is_xid_continue c && not (is_white c)

-- Whether a character is space, TAB, LF or CR.
abbrev pub is_blank : ℕ → Bool
is_blank c = c == code " " || c == code "\t" || c == code "\n" || c == code "\r"

abbrev pub is_dropped_blank : ℕ → Bool
is_dropped_blank c = c == code " " || c == code "\t" || c == code "\n"
