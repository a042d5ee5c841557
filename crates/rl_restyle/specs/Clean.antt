-- Sources whose tokens have no errors. Texts are lists of characters.
use Rattle.std.specs.Prelude.{◌≡◌, ℕ, ◌-◌, ◌==◌, Bool, true, false, ◌||◌, List, [], encode_utf8_all, get_or, length}
use Prim.Native.Char.{code}
use Rattle.std.specs.Char.{is_ascii_alphanumeric}
use Rattle.std.specs.List.{AllByRecursion}
use Rattle.rl_lexer.specs.Sources.{CutSource, IsCutUpTo, IsLiteralText, SourceKind, StrayKind, source_kind, source_text}
use Rattle.rl_strict.specs.StrictShapes.{IsToken}
use Rattle.rl_style.specs.Restyled.{IsEditedSource}
use Rattle.rl_style.specs.declared.style.Style.{Style}
use Rattle.rl_restyle.specs.Edits.{Restyles}
use Rattle.rl_restyle.specs.Places.{IsTextBetween}
use Rattle.rl_restyle.specs.declared.edit.Choice.{Choice}

-- The byte is an ASCII letter, an ASCII digit, `_` or `#`.
abbrev pub may_be_prefix : ℕ → Bool
may_be_prefix b = is_ascii_alphanumeric b || (b == code "_" || b == code "#")

-- The last byte of the text may be part of a prefix that an edition of Rust reserves, as `f` in `f"x"`. The text is a list of
-- bytes.
abbrev pub ends_with_prefix : List ℕ → Bool
ends_with_prefix bytes = may_be_prefix (get_or bytes (length bytes - 1) 0)

-- The text is a literal by Rust's grammar, and no prefix is directly before it in the source `t`. It begins at the byte offset
-- `lo`.
abbrev pub IsCleanLiteral : List ℕ → ℕ → List ℕ → Type 0
IsCleanLiteral t lo text = IsToken text
    × ((front : List ℕ) → IsTextBetween t 0 lo front → ends_with_prefix (encode_utf8_all front) ≡ false)

abbrev pub is_stray : SourceKind → Bool
is_stray StrayKind = true
is_stray _ = false

-- The token of the source `t` has no error: it isn't a stray character, and if it is a literal, it is a literal by Rust's grammar
-- without a prefix directly before it.
abbrev pub IsClean : List ℕ → CutSource → Type 0
IsClean t w = (is_stray (source_kind w.token) ≡ false)
    × (IsLiteralText (source_kind w.token) (source_text w.token) → IsCleanLiteral t w.at (source_text w.token))

-- The source `t` is lexed into tokens without errors.
abbrev pub HasCleanTokens : List ℕ → Type 0
HasCleanTokens t = (cuts : List CutSource) → IsCutUpTo t cuts [] → AllByRecursion (IsClean t) cuts

-- A theorem: if the tokens of a source have no errors, the rewritten source is lexed as before, except for the edits.
abbrev pub KeepsTheCleanSource : Type 0
KeepsTheCleanSource =
    (style : Style) (choice : Choice) (t new : List ℕ)
    → (r : Restyles style choice t new) → HasCleanTokens t → IsEditedSource new r.cuts r.texts []
