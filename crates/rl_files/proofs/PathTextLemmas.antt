-- Lemmas about the texts that represent paths.
use Rattle.std.proofs.Common.{◌≡◌, ℕ, List, Bool, true, false, refl}
use Rattle.std.specs.Str.{IsUtf8, is_utf8}
use Rattle.std.proofs.lemmas.Str.{IsUtf8-from_is_utf8, is_utf8-from_IsUtf8}
use Rattle.rl_files.specs.PathTexts.{path_text, shown_path}

-- The test `is_utf8`, for bytes that are UTF-8.
pub utf8_is : (bytes : List ℕ) → IsUtf8 bytes → is_utf8 bytes ≡ true
utf8_is bytes utf8 = is_utf8-from_IsUtf8 bytes utf8

-- The test `is_utf8`, for bytes that aren't UTF-8.
pub utf8_is_not : (bytes : List ℕ) → (IsUtf8 bytes → ⊥) → is_utf8 bytes ≡ false
utf8_is_not bytes none = go (is_utf8 bytes) refl
  where
    go : (b : Bool) → is_utf8 bytes ≡ b → is_utf8 bytes ≡ false
    go true is = absurd (none (IsUtf8-from_is_utf8 bytes is))
    go false is = is

-- The text that represents a path is the path itself if the path is UTF-8.
pub text_unchanged : (bytes : List ℕ) → IsUtf8 bytes → path_text bytes ≡ bytes
text_unchanged bytes utf8 = rw (is_utf8-from_IsUtf8 bytes utf8) refl

-- The text that represents a path is the path's escaped bytes and a NUL if the path isn't UTF-8.
pub text_escaped : (bytes : List ℕ) → (IsUtf8 bytes → ⊥) → path_text bytes ≡ shown_path bytes
text_escaped bytes none = rw (utf8_is_not bytes none) refl
