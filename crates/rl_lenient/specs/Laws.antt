-- The statements of the laws of src/laws.rt, each as a definition.
use Rattle.std.specs.Prelude.{◌≡◌, ◌∷◌, List, ℕ}
use Prim.Native.Char.{code}
use Rattle.std.specs.Str.{chars}
use Rattle.rl_syntax.specs.Reading.{Contents, HasContents, Reads}
use Rattle.rl_lenient.specs.declared.found.Found.{Found}
use Rattle.rl_lenient.specs.StrictBytes.{KeepsBytesStrict}
use Rattle.rl_lenient.specs.Founds.{IsFound, suffix_in}

-- `syn`'s and Rust's grammar agree on whether a text without CR is a byte literal, or a byte string literal that isn't raw,
-- and on its value and its suffix. Only literals with a suffix that Rust's grammar allows are compared.
abbrev pub BytesWithoutReturnsAreStrict : Type 0
BytesWithoutReturnsAreStrict =
    (text : List ℕ) → KeepsBytesStrict text

-- Decoding a minus and the bytes after it gives the minus and the decoded characters of the bytes.
abbrev pub Utf8DecodingKeepsALeadingMinus : Type 0
Utf8DecodingKeepsALeadingMinus = (bytes : List ℕ) → chars (code "-" ∷ bytes) ≡ code "-" ∷ chars bytes

-- If `parse_literal` returns a literal for a text, the text is parsed with that literal's value and suffix.
abbrev pub AFoundLiteralReads : Type 0
AFoundLiteralReads =
    (text : List ℕ) (found : Found) (contents : Contents) → IsFound text found
    → HasContents found.kind (chars text) contents
    → Reads (chars text) found.kind contents (chars (suffix_in text found.body))
