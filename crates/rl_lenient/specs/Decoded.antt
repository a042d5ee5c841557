-- The bytes that the decoders of quoted literals write.
use Rattle.std.specs.Prelude.{◌≡◌, ℕ, List, [], ◌∷◌, encode_utf8, encode_utf8_all, if◌then◌else◌, IsTrue}
use Rattle.rl_syntax.specs.declared.kind.Kind.{Kind}
use Rattle.rl_syntax.specs.Quoted.{decodes_to_chars, is_string}
use Rattle.rl_syntax.specs.Reading.{Contents, ReadsQuoted}
use Rattle.rl_lenient.specs.declared.units.Piece.{Piece}
use Rattle.rl_lenient.specs.declared.units.Piece.TheVariants.{Character, Byte, Nothing}

-- The bytes of the value of one character or escape. A character is encoded in UTF-8.
abbrev pub piece_bytes : Piece → List ℕ
piece_bytes (Character c) = encode_utf8 c
piece_bytes (Byte b) = b ∷ []
piece_bytes Nothing = []

-- The bytes of a literal's value. Characters are encoded in UTF-8.
abbrev pub in_bytes : Kind → List ℕ → List ℕ
in_bytes kind v = if decodes_to_chars kind then encode_utf8_all v else v

-- The bytes are the literal's value by each parse result of the text as a string literal.
abbrev pub HoldsBytes : List ℕ → List ℕ → Type 0
HoldsBytes text bytes =
    (kind : Kind) (v : Contents) (x : List ℕ) → IsTrue (is_string kind)
    → (r : ReadsQuoted text kind v x) → bytes ≡ in_bytes kind r.value
