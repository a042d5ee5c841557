-- Paths as texts. Texts and paths are lists of bytes.
use Rattle.std.specs.Prelude.{ℕ, ◌-◌, ◌^◌, ◌==◌, Bool, false, cond, not, ◌&&◌, nat_le, nat_lt, List, [], ◌∷◌, ◌++◌, length, take, codes}
use Prim.Native.Char.{code}
use Rattle.std.specs.Fmt.{digits, format_spec, padded_integral}
use Rattle.std.specs.List.{flat_map, slice_index}
use Rattle.std.specs.Str.{is_utf8}

-- The two hexadecimal digits of a byte.
abbrev pub byte_digits : ℕ → List ℕ
byte_digits b = padded_integral (format_spec 32 0 4 2 (2 ^ 64 - 1)) false [] (digits 16 false b)

-- A byte of a path that isn't UTF-8: a printable ASCII character other than `\` unchanged, another byte as its escape.
abbrev pub byte_shown : ℕ → List ℕ
byte_shown b = cond (nat_le (code " ") b && nat_lt b 127 && not (b == code "\\")) (b ∷ []) (codes "\\x" ++ byte_digits b)

-- The escaped bytes of a path.
abbrev pub bytes_shown : List ℕ → List ℕ
bytes_shown bytes = flat_map byte_shown bytes

-- The text that represents a path that isn't UTF-8: the escaped bytes and a NUL, which no path contains.
abbrev pub shown_path : List ℕ → List ℕ
shown_path bytes = bytes_shown bytes ++ 0 ∷ []

-- The text that represents a path.
abbrev pub path_text : List ℕ → List ℕ
path_text bytes = cond (is_utf8 bytes) bytes (shown_path bytes)

-- Whether a text represents a path that isn't UTF-8: the text ends with a NUL.
abbrev pub is_marked : List ℕ → Bool
is_marked text = not (length text == 0) && (slice_index text (length text - 1) == 0)

-- A text without its last character, the NUL that marks a path that isn't UTF-8.
abbrev pub unmarked : List ℕ → List ℕ
unmarked text = take (length text - 1) text
