-- Texts with escapes for control, invisible and bidirectional characters. Texts are lists of characters.
pub use Rattle.rl_writing.specs.Hiding.{is_invisible_or_bidi, is_control_invisible_or_bidi}
use Rattle.std.specs.Prelude.{ℕ, ◌==◌, Bool, ◌||◌, ◌&&◌, nat_le, nat_lt, cond, List, [], ◌∷◌}
use Prim.Native.Char.{code}
use Rattle.std.specs.Char.Escape.{escape_default}
use Rattle.std.specs.List.{flat_map}

-- A character, or its escape if it is a control, invisible or bidirectional character.
abbrev pub visible_char : ℕ → List ℕ
visible_char c = cond (is_control_invisible_or_bidi c) (escape_default c) (c ∷ [])

-- A text with escapes for control, invisible and bidirectional characters.
abbrev pub visible : List ℕ → List ℕ
visible text = flat_map visible_char text

-- A character, or its escape if it is a control character other than LF, or an invisible or bidirectional character.
abbrev pub visible_in_line : ℕ → List ℕ
visible_in_line c = cond (c == code "\n") (c ∷ []) (visible_char c)

-- Lines with escapes for control characters except LF, and for invisible and bidirectional characters.
abbrev pub visible_lines : List ℕ → List ℕ
visible_lines lines = flat_map visible_in_line lines

-- Whether a byte is printable ASCII.
abbrev pub is_printable_byte : ℕ → Bool
is_printable_byte b = nat_le (code " ") b && nat_lt b 127

-- A byte that needs no escape in a line: printable ASCII or LF.
abbrev pub is_plain_byte : ℕ → Bool
is_plain_byte b = (b == code "\n") || is_printable_byte b
