-- Tests for invisible and bidirectional characters. A character is represented by its code.
use Rattle.std.specs.Prelude.{ℕ, ◌==◌, Bool, ◌||◌, ◌&&◌, nat_le}
use Rattle.std.specs.Char.{is_control}

-- The character changes the direction of text, or has no width. These are the characters that Unicode lists as
-- ignorable by default (except the variation selectors from FE00 to FE0F, which select a glyph), the line and paragraph
-- separators, and the annotation characters FFF9 to FFFB.
abbrev pub is_invisible_or_bidi : ℕ → Bool
is_invisible_or_bidi c =
    (c == 0xAD) || (c == 0x34F) || (c == 0x61C)
    || (nat_le 0x115F c && nat_le c 0x1160)
    || (nat_le 0x17B4 c && nat_le c 0x17B5)
    || (nat_le 0x180B c && nat_le c 0x180F)
    || (nat_le 0x200B c && nat_le c 0x200F)
    || (nat_le 0x2028 c && nat_le c 0x202E)
    || (nat_le 0x2060 c && nat_le c 0x206F)
    || (c == 0x3164) || (c == 0xFEFF) || (c == 0xFFA0)
    || (nat_le 0xFFF0 c && nat_le c 0xFFFB)
    || (nat_le 0x1BCA0 c && nat_le c 0x1BCA3)
    || (nat_le 0x1D173 c && nat_le c 0x1D17A)
    || (nat_le 0xE0000 c && nat_le c 0xE0FFF)

-- The character is displayed as an escape: it is a control character, or an invisible or bidirectional one.
abbrev pub is_control_invisible_or_bidi : ℕ → Bool
is_control_invisible_or_bidi c = is_control c || is_invisible_or_bidi c
