-- Executable models of private code: tests of bytes for identifier characters and for white space. Only proofs use
-- them.
use Rattle.std.specs.Prelude.{ℕ, Bool, true, false, not, ◌||◌, ◌&&◌, ◌==◌, nat_lt, ◌/◌, ◌^◌, bit_and}
use Rattle.std.specs.Char.{is_ascii_alphanumeric}
use Prim.Native.Char.{code}
use Rattle.rl_syntax.specs.declared.classes.CharClass.{CharClass}
use Rattle.rl_syntax.specs.declared.classes.CharClass.TheVariants.{Continue, White}

-- Whether a byte is an ASCII character that continues an identifier: a letter, a digit or `_`.
abbrev pub is_ascii_id_continue : ℕ → Bool
is_ascii_id_continue c = is_ascii_alphanumeric c || c == code "_"

-- Whether a byte is ASCII white space.
abbrev pub is_blank_byte : ℕ → Bool
is_blank_byte c = c == code " " || (nat_lt 8 c && nat_lt c 14)

-- Whether a byte belongs to the class that the first argument selects: ASCII identifier characters for `true`, ASCII white
-- space for `false`.
abbrev pub is_run_byte : Bool → ℕ → Bool
is_run_byte true = is_ascii_id_continue
is_run_byte false = is_blank_byte

abbrev pub ends_run : Bool → ℕ → Bool
ends_run word c = not (is_run_byte word c)

-- The class of characters that a `bool` selects: identifier characters for `true`, white space for `false`.
abbrev pub run_class : Bool → CharClass
run_class true = Continue
run_class false = White

-- Whether bit number `place` of `bits` is set. Bit 0 is the lowest.
abbrev pub has_bit : ℕ → ℕ → Bool
has_bit bits place = bit_and (bits / 2 ^ place) 1 == 1
