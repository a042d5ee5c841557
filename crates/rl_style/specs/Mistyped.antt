-- Numbers whose suffix may be mistyped: `2_32` may be meant as `2_i32`. Characters are code points.
use Rattle.std.specs.Prelude.{ℕ, Bool, false, ◌&&◌, ◌||◌, ◌==◌, List, [], ◌∷◌}
use Rattle.std.specs.List.{list_any}
use Prim.Native.Char.{code}
use Rattle.rl_syntax.specs.Numbers.{is_exponent_letter}

-- The text is the width of a number type: `8`, `16`, `32` or `64`.
abbrev pub is_width : List ℕ → Bool
is_width [] = false
is_width (c ∷ []) = c == code "8"
is_width (c ∷ d ∷ []) =
    (c == code "1" && d == code "6") || (c == code "3" && d == code "2") || (c == code "6" && d == code "4")
is_width (c ∷ d ∷ e ∷ cs) = false

-- The text ends with an underscore and the width of a number type.
abbrev pub ends_with_width : List ℕ → Bool
ends_with_width [] = false
ends_with_width (c ∷ cs) = (c == code "_" && is_width cs) || ends_with_width cs

-- The last digits of an integer may be meant as a suffix: the integer has no suffix, and its text ends with an underscore and
-- a width, as `2_32` does.
abbrev pub is_mistyped : List ℕ → List ℕ → Bool
is_mistyped [] text = ends_with_width text
is_mistyped (c ∷ cs) text = false

-- The last digits of a float may be meant as a suffix: the float has an exponent and no suffix, and its text ends with an
-- underscore and a width, as `1e5_32` does.
abbrev pub is_mistyped_float : List ℕ → List ℕ → Bool
is_mistyped_float suffix text = is_mistyped suffix text && list_any is_exponent_letter text
