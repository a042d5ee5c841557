-- Executable models of private code: tests of whether a number's body already is its digits. Only proofs use them.
use Rattle.std.specs.Prelude.{ℕ, Bool, false, not, ◌==◌, ◌||◌, ◌&&◌, List, [], ◌∷◌, true}
use Rattle.std.specs.Char.{is_ascii_digit}
use Rattle.std.specs.List.{list_all}
use Prim.Native.Char.{code}
use Rattle.rl_lenient.specs.Mirrors.NumberAt.{after_minus}
use Rattle.rl_syntax.specs.Texts.{first_passes}

-- Whether the text isn't empty.
abbrev pub is_some_text : List ℕ → Bool
is_some_text t = first_passes (λ c. true) t

-- Whether the text is decimal digits without a needless leading zero.
abbrev pub is_plain_digits : List ℕ → Bool
is_plain_digits [] = false
is_plain_digits (d ∷ ds) =
    list_all is_ascii_digit (d ∷ ds) && (not (d == code "0") || not (is_some_text ds))

-- Whether the text is decimal digits without a needless leading zero, perhaps after a minus.
abbrev pub is_plain_integer : List ℕ → Bool
is_plain_integer body = is_plain_digits (after_minus body)

-- Whether a character of a float literal is also one of the literal's digits: it is neither `_` nor `+` nor `E`.
abbrev pub is_kept : ℕ → Bool
is_kept c = not ((c == code "_" || c == code "+") || c == code "E")

abbrev pub is_plain_float : List ℕ → Bool
is_plain_float body = list_all is_kept body
