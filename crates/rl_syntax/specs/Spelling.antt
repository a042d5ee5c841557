-- The numbers that digits represent. `syn`'s and Rust's grammar share these notations, and have their rules in other
-- files.
use Rattle.std.specs.Prelude.{ℕ, ◌+◌, ◌*◌, ◌^◌, not, List, [], ◌∷◌, length, filter}
use Rattle.std.specs.Char.{digit_value}
use Rattle.rl_syntax.specs.Texts.{is_underscore}

-- The number that the digits represent in the base: the sum of each digit times its power of the base.
abbrev pub place_value : ℕ → List ℕ → ℕ
place_value base [] = 0
place_value base (d ∷ ds) = digit_value d * base ^ length ds + place_value base ds

abbrev pub without_underscores : List ℕ → List ℕ
without_underscores cs = filter (λ c. not (is_underscore c)) cs
