-- The meaning of a map from literals to the number of times that they occur in a text.
use Rattle.std.specs.Prelude.{◌≡◌, ℕ, zero, suc, List, Option, Some, None, All, count_by, find}
use Rattle.std.specs.HashMap.{HashMap, get, keys}
use Rattle.rust_literals.specs.declared.lit.Lit.{Lit}
use Rattle.rust_literals.specs.Copies.{is_equal}

-- The number of literals of a list that equal the literal `literal`.
abbrev pub times : {A : Type 0} → Lit A → List (Lit A) → ℕ
times literal list = count_by (is_equal literal) list

-- Converts a number to an option: `None` represents zero, and `Some` any other number.
abbrev pub some_times : ℕ → Option ℕ
some_times zero = None
some_times (suc n) = Some (suc n)

-- The map `counts` has, for each literal, the number of literals of `list` that equal it, and no entry if that number
-- is zero. A key of the map is the first literal of `list` that equals it.
pub record AreCounts {A S : Type 0} (list : List (Lit A)) (counts : HashMap (Lit A) ℕ S)
    : Type 0 where
  pub numbers : (literal : Lit A) → get is_equal counts literal ≡ some_times (times literal list)
  pub firsts : All (λ key. find (is_equal key) list ≡ Some key) (keys counts)
