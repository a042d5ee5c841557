-- Executable models of `float_range.rt`, on lists of characters.
use Rattle.std.specs.Prelude.{ℕ, ◌==◌, nat_lt, Bool, true, List, [], ◌∷◌, cond, IsTrue, IsFalse}
use Rattle.std.specs.Char.{is_ascii_digit}
use Rattle.std.specs.List.{list_all}
use Prim.Native.Char.{code}
use Rattle.rl_syntax.specs.Classes.{after_run}

-- The digits without leading zeros.
abbrev pub without_zeros : List ℕ → List ℕ
without_zeros ds = after_run (λ d. d == code "0") ds

-- The digits of one number are compared with the digits of another one, from the first digit on. The first digits belong to
-- equal powers of ten: the digits `5` are greater than `12`, as 50 is greater than 12. The result is true if the first number
-- is at least the second one.
abbrev pub not_below : List ℕ → List ℕ → Bool
not_below digits [] = true
not_below [] (b ∷ bs) = cond (code "0" == b) (not_below [] bs) (nat_lt b (code "0"))
not_below (d ∷ ds) (b ∷ bs) = cond (d == b) (not_below ds bs) (nat_lt b d)

-- A non-empty list of digits, the first of which isn't zero.
abbrev pub IsBound : List ℕ → Type 0
IsBound [] = ⊥
IsBound (d ∷ ds) = IsTrue (list_all is_ascii_digit (d ∷ ds)) × IsFalse (d == code "0")
