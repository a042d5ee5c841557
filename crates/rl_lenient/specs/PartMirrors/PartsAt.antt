-- Executable models of private code: the parts of a float after the digits before its dot. Only proofs use them.
use Rattle.std.specs.Prelude.{ℕ, ◌==◌, List, [], ◌∷◌, Option, Some, None, cond}
use Prim.Native.Char.{code}
use Rattle.rl_lenient.specs.Mirrors.NumberAt.{after_digits, digit_run_at}

-- The digits after the dot at the start of a text, and the text after these digits. If the text doesn't begin with a dot, the
-- result has `None` and the text itself.
abbrev pub fraction_at : List ℕ → Option (List ℕ) × List ℕ
fraction_at [] = (None, [])
fraction_at (c ∷ t) = cond (c == code ".") (Some (digit_run_at 10 t), after_digits 10 t) (None, c ∷ t)

-- The text of an exponent after its letter, or `None` for an empty text.
abbrev pub after_letter : List ℕ → Option (List ℕ)
after_letter [] = None
after_letter (c ∷ t) = Some t
