-- The beginnings of texts that the parser of literal tokens distinguishes. Each beginning identifies the function that
-- parses the text.
use Rattle.std.specs.Prelude.{◌≡◌, ◌<◌, ◌==◌, ◌||◌, ◌∷◌, ℕ, List, [], IsTrue, IsFalse}
use Rattle.std.specs.Char.{is_ascii_digit}
use Rattle.std.specs.Str.{chars}
use Prim.Native.Char.{code}
use Rattle.rl_syntax.specs.Strict.{is_allowed_in_single_quotes}
use Rattle.rl_strict.specs.declared.strict_reading.Front.{Front}
use Rattle.rl_strict.specs.declared.strict_reading.Front.TheVariants.{Quote, Bare, Apostrophe, Digit, Other}
use Rattle.rl_syntax.specs.Texts.{first_passes}

-- The text is the ASCII character `c` between single quotes, where Rust's grammar allows `c` unescaped.
abbrev pub IsBare : List ℕ → ℕ → Type 0
IsBare text c = (text ≡ code "'" ∷ c ∷ code "'" ∷ []) × (c < 128) × IsTrue (is_allowed_in_single_quotes c)

abbrev pub BeginsAs : List ℕ → Front → Type 0
BeginsAs text (Quote inside) = chars text ≡ code "\"" ∷ chars inside.now
BeginsAs text (Bare c) = IsBare text c
BeginsAs text (Apostrophe inside) = (chars text ≡ code "'" ∷ chars inside.now) × ((c : ℕ) → IsBare text c → ⊥)
BeginsAs text Digit = IsTrue (first_passes is_ascii_digit (chars text))
BeginsAs text Other = IsFalse (first_passes (λ c. c == code "\"" || c == code "'" || is_ascii_digit c) (chars text))
