-- Decodes pairs of hexadecimal digits to bytes.
use Rattle.std.specs.Prelude.{ℕ, ◌&&◌, List, [], ◌∷◌, ◌++◌, Option, Some, None, Vec, if◌then◌else◌}
use Rattle.rl_syntax.specs.Quoted.{is_hex_digit, hex_value}

-- Puts the bytes `front` before an optional list of bytes. The result is `None` if there is no list.
abbrev pub with_front : List ℕ → Option (List ℕ) → Option (List ℕ)
with_front front (Some bytes) = Some (front ++ bytes)
with_front front None = None

-- The bytes that pairs of hexadecimal digits encode, or `None` if the text isn't a sequence of these pairs.
abbrev pub bytes_of : List ℕ → Option (List ℕ)
bytes_of [] = Some []
bytes_of (high ∷ []) = None
bytes_of (high ∷ low ∷ rest) =
    if is_hex_digit high && is_hex_digit low
    then with_front (hex_value high low ∷ []) (bytes_of rest)
    else None

-- The items of an optional vector, or `None` if there is no vector.
abbrev pub bytes_if_any : {A : Type 0} → Option (Vec ℕ A) → Option (List ℕ)
bytes_if_any (Some v) = Some v.items
bytes_if_any None = None
