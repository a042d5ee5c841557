-- String literals whose value can be copied from the text.
use Rattle.std.specs.Prelude.{◌≡◌, ℕ, List, ◌++◌, codes, Bool, IsTrue, not, ◌&&◌, ◌==◌, nat_lt}
use Rattle.std.specs.List.{list_all}
use Prim.Native.Char.{code}

-- The character represents itself in a string literal: it is printable ASCII, but not a quote or a backslash.
abbrev pub is_bare : ℕ → Bool
is_bare c =
    not (nat_lt c (code " ")) && nat_lt c 127 && not (c == code "\"") && not (c == code "\\")

-- The text is a string literal whose value can be copied: two quotes, only printable ASCII without quotes and backslashes between
-- them, and no suffix.
abbrev pub IsBareString : List ℕ → List ℕ → Type 0
IsBareString text value = (text ≡ codes "\"" ++ (value ++ codes "\"")) × IsTrue (list_all is_bare value)

-- The output line of a string literal that has no suffix, and whose value is printable ASCII without quotes and
-- backslashes.
abbrev pub bare_line : List ℕ → List ℕ
bare_line text = codes "Str \"" ++ (text ++ codes "\" -\n")
