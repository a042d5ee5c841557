-- A list of strings that is written as a text, and this text as a printed list of literals.
use Rattle.std.specs.Prelude.{ℕ, List, [], ◌∷◌, ◌++◌, map, String, string_bytes}
use Rattle.std.specs.Str.{chars}
use Prim.Native.Char.{code}
use Rattle.rl_syntax.specs.declared.kind.Kind.TheVariants.{Str}
use Rattle.rl_syntax.specs.Printed.{Entry, LiteralItem, Printed}
use Rattle.rl_syntax.specs.Written.{written_text}

-- The characters of each string.
abbrev pub characters_of : {A : Type 0} → List (String A) → List (List ℕ)
characters_of values = map (λ v. chars (string_bytes v)) values

-- The text of a list of strings: the literal of each string, and an LF after it.
abbrev pub str_list_text : List (List ℕ) → List ℕ
str_list_text [] = []
str_list_text (v ∷ vs) = written_text Str v ++ (code "\n" ∷ str_list_text vs)

-- The literals of this text, each with the separator before it, and the separator after the last one. The separator before
-- the first literal is `gap`.
abbrev pub str_entries : List ℕ → List (List ℕ) → List Entry
str_entries gap [] = []
str_entries gap (v ∷ vs) =
    record { gap = gap; item = LiteralItem (written_text Str v) } ∷ str_entries (code "\n" ∷ []) vs

abbrev pub str_list_end : List ℕ → List (List ℕ) → List ℕ
str_list_end gap [] = gap
str_list_end gap (v ∷ vs) = str_list_end (code "\n" ∷ []) vs

-- A theorem: the text of a list of strings is a printed list of literals.
abbrev pub AStrListIsPrinted : Type 0
AStrListIsPrinted =
    (values : List (List ℕ))
    → Printed (str_list_text values) (str_entries [] values) (str_list_end [] values)
