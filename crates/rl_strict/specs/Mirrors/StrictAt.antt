-- An executable model of the code, for proofs only: recognizes the parts of literal tokens of Rust's grammar.
use Rattle.std.specs.Prelude.{ℕ, ◌==◌, ◌&&◌, not, Bool, true, false, List, [], ◌∷◌, Option, Some, None, option_map, length, drop, nat_lt, if◌then◌else◌}
use Rattle.std.specs.List.{list_all}
use Prim.Native.Char.{code}
use Rattle.rl_syntax.specs.declared.kind.Kind.{Kind}
use Rattle.rl_syntax.specs.declared.kind.Kind.TheVariants.{Str, ByteStr, CStr}
use Rattle.rl_syntax.specs.Texts.{first_passes, begins, is_underscore, is_dropped_blank, is_start, is_continue}
use Rattle.rl_syntax.specs.Quoted.{is_string}
use Rattle.rl_syntax.specs.Strict.{Itself, is_strict_unit}
use Rattle.rl_syntax.specs.Classes.{after_run}
use Rattle.rl_lenient.specs.Mirrors.UnitAt.{unit_at}
use Rattle.rl_lenient.specs.Mirrors.PlainAt.{is_some_text}

-- The text is empty, or a suffix of a quoted literal.
unfoldable pub is_strict_suffix : List ℕ → Bool
is_strict_suffix [] = true
is_strict_suffix (c ∷ cs) =
    (if c == code "_" then is_some_text cs else is_start c) && list_all is_continue cs

-- The text is empty, or a suffix of a number, which doesn't begin with `_`.
abbrev pub is_number_suffix : List ℕ → Bool
is_number_suffix x = not (first_passes is_underscore x) && is_strict_suffix x

-- The text after an escape, or `None` if the escape is invalid. The argument is the text after the escape's backslash. In a
-- string, the escape may be a line end with the white space after it.
abbrev pub escape_rest : Kind → List ℕ → Option (List ℕ)
escape_rest kind [] = None
escape_rest kind (c ∷ cs) =
    if c == code "\n" then (if is_string kind then Some (after_run is_dropped_blank cs) else None)
    else (if c == code "\r" then None
    else option_map (λ p. p.1) (unit_at kind (code "\\" ∷ c ∷ cs)))

-- The text after the character or escape at the beginning of the text, or `None` if the text begins with neither a valid
-- character nor a valid escape.
unfoldable pub unit_rest : Kind → List ℕ → Option (List ℕ)
unit_rest kind [] = None
unit_rest kind (c ∷ cs) =
    if c == code "\\" then escape_rest kind cs
    else (if is_strict_unit kind (Itself c) then Some cs else None)

-- The text is the closing quote and a suffix.
abbrev pub ends_quoted : ℕ → List ℕ → Bool
ends_quoted quote [] = false
ends_quoted quote (c ∷ cs) = c == quote && is_strict_suffix cs

-- Whether a raw string of the kind may contain the character.
abbrev pub is_raw_character : Kind → ℕ → Bool
is_raw_character Str c = not (c == code "\r")
is_raw_character ByteStr c = nat_lt c 128 && not (c == code "\r")
is_raw_character CStr c = not (c == 0) && not (c == code "\r")
is_raw_character _ c = false

-- Whether a raw string of the kind may contain the character, and the character isn't a quote.
abbrev pub is_inside : Kind → ℕ → Bool
is_inside kind c = not (c == code "\"") && is_raw_character kind c

-- The text is the content of a raw string, its closing delimiter with the hashes `hashes`, and a suffix.
unfoldable pub ends_raw : Kind → List ℕ → List ℕ → Bool
ends_raw kind hashes [] = false
ends_raw kind hashes (c ∷ cs) =
    if c == code "\"" && begins hashes cs then is_strict_suffix (drop (length hashes) cs)
    else is_raw_character kind c && ends_raw kind hashes cs
