-- Patterns of paths in the syntax of gitignore files, except `[..]`, `!` and `\`. Patterns, names and paths are lists of bytes.
use Rattle.std.specs.Prelude.{ℕ, ◌==◌, Bool, false, cond, not, ◌||◌, ◌&&◌, ◌-◌, List, [], ◌∷◌, take, length, codes, map, Option, Some, None}
use denote.Ref.{Bor}
use Prim.Native.Char.{code}
use Rattle.std.specs.List.{ends_with, list_any, slice_split}
use Rattle.std.specs.Str.{bytes_eq}

-- Whether a list or one of its ends passes a test.
abbrev pub any_end : {X : Type 0} → (List X → Bool) → List X → Bool
any_end test [] = test []
any_end test (x ∷ xs) = test (x ∷ xs) || any_end test xs

-- Whether a list has a first element that passes the test `one`, followed by a list that passes the test `others`.
abbrev pub first_and : {X : Type 0} → (X → Bool) → (List X → Bool) → List X → Bool
first_and one others [] = false
first_and one others (x ∷ xs) = one x && others xs

-- Whether the parts of a pattern match a whole list, in order. A star matches any number of elements, perhaps none. Any
-- other part matches one element.
abbrev pub all_match : {P X : Type 0} → (P → Bool) → (P → X → Bool) → List P → List X → Bool
all_match star one [] xs = length xs == 0
all_match star one (p ∷ ps) xs =
    cond (star p) (any_end (all_match star one ps) xs) (first_and (one p) (all_match star one ps) xs)

-- Whether a byte of a pattern is `*`, which matches any number of bytes of a name.
abbrev pub is_star : ℕ → Bool
is_star p = p == code "*"

abbrev pub is_byte_match : ℕ → ℕ → Bool
is_byte_match p b = (p == code "?") || (p == b)

abbrev pub name_matches : List ℕ → List ℕ → Bool
name_matches pattern name = all_match is_star is_byte_match pattern name

-- The names in a path. Slashes separate them.
abbrev pub path_parts : List ℕ → List (List ℕ)
path_parts path = slice_split (λ b. b == code "/") path

-- The names in an optional path. There are no names if there is no path.
abbrev pub parts_left : Option (Bor (List ℕ)) → List (List ℕ)
parts_left None = []
parts_left (Some path) = path_parts path.now

-- Whether a part of a pattern is `**`, which matches any number of names. At the end of a pattern it matches one name
-- or more.
abbrev pub is_double_star : List ℕ → Bool
is_double_star part = bytes_eq part (codes "**")

abbrev pub with_inside : List (List ℕ) → List (List ℕ)
with_inside [] = []
with_inside (part ∷ parts) =
    cond (is_double_star part && (length parts == 0)) (part ∷ codes "*" ∷ []) (part ∷ with_inside parts)

abbrev pub pattern_parts : List ℕ → List (List ℕ)
pattern_parts pattern = with_inside (path_parts pattern)

abbrev pub pattern_left : Option (Bor (List ℕ)) → List (List ℕ)
pattern_left None = []
pattern_left (Some pattern) = pattern_parts pattern.now

-- Whether the parts of a pattern match the names of a path, in order.
abbrev pub path_matches : List (List ℕ) → List (List ℕ) → Bool
path_matches patterns names = all_match is_double_star name_matches patterns names

-- Whether a path ends with a slash, as the path of a directory does.
abbrev pub ends_in_slash : List ℕ → Bool
ends_in_slash path = ends_with ◌==◌ path (codes "/")

abbrev pub without_slash : List ℕ → List ℕ
without_slash path = cond (ends_in_slash path) (take (length path - 1) path) path

abbrev pub has_slash : List ℕ → Bool
has_slash path = list_any (λ b. b == code "/") path

abbrev pub after_slash : List ℕ → List ℕ
after_slash [] = []
after_slash (b ∷ path) = cond (b == code "/") path (b ∷ path)

-- Whether a pattern matches a path. A pattern with a slash, other than at its end, matches the path from its start. A
-- pattern without one matches the last name of the path.
abbrev pub glob_matches : List ℕ → List ℕ → Bool
glob_matches pattern path = cond (has_slash pattern)
    (path_matches (pattern_parts (after_slash pattern)) (path_parts path))
    (any_end (path_matches (pattern_parts pattern)) (path_parts path))

-- Whether a pattern excludes a path. The path of a directory ends with a slash. A pattern with a slash at its end
-- matches only directories.
abbrev pub excludes : List ℕ → List ℕ → Bool
excludes pattern path =
    (not (ends_in_slash pattern) || ends_in_slash path) && glob_matches (without_slash pattern) (without_slash path)

-- The texts to which a list of references points.
abbrev pub borrowed_texts : List (Bor (List ℕ)) → List (List ℕ)
borrowed_texts words = map (λ word. word.now) words

abbrev pub is_excluded : List (List ℕ) → List ℕ → Bool
is_excluded patterns path = list_any (λ pattern. excludes pattern path) patterns
