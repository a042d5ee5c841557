-- Tests of bytes for the delimiters that a search looks for.
use Rattle.std.specs.Prelude.{◌≡◌, ℕ, Bool, not, ◌||◌, ◌&&◌, ◌==◌, ◌<◌, nat_lt, List, ◌∷◌, ◌++◌, IsTrue}
use Rattle.std.specs.List.{list_all}
use Rattle.rl_syntax.specs.declared.scan.Marks.{Marks}

-- Whether a byte is one of the delimiters.
abbrev pub is_one_of : Marks → ℕ → Bool
is_one_of marks c = c == marks.first || c == marks.second || c == marks.third || c == marks.fourth

abbrev pub is_other : Marks → ℕ → Bool
is_other marks c = not (is_one_of marks c)

-- Whether a byte is ASCII and isn't one of the delimiters.
abbrev pub is_ascii_other : Marks → ℕ → Bool
is_ascii_other marks c = nat_lt c 128 && is_other marks c

abbrev pub AreAscii : Marks → Type 0
AreAscii marks =
    (marks.first < 128) × (marks.second < 128) × (marks.third < 128) × (marks.fourth < 128)

-- The delimiters of a search for a line feed: all four are the line feed.
abbrev pub line_ends : Marks
line_ends = record { first = 10; second = 10; third = 10; fourth = 10 }

-- `mark` is the first delimiter in the text, and `rest` is the text after it.
pub record IsNextMark (marks : Marks) (text : List ℕ) (mark : ℕ) (rest : List ℕ) : Type 0 where
  pub front : List ℕ
  pub others : IsTrue (list_all (is_other marks) front)
  pub text_is : text ≡ front ++ (mark ∷ rest)
  pub is_mark : IsTrue (is_one_of marks mark)
