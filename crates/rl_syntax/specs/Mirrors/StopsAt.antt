-- Executable models of private code: the bytes at which a search for delimiters stops. Only proofs use them.
use Rattle.std.specs.Prelude.{ℕ, Bool, true, false, ◌||◌, nat_le}
use Rattle.rl_syntax.specs.declared.scan.Marks.{Marks}
use Rattle.rl_syntax.specs.Scanning.{is_ascii_other, is_one_of, is_other}

-- Whether a search for delimiters continues after a byte: the byte isn't a delimiter. If the first argument is `true`, the search
-- doesn't continue after non-ASCII bytes either.
abbrev pub goes_on : Bool → Marks → ℕ → Bool
goes_on true marks = is_ascii_other marks
goes_on false marks = is_other marks

-- Whether a search for delimiters stops at a byte: the byte is a delimiter. If the first argument is `true`, the search also
-- stops at each non-ASCII byte.
abbrev pub stops : Bool → Marks → ℕ → Bool
stops true marks = λ c. nat_le 128 c || is_one_of marks c
stops false marks = is_one_of marks
