-- Executable models of private code: the bytes at which a literal or a comment may begin. Only proofs use them.
use Rattle.std.specs.Prelude.{ℕ, Bool, true, not, ◌||◌, ◌&&◌, ◌==◌, cond, nat_le, take, List, [], ◌∷◌}
use Rattle.std.proofs.Common.{suc}
use Prim.Native.Char.{code}
use Rattle.std.specs.Char.{is_ascii_digit}
use Rattle.rl_syntax.specs.Mirrors.RunsAt.{is_ascii_id_continue}

-- ---- bytes at which a literal or a comment may begin

-- Whether a byte may begin a literal or a comment after any other byte. Quotes, the slash, and all non-ASCII bytes may.
abbrev pub is_likely_mark : ℕ → Bool
is_likely_mark c = c == code "\"" || c == code "'" || c == code "/" || nat_le 128 c

-- Whether a byte may begin a literal or a word `true` or `false`, if no identifier character precedes the byte.
abbrev pub is_likely_head : ℕ → Bool
is_likely_head c =
    is_ascii_digit c || c == code "b" || c == code "c" || c == code "f" || c == code "r"
    || c == code "t"

-- Whether a literal or a comment may begin at the second of two adjacent bytes. After an ASCII identifier character, only a
-- quote, a slash or a non-ASCII byte may begin one.
abbrev pub may_begin : ℕ × ℕ → Bool
may_begin x = is_likely_mark x.1 || (not (is_ascii_id_continue x.0) && is_likely_head x.1)

-- Whether the byte `next` may follow the byte `c` at the start of a literal, of `true` or of `false`, as `#` may follow `r`.
-- If `c` isn't one of the letters b, c, r, t and f, the result is `true`.
abbrev pub goes_on_likely : ℕ → ℕ → Bool
goes_on_likely c next =
    cond (c == code "b") (next == code "\"" || next == code "'" || next == code "r")
    (cond (c == code "c") (next == code "\"" || next == code "r")
    (cond (c == code "r") (next == code "\"" || next == code "#")
    (cond (c == code "t") (next == code "r") (cond (c == code "f") (next == code "a") true))))

-- The first element of a list, or `other` if the list is empty.
abbrev pub first_or : ℕ → List ℕ → ℕ
first_or other [] = other
first_or other (c ∷ cs) = c

-- Whether neither a literal nor a comment begins at the byte `c`, where the byte `before` precedes it and the byte
-- `next` follows it.
abbrev pub begins_none : ℕ → ℕ → ℕ → Bool
begins_none before c next = not (may_begin (before, c) && goes_on_likely c next)

-- Each byte of a list with the byte before it and the byte after it.
abbrev pub around : ℕ → List ℕ → List (ℕ × ℕ × ℕ)
around before [] = []
around before (c ∷ cs) = (before, c, first_or 0 cs) ∷ around c cs

abbrev pub may_begin_at : ℕ × ℕ × ℕ → Bool
may_begin_at x = not (begins_none x.0 x.1 x.2)

-- The number of bytes before the first one at which a literal or a comment may begin. The byte `before` precedes the list.
abbrev pub unlikely_after : ℕ → List ℕ → ℕ
unlikely_after before [] = 0
unlikely_after before (c ∷ cs) =
    cond (begins_none before c (first_or 0 cs)) (suc (unlikely_after c cs)) 0

abbrev pub literal_free_prefix_len : List ℕ → ℕ
literal_free_prefix_len bytes = unlikely_after 0 bytes

-- The last byte of a list, or `before` if the list is empty.
abbrev pub last_of : ℕ → List ℕ → ℕ
last_of before [] = before
last_of before (c ∷ cs) = last_of c cs

-- The byte before the offset `at`, or 0 if `at` is 0.
abbrev pub byte_before : List ℕ → ℕ → ℕ
byte_before bytes at = last_of 0 (take at bytes)
