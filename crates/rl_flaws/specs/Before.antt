-- Rules about the text directly before a literal. Texts are lists of bytes. Some definitions use a reversed list, which
-- begins with the byte directly before the literal.
use Rattle.std.specs.Prelude.{◌==◌, ℕ, nat_le, Bool, true, false, cond, not, ◌||◌, ◌&&◌, List, [], ◌∷◌, length, drop, reverse, Option, Some, None}
use Rattle.std.specs.Char.{is_ascii_alphanumeric}
use Rattle.std.specs.Char.{is_ascii_digit}
use Rattle.rl_flaws.specs.declared.before.Edition.{Edition}
use Rattle.rl_flaws.specs.declared.before.Edition.TheVariants.{E2015, E2018, E2021, E2024}
use Rattle.rl_flaws.specs.declared.before.Part.{Part}
use Rattle.rl_flaws.specs.declared.before.Part.TheVariants.{Inline, Passed, Hash, Word}

-- The byte is ASCII white space within a line, or an opening parenthesis.
abbrev pub is_inline : ℕ → Bool
is_inline b = (b == 9) || (b == 11) || (b == 12) || (b == 13) || (b == 32) || (b == 40)

abbrev pub has_part : Part → ℕ → Bool
has_part Inline b = is_inline b
has_part Passed b = is_inline b || (b == 10)
has_part Hash b = b == 35
has_part Word b = is_ascii_alphanumeric b || (b == 95)

-- The list without the bytes at its start that are in the class `part`.
abbrev pub kept : Part → List ℕ → List ℕ
kept part [] = []
kept part (b ∷ back) = cond (has_part part b) (kept part back) (b ∷ back)

-- The list without the bytes at its end that are in the class `part`.
abbrev pub without : Part → List ℕ → List ℕ
without part bytes = reverse (kept part (reverse bytes))

-- The list begins with the byte `wanted`.
abbrev pub comes_first : ℕ → List ℕ → Bool
comes_first wanted [] = false
comes_first wanted (b ∷ back) = b == wanted

-- The last line of a text contains two slashes next to each other, which may begin a comment. The bytes of the text are in
-- reverse order.
abbrev pub holds_comment : List ℕ → Bool
holds_comment [] = false
holds_comment (b ∷ back) =
    not (b == 10) && (((b == 47) && comes_first 47 back) || holds_comment back)

-- A comment may end at the end of a text. The text's last byte is a slash, or belongs to a non-ASCII character, which may be
-- white space after a comment. The bytes of the text are in reverse order.
abbrev pub may_end_comment : List ℕ → Bool
may_end_comment [] = false
may_end_comment (b ∷ back) = (b == 47) || nat_le 128 b

-- A comment may hide the text before a literal. White space and opening parentheses may be between the comment and the
-- literal. Directly before them, either a comment may end, or a line ends that contains two slashes.
abbrev pub is_hidden : List ℕ → Bool
is_hidden before =
    may_end_comment (reverse (without Passed before))
    || (comes_first 10 (reverse (without Inline before)) && holds_comment (reverse (without Passed before)))

-- The text before a literal, without the white space and opening parentheses at its end. If a comment may hide the text, the
-- result is `None`.
abbrev pub seen_before : List ℕ → Option (List ℕ)
seen_before before = cond (is_hidden before) None (Some (without Passed before))

-- The text before a literal ends with a minus, or a comment may hide the text.
abbrev pub ends_in_minus : Option (List ℕ) → Bool
ends_in_minus None = true
ends_in_minus (Some front) = comes_first 45 (reverse front)

abbrev pub may_negate : List ℕ → Bool
may_negate before = ends_in_minus (seen_before before)

-- The list isn't empty, and begins with a byte that isn't an ASCII digit.
abbrev pub begins_name : List ℕ → Bool
begins_name [] = false
begins_name (b ∷ bytes) = not (is_ascii_digit b)

-- The byte before an identifier is a quote, a hash or part of a non-ASCII character. So the identifier may be part of another
-- token, as in `r#f`. The bytes before the identifier are in reverse order.
abbrev pub may_go_on : List ℕ → Bool
may_go_on [] = false
may_go_on (b ∷ back) = (b == 34) || (b == 39) || (b == 35) || nat_le 128 b

-- The bytes end with an identifier or a keyword that isn't a number or a part of a literal, a lifetime or a raw identifier.
abbrev pub is_after_word : List ℕ → Bool
is_after_word bytes =
    begins_name (drop (length (without Word bytes)) bytes) && not (may_go_on (reverse (without Word bytes)))

-- The bytes end with hashes that don't close a raw string, since no double quote directly precedes the hashes.
abbrev pub is_after_hashes : List ℕ → List ℕ → Bool
is_after_hashes bytes front = comes_first 35 (reverse bytes) && not (comes_first 34 (reverse front))

-- The first edition that reserves a literal together with the bytes before it, or `None` if no edition does.
abbrev pub reserving : List ℕ → List ℕ → Option Edition
reserving before literal =
    cond ((comes_first 34 literal || comes_first 39 literal) && is_after_word (without Hash before)) (Some E2021)
    (cond (comes_first 34 literal && is_after_hashes before (without Hash before)) (Some E2024) None)

abbrev pub year_of : Edition → ℕ
year_of E2015 = 2015
year_of E2018 = 2018
year_of E2021 = 2021
year_of E2024 = 2024

-- The edition `edition` is `from` or a later one. A literal is reserved from the edition `from` on.
abbrev pub is_in_edition : Edition → Option Edition → Bool
is_in_edition edition None = false
is_in_edition edition (Some from) = nat_le (year_of from) (year_of edition)

abbrev pub reserved : Edition → List ℕ → List ℕ → Bool
reserved edition before literal = is_in_edition edition (reserving before literal)
