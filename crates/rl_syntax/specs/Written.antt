-- The literals that are written for values. The table of escapes is this project's own choice.
use Rattle.std.specs.Prelude.{ℕ, ◌+◌, ◌-◌, ◌/◌, ◌%◌, Bool, not, ◌&&◌, ◌||◌, ◌==◌, nat_lt, List, [], ◌∷◌, ◌++◌, map, if◌then◌else◌, ◌≡◌}
use Prim.Native.Char.{code}
use Rattle.rl_syntax.specs.declared.kind.Kind.{Kind}
use Rattle.rl_syntax.specs.declared.kind.Kind.TheVariants.{Byte, Char}
use Rattle.rl_syntax.specs.Quoted.{QuotedUnit, Plain, Named, Hex, Zero, LowerT, LowerN, LowerR, Backslash, Quote, Apostrophe, decodes_to_chars, opener, texts}
use Rattle.rl_syntax.specs.Reading.{Reads, quoted_contents}
use Rattle.rl_syntax.specs.Strict.{Strict}

-- The hexadecimal digit of a number below 16, in upper case.
abbrev pub upper_digit : ℕ → ℕ
upper_digit n = if nat_lt n 10 then code "0" + n else code "A" + (n - 10)

-- The quote that ends a literal of the kind.
abbrev pub closer : Kind → ℕ
closer Byte = code "'"
closer Char = code "'"
closer _ = code "\""

-- The escape of the quote that ends a literal of the kind: `\'` or `\"`.
abbrev pub own_quote : Kind → QuotedUnit
own_quote Byte = Named Apostrophe
own_quote Char = Named Apostrophe
own_quote _ = Named Quote

-- Whether a character or byte is written by its number, as `\x7F`, unless it has a shorter escape: characters below the space,
-- DEL (which is 127), and in literals of bytes the bytes from 128 up.
abbrev pub is_written_as_number : Kind → ℕ → Bool
is_written_as_number kind c =
    nat_lt c (code " ") || c == 127
    || (nat_lt 127 c && not (decodes_to_chars kind))

-- The written form of a character or byte in a literal of the kind: itself or an escape.
unfoldable pub written_unit : Kind → ℕ → QuotedUnit
written_unit kind c =
    if c == 0 then Named Zero else
    (if c == code "\t" then Named LowerT else
    (if c == code "\n" then Named LowerN else
    (if c == code "\r" then Named LowerR else
    (if c == code "\\" then Named Backslash else
    (if c == closer kind then own_quote kind else
    (if is_written_as_number kind c then Hex (upper_digit (c / 16)) (upper_digit (c % 16))
    else Plain c))))))

-- The literal that is written for a value: the written forms of its characters or bytes, between quotes.
abbrev pub written_text : Kind → List ℕ → List ℕ
written_text kind value =
    opener kind ++ (texts (map (written_unit kind) value) ++ (closer kind ∷ []))

-- The text is the literal that is written for the value. By `syn`'s and by Rust's grammar it has that value and no
-- suffix.
pub record IsWrittenForm (kind : Kind) (value text : List ℕ) : Type 0 where
  pub text_is : text ≡ written_text kind value
  pub reads : Reads text kind (quoted_contents kind value) []
  pub strict : Strict text kind (quoted_contents kind value) []
