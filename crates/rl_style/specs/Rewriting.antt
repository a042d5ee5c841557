-- Rewritten literals: the new text of a literal token in a style, and the properties that no style changes. Characters are
-- code points.
use Rattle.std.specs.Prelude.{◌≡◌, ◌⊎◌, ℕ, ◌+◌, ◌-◌, ◌*◌, ◌/◌, ◌%◌, Bool, true, false, not, ◌&&◌, ◌||◌, ◌==◌, nat_le, nat_lt, List, [], ◌∷◌, ◌++◌, Option, None, map, length, if◌then◌else◌, IsTrue, IsFalse, codes}
use Rattle.std.specs.List.{flat_map, list_all, list_any}
use Prim.Native.Char.{code}
use Rattle.rl_writing.specs.Hiding.{is_control_invisible_or_bidi}
use Rattle.std.specs.Char.{is_ascii_digit}
use Rattle.std.specs.Str.{chars}
use Rattle.rl_syntax.specs.Texts.{first_passes}
use Rattle.rl_syntax.specs.declared.kind.Kind.{Kind}
use Rattle.rl_syntax.specs.declared.kind.Kind.TheVariants.{Str, Char, Float}
use Rattle.rl_syntax.specs.Reading.{Contents, Digits}
use Rattle.rl_syntax.specs.Written.{closer}
use Rattle.rl_syntax.specs.Strict.{StrictUnit, Itself, QuoteEscape, PlainEscape, AsciiEscape, ByteEscape, UnicodeEscape, spaced_value, strict_content_of, strict_contents, strict_text, strict_opener, strict_closer, StrictBool, StrictCooked, StrictFloat, StrictInt, StrictRaw, Strict}
use Rattle.rl_syntax.specs.Spelling.{place_value}
use Rattle.rl_writing.specs.Integers.{numeral}
use Rattle.rl_writing.specs.RawStrings.{raw_text, HasFewestHashes}
use Rattle.rl_style.specs.Around.{may_precede_quote}
use Rattle.rl_style.specs.declared.style.Case.{Case}
use Rattle.rl_style.specs.declared.style.Style.{Style}
use Rattle.rl_style.specs.Cases.{cased, drops_underscores, kept_digits, kept_run, number_character, separator}
use Rattle.rl_style.specs.Groups.{float_in_groups, grouped_run}
use Rattle.rl_style.specs.Mistyped.{is_mistyped, is_mistyped_float}

-- Both texts are literal tokens. Their kinds, values and suffixes are equal. It is proved that their parse results are equal.
pub record SameLiteral (old new : List ℕ) : Type 0 where
  pub kind : Kind
  pub contents : Contents
  pub suffix : List ℕ
  pub was : Strict old kind contents suffix
  pub is : Strict new kind contents suffix

-- The style adds a zero to a float that ends with its dot. The new value is the old value with this zero at its end.
pub record GetsZero (style : Style) (old new : Contents) : Type 0 where
  pub float_zero : IsTrue style.float_zero
  pub digits : List ℕ
  pub old_is : old ≡ Digits (digits ++ codes ".")
  pub new_is : new ≡ Digits (digits ++ codes ".0")

-- Both texts are literal tokens. Their kinds, values and suffixes are equal, except that the style may add a zero after a
-- float's dot.
pub record SameNumber (style : Style) (old new : List ℕ) : Type 0 where
  pub kind : Kind
  pub contents : Contents
  pub new_contents : Contents
  pub suffix : List ℕ
  pub was : Strict old kind contents suffix
  pub is : Strict new kind new_contents suffix
  pub keeps : (new_contents ≡ contents) ⊎ ((kind ≡ Float) × GetsZero style contents new_contents)

-- ---- rewritten numbers

-- The new digits of an integer with the given base and suffix.
abbrev pub styled_run : Style → ℕ → List ℕ → List ℕ → List ℕ
styled_run style base suffix run =
    grouped_run false style base suffix
    (flat_map (number_character style (drops_underscores style suffix) (base == 16))
    (kept_digits style base suffix (kept_run style suffix run)))

-- The old text is an integer, and the new text has its prefix, its rewritten digits, and its suffix. First the digits lose
-- leading zeros and the underscores at their end, if the style drops these. Then each character is rewritten, the digits are
-- divided into groups, and the style's separator is written before the suffix.
pub record StylesInt (style : Style) (old new : List ℕ) : Type 0 where
  pub contents : Contents
  pub suffix : List ℕ
  pub int : StrictInt old contents suffix
  pub exact : IsFalse (is_mistyped suffix old)
  pub new_is : new ≡ int.prefix ++ (styled_run style int.base suffix int.run ++ (separator style suffix ++ suffix))

-- The old text is an integer whose suffix may be mistyped, such as `2_32`. The new text equals the old one.
pub record KeepsInt (old new : List ℕ) : Type 0 where
  pub contents : Contents
  pub suffix : List ℕ
  pub int : StrictInt old contents suffix
  pub mistyped : IsTrue (is_mistyped suffix old)
  pub new_is : new ≡ old

abbrev pub RewritesInt : Style → List ℕ → List ℕ → Type 0
RewritesInt style old new = StylesInt style old new ⊎ KeepsInt old new

-- The new form of a float's text before its suffix.
abbrev pub styled_numeral : Style → List ℕ → List ℕ → List ℕ
styled_numeral style suffix numeral =
    float_in_groups style.float_zero (number_character style (drops_underscores style suffix) false)
    (λ from_first. grouped_run from_first style 10 suffix) (kept_run style suffix numeral)

-- The old text is a float. In the new text, the digits are rewritten as in an integer, but leading zeros are kept. The suffix
-- is unchanged.
pub record StylesFloat (style : Style) (old new : List ℕ) : Type 0 where
  pub contents : Contents
  pub suffix : List ℕ
  pub float : StrictFloat old contents suffix
  pub exact : IsFalse (is_mistyped_float suffix old)
  pub new_is : new ≡ styled_numeral style suffix float.numeral ++ (separator style suffix ++ suffix)

-- The old text is a float whose suffix may be mistyped, such as `1e5_32`. The new text equals the old one.
pub record KeepsFloat (old new : List ℕ) : Type 0 where
  pub contents : Contents
  pub suffix : List ℕ
  pub float : StrictFloat old contents suffix
  pub mistyped : IsTrue (is_mistyped_float suffix old)
  pub new_is : new ≡ old

abbrev pub RewritesFloat : Style → List ℕ → List ℕ → Type 0
RewritesFloat style old new = StylesFloat style old new ⊎ KeepsFloat old new

-- ---- rewritten literals with escapes

-- A digit of `\u{..}` in the given case, and the number of underscores after it.
abbrev pub cased_digit : Option Case → ℕ × ℕ → ℕ × ℕ
cased_digit case digit = (cased case digit.0, digit.1)

-- A digit of `\u{..}` without the underscores after it.
abbrev pub bare_digit : ℕ × ℕ → ℕ × ℕ
bare_digit digit = (digit.0, 0)

abbrev pub fewest_digits : List (ℕ × ℕ) → List (ℕ × ℕ)
fewest_digits [] = []
fewest_digits (d ∷ []) = bare_digit d ∷ []
fewest_digits (d ∷ e ∷ ds) = if d.0 == code "0" then fewest_digits (e ∷ ds) else map bare_digit (d ∷ e ∷ ds)

abbrev pub styled_digits : Style → List (ℕ × ℕ) → List (ℕ × ℕ)
styled_digits style digits =
    map (cased_digit style.escape_digits) (if style.code_digits then fewest_digits digits else digits)

-- The character is visible ASCII, from `!` to `~`. A space isn't visible here: an escaped line end before the space would
-- drop it.
abbrev pub is_visible : ℕ → Bool
is_visible c = nat_le (code "!") c && nat_le c (code "~")

-- A visible character as part of a literal: with a backslash if it is the closing quote or a backslash.
abbrev pub visible_unit : Kind → ℕ → StrictUnit
visible_unit kind c = if c == closer kind then QuoteEscape c else (if c == code "\\" then PlainEscape c else Itself c)

-- The character has an escape with a letter: LF, CR or TAB.
abbrev pub has_letter : ℕ → Bool
has_letter c = c == code "\n" || c == code "\r" || c == code "\t"

-- The character may have an escape with a letter: LF, CR, TAB, or NUL if `zero` is true. `zero` is false if a digit follows,
-- since `\01` is octal in other languages.
abbrev pub gets_letter : Bool → ℕ → Bool
gets_letter zero c = has_letter c || (zero && c == 0)

-- The letter of the escape for LF, CR, TAB or NUL.
abbrev pub letter_of : ℕ → ℕ
letter_of c =
    if c == code "\n" then code "n"
    else (if c == code "\r" then code "r" else (if c == code "\t" then code "t" else code "0"))

-- The new form of a numeric escape whose value is `c`. `escape` is the escape with its digits in the style. NUL may be written
-- as `\0` if `zero` is true.
abbrev pub respelled : Style → Kind → Bool → ℕ → StrictUnit → StrictUnit
respelled style kind zero c escape =
    if style.ascii_escapes && is_visible c then visible_unit kind c
    else (if style.named_escapes && gets_letter zero c then PlainEscape (letter_of c) else escape)

-- The new form of an escape. If the style requires it, a quote that doesn't close the literal loses its backslash, and a
-- visible character or an escape with a letter replaces a numeric escape. Other numeric escapes have their digits in the
-- style.
abbrev pub reescaped : Style → Kind → Bool → StrictUnit → StrictUnit
reescaped style kind zero (QuoteEscape c) =
    if style.quote_escapes && not (c == closer kind) then Itself c else QuoteEscape c
reescaped style kind zero (AsciiEscape high low) =
    respelled style kind zero (place_value 16 (high ∷ low ∷ []))
    (AsciiEscape (cased style.escape_digits high) (cased style.escape_digits low))
reescaped style kind zero (ByteEscape high low) =
    respelled style kind zero (place_value 16 (high ∷ low ∷ []))
    (ByteEscape (cased style.escape_digits high) (cased style.escape_digits low))
reescaped style kind zero (UnicodeEscape digits) =
    respelled style kind zero (spaced_value digits) (UnicodeEscape (styled_digits style digits))
reescaped style kind zero unit = unit

-- The character is invisible, bidirectional or a control character, and isn't LF, CR or TAB.
abbrev pub needs_number : ℕ → Bool
needs_number c = is_control_invisible_or_bidi c && not (has_letter c)

-- The hexadecimal digit for a number below 16, in lower case.
abbrev pub lower_digit : ℕ → ℕ
lower_digit n = if nat_lt n 10 then code "0" + n else code "a" + (n - 10)

-- The escape `\x` with two digits. In literals of some kinds its value is an ASCII character, and in others it is a byte.
abbrev pub hex_escape : Kind → ℕ → ℕ → StrictUnit
hex_escape Str high low = AsciiEscape high low
hex_escape Char high low = AsciiEscape high low
hex_escape _ high low = ByteEscape high low

-- The numeric escape of a character: `\x` for ASCII, and otherwise `\u{..}` with the fewest digits.
abbrev pub number_escape : Kind → ℕ → StrictUnit
number_escape kind c =
    if nat_lt c 128 then hex_escape kind (lower_digit (c / 16)) (lower_digit (c % 16))
    else UnicodeEscape (map (λ d. (d, 0)) (numeral 16 false c))

-- The new form of a character or escape. An invisible or bidirectional character is replaced by its numeric escape, if the
-- style requires this.
abbrev pub restyled : Style → Kind → Bool → StrictUnit → StrictUnit
restyled style kind zero (Itself c) =
    if style.hidden && needs_number c then reescaped style kind zero (number_escape kind c) else Itself c
restyled style kind zero unit = reescaped style kind zero unit

-- The first of the characters and escapes represents a decimal digit.
abbrev pub digit_follows : Kind → List StrictUnit → Bool
digit_follows kind [] = false
digit_follows kind (u ∷ us) = first_passes is_ascii_digit (strict_contents (strict_content_of kind) u)

abbrev pub restyled_units : Style → Kind → List StrictUnit → List StrictUnit
restyled_units style kind [] = []
restyled_units style kind (u ∷ us) =
    restyled style kind (not (digit_follows kind us)) u ∷ restyled_units style kind us

-- The new body of a literal: each of its characters and escapes in the style.
abbrev pub restyled_inside : Style → Kind → List StrictUnit → List ℕ
restyled_inside style kind units = flat_map strict_text (restyled_units style kind units)

-- The old text is a quoted literal with escapes, and the new text has each of its characters and escapes in the style.
pub record RewritesCooked (style : Style) (old new : List ℕ) : Type 0 where
  pub kind : Kind
  pub contents : Contents
  pub suffix : List ℕ
  pub cooked : StrictCooked old kind contents suffix
  pub new_is : new ≡ strict_opener kind
      ++ (restyled_inside style kind cooked.units ++ (strict_closer kind ++ suffix))

-- ---- rewritten raw strings

-- The new number of hashes of a raw string. If the first argument is true, it is the fewest that the content allows, and
-- otherwise the old number.
abbrev pub HasHashes : Bool → Kind → List ℕ → ℕ → ℕ → Type 0
HasHashes true kind inside old new = HasFewestHashes kind inside new
HasHashes false kind inside old new = new ≡ old

-- Whether a raw string after the text `front` may lose its `r`. A raw string without the prefix `b` or `c` keeps its `r` if
-- `front` ends with a hash or a dot.
abbrev pub may_lose_r : Kind → List ℕ → Bool
may_lose_r Str front = may_precede_quote front
may_lose_r _ front = true

abbrev pub needs_backslash : ℕ → Bool
needs_backslash c = c == code "\"" || c == code "\\"

-- Whether the style turns a raw string into a string with escapes. The text `front` before the raw string must allow this
-- (`may_lose_r`). Either the content `inside` needs no escapes, or it contains characters that the style escapes.
abbrev pub loses_raw : Style → Kind → List ℕ → List ℕ → Bool
loses_raw style kind front inside =
    may_lose_r kind front
    && ((style.raw && list_all (λ c. not (needs_backslash c)) inside) || (style.hidden && list_any needs_number inside))

-- Converts a character of a raw string to a character or escape of a string with escapes. A double quote and a backslash get
-- a backslash before them.
abbrev pub raw_unit : ℕ → StrictUnit
raw_unit c = if c == code "\"" then QuoteEscape c else (if c == code "\\" then PlainEscape c else Itself c)

-- A string with escapes, written in the style. It has the given kind and suffix, and the value `inside`.
abbrev pub unraw_text : Style → Kind → List ℕ → List ℕ → List ℕ
unraw_text style kind inside suffix =
    strict_opener kind ++ (restyled_inside style kind (map raw_unit inside) ++ (strict_closer kind ++ suffix))

-- The old and the new text are raw strings with equal contents and suffixes. The new text has the style's number of hashes.
pub record StaysRaw (style : Style) (front old new : List ℕ) : Type 0 where
  pub kind : Kind
  pub contents : Contents
  pub suffix : List ℕ
  pub raw : StrictRaw old kind contents suffix
  pub stays : IsFalse (loses_raw style kind front raw.inside)
  pub hashes : ℕ
  pub hashes_are : HasHashes style.raw_hashes kind raw.inside raw.hashes hashes
  pub new_is : new ≡ raw_text kind hashes raw.inside ++ suffix

-- The old text is a raw string. The new text is a string with escapes, written in the style, and has the value and the suffix
-- of the old text.
pub record LosesRaw (style : Style) (front old new : List ℕ) : Type 0 where
  pub kind : Kind
  pub contents : Contents
  pub suffix : List ℕ
  pub raw : StrictRaw old kind contents suffix
  pub loses : IsTrue (loses_raw style kind front raw.inside)
  pub new_is : new ≡ unraw_text style kind raw.inside suffix

abbrev pub RewritesRaw : Style → List ℕ → List ℕ → List ℕ → Type 0
RewritesRaw style front old new = StaysRaw style front old new ⊎ LosesRaw style front old new

-- ---- rewritten literals of any kind

-- The old text is `true` or `false`, and the new text equals it.
pub record KeepsTruth (old new : List ℕ) : Type 0 where
  pub contents : Contents
  pub suffix : List ℕ
  pub truth : StrictBool old contents suffix
  pub new_is : new ≡ old

-- The new text is the old literal in the style. `front` is the text before the literal.
abbrev pub Rewrites : Style → List ℕ → List ℕ → List ℕ → Type 0
Rewrites style front old new =
    RewritesInt style old new
    ⊎ (RewritesFloat style old new
    ⊎ (RewritesRaw style front old new ⊎ (RewritesCooked style old new ⊎ KeepsTruth old new)))

-- The most bytes of a quoted literal's new text for `n` bytes of its old text: an escape has at most four bytes for each byte of an
-- invisible character. One more byte is needed if a raw string gets the fewest hashes.
abbrev pub grown : Style → ℕ → ℕ
grown style n = if style.hidden then 4 * n else n

-- The most bytes of a literal's new text for each byte of its old text, without one more byte.
abbrev pub growth : Style → List ℕ → ℕ
growth style text = if first_passes is_ascii_digit text then 2 else (if style.hidden then 4 else 1)

-- The length in bytes of a buffer that is large enough for a literal's new text.
unfoldable pub room_for : Style → List ℕ → ℕ
room_for style text = length text * growth style (chars text) + 1

-- No rule of the style is set.
pub record HasNoRule (style : Style) : Type 0 where
  pub hex_digits : style.hex_digits ≡ None
  pub underscores : style.underscores ≡ false
  pub leading_zeros : style.leading_zeros ≡ false
  pub suffix_separator : style.suffix_separator ≡ None
  pub digit_groups : style.digit_groups ≡ None
  pub float_zero : style.float_zero ≡ false
  pub exponent_letter : style.exponent_letter ≡ None
  pub exponent_plus : style.exponent_plus ≡ false
  pub escape_digits : style.escape_digits ≡ None
  pub code_digits : style.code_digits ≡ false
  pub ascii_escapes : style.ascii_escapes ≡ false
  pub named_escapes : style.named_escapes ≡ false
  pub quote_escapes : style.quote_escapes ≡ false
  pub raw_hashes : style.raw_hashes ≡ false
  pub raw : style.raw ≡ false
  pub hidden : style.hidden ≡ false
