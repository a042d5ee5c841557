-- Executable models of the code, for the proofs of private functions only.
use Rattle.std.specs.Prelude.{◌≡◌, ℕ, ◌<◌, ◌/◌, ◌%◌, not, ◌&&◌, ◌||◌, ◌==◌, nat_lt, List, [], ◌∷◌, ◌++◌, Option, Some, None, map, replicate, codes, drop, IsTrue, if◌then◌else◌, Bool, length, true, false}
use Rattle.std.specs.List.{flat_map, list_all}
use Rattle.std.specs.Char.{is_ascii_digit}
use Prim.Native.Char.{code}
use Rattle.rl_syntax.specs.declared.kind.Kind.{Kind}
use Rattle.rl_syntax.specs.Strict.{BlanksEnd, HasUnits, IsRawInside, IsStrictSuffix, StrictUnit, is_strict_unit, strict_closer, strict_opener, strict_raw_opener, strict_text}
use Rattle.rl_syntax.specs.Spelling.{without_underscores}
use Rattle.rl_syntax.specs.Written.{closer}
use Rattle.rl_syntax.specs.Classes.{after_run}
use Rattle.rl_syntax.specs.Texts.{begins, is_underscore, first_passes}
use Rattle.rl_lenient.specs.declared.quoted_forms.QuotedForm.{QuotedForm}
use Rattle.rl_lenient.specs.Mirrors.OpenerAt.{found_opener, opener_at}
use Rattle.rl_style.specs.declared.style.Style.{Style}
use Rattle.rl_style.specs.Cases.{cased, is_padding}
use Rattle.rl_writing.specs.AsciiStrings.{unicode_escape}
use Rattle.rl_style.specs.Rewriting.{gets_letter, needs_number, is_visible, letter_of, lower_digit, needs_backslash}

-- Converts an optional character to a list: one character, or none.
abbrev pub one_or_none : Option ℕ → List ℕ
one_or_none None = []
one_or_none (Some c) = c ∷ []

-- A rewritten sequence of digits and underscores. The function `test` decides whether an underscore follows a digit, by the
-- number of digits after it. Old underscores remain only at the end of the sequence.
abbrev pub run_placed : (ℕ → List ℕ) → (ℕ → Bool) → List ℕ → List ℕ
run_placed character test [] = []
run_placed character test (c ∷ cs) =
    if c == code "_" then (if list_all is_underscore cs then character (code "_") else [])
    ++ run_placed character test cs
    else (character c ++ (if test (length (without_underscores cs)) then codes "_" else []))
    ++ run_placed character test cs

-- The text begins with the opening delimiter of a literal with the given form and kind.
abbrev pub OpensAs : QuotedForm → Kind → List ℕ → Type 0
OpensAs form kind text = (rest : List ℕ) × (opener_at text ≡ found_opener form kind rest)

-- The text is a raw string of the kind with the content `inside` and the suffix `suffix`.
pub record RawParts (kind : Kind) (text inside suffix : List ℕ) : Type 0 where
  pub hashes : ℕ
  pub few : hashes < 256
  pub allowed : IsRawInside kind inside
  pub no_carriage_return : IsTrue (list_all (λ c. not (c == code "\r")) inside)
  pub stays_open : (front rest : List ℕ)
      → inside ≡ front ++ (code "\"" ∷ (replicate hashes (code "#") ++ rest)) → ⊥
  pub is_suffix : IsStrictSuffix suffix
  pub text_is : text ≡ strict_raw_opener kind ++ (replicate hashes (code "#")
      ++ (code "\"" ∷ (inside ++ (code "\"" ∷ (replicate hashes (code "#") ++ suffix)))))

-- The text `inside` consists of the characters and escapes `units`. A literal of the kind may contain each of them.
pub record AreUnits (kind : Kind) (units : List StrictUnit) (inside : List ℕ) : Type 0 where
  pub each : IsTrue (list_all (is_strict_unit kind) units)
  pub blanks_end : BlanksEnd units
  pub inside_is : inside ≡ flat_map strict_text units

-- The text is a quoted literal of the kind with escapes. Its content is `inside`, and its suffix is `suffix`.
pub record CookedParts (kind : Kind) (text inside suffix : List ℕ) : Type 0 where
  pub units : List StrictUnit
  pub count : HasUnits kind units
  pub are : AreUnits kind units inside
  pub is_suffix : IsStrictSuffix suffix
  pub text_is : text ≡ strict_opener kind ++ (inside ++ (strict_closer kind ++ suffix))

-- The first character of a decoded value if it is ASCII, and 128 otherwise.
abbrev pub ascii_in : List ℕ → ℕ
ascii_in [] = 128
ascii_in (n ∷ ns) = if nat_lt n 128 then n else 128

-- The text of a visible ASCII character in a literal of the kind. The closing quote and a backslash get a backslash before
-- them.
abbrev pub visible_text : Kind → ℕ → List ℕ
visible_text kind c = if c == closer kind || c == code "\\" then code "\\" ∷ c ∷ [] else c ∷ []

-- Puts a zero before the text if the text begins with `}`. The text is the end of a `\u{..}` escape, after the leading zeros
-- and underscores. So at least one digit precedes the closing brace.
abbrev pub zero_closed : List ℕ → List ℕ
zero_closed [] = []
zero_closed (c ∷ cs) = if c == code "}" then code "0" ∷ c ∷ cs else c ∷ cs

abbrev pub fewest_text : List ℕ → List ℕ
fewest_text [] = []
fewest_text (c ∷ cs) =
    if is_padding c then without_underscores (zero_closed (after_run is_padding cs)) else without_underscores (c ∷ cs)

-- A numeric escape, with its digits rewritten in the style. A `\u{..}` escape gets the fewest digits if the style requires
-- this.
abbrev pub digits_text : Style → List ℕ → List ℕ
digits_text style text =
    if style.code_digits && begins (codes "\\u{") text
    then codes "\\u{" ++ map (cased style.escape_digits) (fewest_text (drop 3 text))
    else map (cased style.escape_digits) text

-- The value `n`, or 128 for a NUL that may not be written as `\0`.
abbrev pub lettered : Bool → ℕ → ℕ
lettered zero n = if zero || not (n == 0) then n else 128

-- The new form of a numeric escape with the value `n`.
abbrev pub number_text : Style → Kind → ℕ → List ℕ → List ℕ
number_text style kind n text =
    if style.ascii_escapes && is_visible n then visible_text kind n
    else (if style.named_escapes && gets_letter true n then code "\\" ∷ letter_of n ∷ []
    else digits_text style text)

-- The new form of an escape with the value `n`. The last argument is the escape's text after the backslash.
abbrev pub restyled_escape : Style → Kind → ℕ → List ℕ → List ℕ
restyled_escape style kind n [] = code "\\" ∷ []
restyled_escape style kind n (c ∷ cs) =
    if c == code "'" || c == code "\""
    then (if style.quote_escapes && not (c == closer kind) then c ∷ cs else code "\\" ∷ c ∷ cs)
    else (if c == code "x" || c == code "u" then number_text style kind n (code "\\" ∷ c ∷ cs)
    else code "\\" ∷ c ∷ cs)

-- The numeric escape of a character: `\x` for ASCII, and `\u{..}` otherwise.
abbrev pub code_text : ℕ → List ℕ
code_text c =
    if nat_lt c 128 then code "\\" ∷ code "x" ∷ lower_digit (c / 16) ∷ lower_digit (c % 16) ∷ [] else unicode_escape c

-- The new form of an invisible or bidirectional character: its numeric escape, or `\0` for a NUL that may be written as `\0`.
abbrev pub hidden_text : Style → Bool → ℕ → List ℕ
hidden_text style zero c =
    if style.named_escapes && (zero && c == 0) then code "\\" ∷ code "0" ∷ [] else digits_text style (code_text c)

-- The new form of an unescaped character.
abbrev pub itself_text : Style → Bool → ℕ → List ℕ
itself_text style zero c = if style.hidden && needs_number c then hidden_text style zero c else c ∷ []

-- The new form of a character or escape with the value `n`.
unfoldable pub restyled_text : Style → Kind → ℕ → List ℕ → List ℕ
restyled_text style kind n [] = []
restyled_text style kind n (c ∷ cs) =
    if c == code "\\" then restyled_escape style kind n cs else itself_text style (n == 0) c ++ cs

-- The text begins with a character or escape that represents a decimal digit.
abbrev pub represents_digit : Option (List ℕ × List ℕ) → Bool
represents_digit None = false
represents_digit (Some p) = is_ascii_digit (ascii_in p.0)

-- The new form of a character of a raw string that becomes a string with escapes.
abbrev pub raw_character : Style → Bool → ℕ → List ℕ
raw_character style zero c = if needs_backslash c then code "\\" ∷ c ∷ [] else itself_text style zero c

-- The new form of a raw string's content, if the raw string becomes a string with escapes.
abbrev pub raw_inside : Style → List ℕ → List ℕ
raw_inside style [] = []
raw_inside style (c ∷ cs) = raw_character style (not (first_passes is_ascii_digit cs)) c ++ raw_inside style cs
