-- Lower and upper case, and the new characters of rewritten numbers. Characters are code points.
use Rattle.std.specs.Prelude.{ℕ, ◌+◌, ◌-◌, Bool, not, ◌&&◌, ◌||◌, ◌==◌, nat_le, List, [], ◌∷◌, Option, Some, None, codes, true, false, if◌then◌else◌}
use Prim.Native.Char.{code}
use Rattle.rl_syntax.specs.Classes.{after_run}
use Rattle.std.specs.List.{list_all, list_any}
use Rattle.rl_syntax.specs.Texts.{first_passes, is_underscore}
use Rattle.rl_lexer.specs.Lexemes.{is_base_letter}
use Rattle.rl_style.specs.declared.style.Case.{Case}
use Rattle.rl_style.specs.declared.style.Case.TheVariants.{Lower, Upper}
use Rattle.rl_style.specs.declared.style.Separator.{Separator}
use Rattle.rl_style.specs.declared.style.Separator.TheVariants.{Nothing, Underscore}
use Rattle.rl_style.specs.declared.style.Style.{Style}

-- A hexadecimal digit in upper case, and any other character unchanged.
abbrev pub upper_case : ℕ → ℕ
upper_case c = if nat_le (code "a") c && nat_le c (code "f") then c - 32 else c

-- A hexadecimal digit in lower case, and any other character unchanged.
abbrev pub lower_case : ℕ → ℕ
lower_case c = if nat_le (code "A") c && nat_le c (code "F") then c + 32 else c

abbrev pub cased : Option Case → ℕ → ℕ
cased None c = c
cased (Some Lower) c = lower_case c
cased (Some Upper) c = upper_case c

-- The letter of an exponent in the given case, and any other character unchanged.
abbrev pub exponent_letter : Option Case → ℕ → ℕ
exponent_letter None c = c
exponent_letter (Some Lower) c = if c == code "E" then code "e" else c
exponent_letter (Some Upper) c = if c == code "e" then code "E" else c

-- Whether the style drops the underscores of a number with the given suffix. If the suffix begins with the letter of a base,
-- the underscores are kept: `0_b1` without its underscore is a binary number.
abbrev pub drops_underscores : Style → List ℕ → Bool
drops_underscores style suffix = style.underscores && not (first_passes is_base_letter suffix)

-- The new characters for one character of a number: one character, or none if the character is dropped. `drops` is true if
-- the style drops underscores. `hex` is true if the number is hexadecimal.
abbrev pub number_character : Style → Bool → Bool → ℕ → List ℕ
number_character style drops hex c =
    if (drops && c == code "_") || ((not hex && style.exponent_plus) && c == code "+") then []
    else (if hex then cased style.hex_digits c else exponent_letter style.exponent_letter c) ∷ []

-- The text without the underscores at its end.
abbrev pub trimmed : List ℕ → List ℕ
trimmed [] = []
trimmed (c ∷ cs) = if list_all is_underscore (c ∷ cs) then [] else c ∷ trimmed cs

-- Whether the style drops the underscores at the end of a number's digits, before the suffix. If the style writes no
-- separator and the suffix begins with the letter of a base, the underscores are kept: `0_b1` without its underscore is
-- another number.
abbrev pub trims_by : Option Separator → List ℕ → Bool
trims_by None suffix = false
trims_by (Some Nothing) suffix = not (first_passes is_base_letter suffix)
trims_by (Some Underscore) suffix = true

abbrev pub kept_run : Style → List ℕ → List ℕ → List ℕ
kept_run style suffix run = if trims_by style.suffix_separator suffix then trimmed run else run

-- The separator that the style writes before the suffix: an underscore, or none.
abbrev pub separator_by : Option Separator → List ℕ → List ℕ
separator_by None suffix = []
separator_by (Some Nothing) suffix = []
separator_by (Some Underscore) [] = []
separator_by (Some Underscore) (c ∷ cs) = codes "_"

abbrev pub separator : Style → List ℕ → List ℕ
separator style suffix = separator_by style.suffix_separator suffix

-- The character is a zero or an underscore, which may precede the significant digits of a number.
abbrev pub is_padding : ℕ → Bool
is_padding c = c == code "0" || c == code "_"

abbrev pub or_zero : List ℕ → List ℕ
or_zero [] = codes "0"
or_zero (c ∷ cs) = c ∷ cs

-- The digits without leading zeros, or one zero if there are only zeros.
abbrev pub significant : List ℕ → List ℕ
significant run = or_zero (after_run is_padding run)

-- Whether the style drops the leading zeros of an integer. Only a decimal integer loses its leading zeros. An integer whose
-- suffix begins with the letter of a base (`b`, `o` or `x`) keeps them.
abbrev pub drops_zeros : Style → ℕ → List ℕ → Bool
drops_zeros style base suffix = (style.leading_zeros && base == 10) && not (first_passes is_base_letter suffix)

-- The digit isn't octal: it is 8 or 9.
abbrev pub exceeds_octal : ℕ → Bool
exceeds_octal c = c == code "8" || c == code "9"

-- The digits of an integer, without the leading zeros if the style drops them. A number whose digits are all octal keeps its
-- leading zeros, since `0123` may be meant as an octal number.
abbrev pub kept_digits : Style → ℕ → List ℕ → List ℕ → List ℕ
kept_digits style base suffix run =
    if drops_zeros style base suffix && list_any exceeds_octal run then significant run else run
