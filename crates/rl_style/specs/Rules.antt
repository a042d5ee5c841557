-- The rules of a style, each by its name.
use Rattle.std.specs.Prelude.{◌≢◌, ℕ, Bool, false, List, [], ◌∷◌, Option, None, codes}
use Rattle.rl_style.specs.Rewriting.{Rewrites}
use Rattle.rl_style.specs.declared.rules.Rule.{Rule}
use Rattle.rl_style.specs.declared.rules.Rule.TheVariants.{HexDigits, Underscores, LeadingZeros, SuffixSeparator, DigitGroups, FloatZero, ExponentLetter, ExponentPlus, EscapeDigits, CodeDigits, AsciiEscapes, NamedEscapes, QuoteEscapes, RawHashes, Raw, Hidden}
use Rattle.rl_style.specs.declared.style.Case.{Case}
use Rattle.rl_style.specs.declared.style.DigitGroups.{DigitGroups as Groups}
use Rattle.rl_style.specs.declared.style.Separator.{Separator}
use Rattle.rl_style.specs.declared.style.Style.{Style}

-- All rules of a style, in the order of the style's fields.
abbrev pub all_rules : List Rule
all_rules =
    HexDigits ∷ Underscores ∷ LeadingZeros ∷ SuffixSeparator ∷ DigitGroups ∷ FloatZero ∷ ExponentLetter ∷ ExponentPlus
    ∷ EscapeDigits ∷ CodeDigits ∷ AsciiEscapes ∷ NamedEscapes ∷ QuoteEscapes ∷ RawHashes ∷ Raw ∷ Hidden ∷ []

-- The name of a rule in configurations and in the package's setters.
abbrev pub rule_label : Rule → List ℕ
rule_label HexDigits = codes "hex_digits"
rule_label Underscores = codes "drop_underscores"
rule_label LeadingZeros = codes "drop_leading_zeros"
rule_label SuffixSeparator = codes "suffix_separator"
rule_label DigitGroups = codes "digit_groups"
rule_label FloatZero = codes "float_zero"
rule_label ExponentLetter = codes "exponent_letter"
rule_label ExponentPlus = codes "drop_exponent_plus"
rule_label EscapeDigits = codes "escape_digits"
rule_label CodeDigits = codes "fewest_escape_digits"
rule_label AsciiEscapes = codes "drop_ascii_escapes"
rule_label NamedEscapes = codes "named_escapes"
rule_label QuoteEscapes = codes "drop_quote_escapes"
rule_label RawHashes = codes "fewest_hashes"
rule_label Raw = codes "drop_raw"
rule_label Hidden = codes "escape_invisible"

-- ---- for its own rule, each function returns the style's field, and for other rules the field's default

abbrev only_hex_digits : Style → Rule → Option Case
only_hex_digits style HexDigits = style.hex_digits
only_hex_digits style _ = None

abbrev only_underscores : Style → Rule → Bool
only_underscores style Underscores = style.underscores
only_underscores style _ = false

abbrev only_leading_zeros : Style → Rule → Bool
only_leading_zeros style LeadingZeros = style.leading_zeros
only_leading_zeros style _ = false

abbrev only_suffix_separator : Style → Rule → Option Separator
only_suffix_separator style SuffixSeparator = style.suffix_separator
only_suffix_separator style _ = None

abbrev only_digit_groups : Style → Rule → Option Groups
only_digit_groups style DigitGroups = style.digit_groups
only_digit_groups style _ = None

abbrev only_float_zero : Style → Rule → Bool
only_float_zero style FloatZero = style.float_zero
only_float_zero style _ = false

abbrev only_exponent_letter : Style → Rule → Option Case
only_exponent_letter style ExponentLetter = style.exponent_letter
only_exponent_letter style _ = None

abbrev only_exponent_plus : Style → Rule → Bool
only_exponent_plus style ExponentPlus = style.exponent_plus
only_exponent_plus style _ = false

abbrev only_escape_digits : Style → Rule → Option Case
only_escape_digits style EscapeDigits = style.escape_digits
only_escape_digits style _ = None

abbrev only_code_digits : Style → Rule → Bool
only_code_digits style CodeDigits = style.code_digits
only_code_digits style _ = false

abbrev only_ascii_escapes : Style → Rule → Bool
only_ascii_escapes style AsciiEscapes = style.ascii_escapes
only_ascii_escapes style _ = false

abbrev only_named_escapes : Style → Rule → Bool
only_named_escapes style NamedEscapes = style.named_escapes
only_named_escapes style _ = false

abbrev only_quote_escapes : Style → Rule → Bool
only_quote_escapes style QuoteEscapes = style.quote_escapes
only_quote_escapes style _ = false

abbrev only_raw_hashes : Style → Rule → Bool
only_raw_hashes style RawHashes = style.raw_hashes
only_raw_hashes style _ = false

abbrev only_raw : Style → Rule → Bool
only_raw style Raw = style.raw
only_raw style _ = false

abbrev only_hidden : Style → Rule → Bool
only_hidden style Hidden = style.hidden
only_hidden style _ = false

-- The style in which only one rule of the given style is set.
abbrev pub only : Style → Rule → Style
only style rule = record {
  hex_digits = only_hex_digits style rule;
  underscores = only_underscores style rule;
  leading_zeros = only_leading_zeros style rule;
  suffix_separator = only_suffix_separator style rule;
  digit_groups = only_digit_groups style rule;
  float_zero = only_float_zero style rule;
  exponent_letter = only_exponent_letter style rule;
  exponent_plus = only_exponent_plus style rule;
  escape_digits = only_escape_digits style rule;
  code_digits = only_code_digits style rule;
  ascii_escapes = only_ascii_escapes style rule;
  named_escapes = only_named_escapes style rule;
  quote_escapes = only_quote_escapes style rule;
  raw_hashes = only_raw_hashes style rule;
  raw = only_raw style rule;
  hidden = only_hidden style rule;
}

-- The style changes the text of the literal `old`. `front` is the text before it.
abbrev pub Changes : Style → List ℕ → List ℕ → Type 0
Changes style front old = (new : List ℕ) × Rewrites style front old new × (new ≢ old)
