-- The rules of a style: their names in a configuration, and the values that each may have.
use Rattle.std.specs.Prelude.{ℕ, List, [], ◌∷◌, codes}
use Rattle.rl_restyle.specs.declared.rule.Rule.{Rule}
use Rattle.rl_restyle.specs.declared.rule.Rule.TheVariants.{HexDigits, DropUnderscores, DropLeadingZeros, SuffixSeparator, BinaryGroups, OctalGroups, DecimalGroups, HexadecimalGroups, MinDigits, FloatZero, ExponentLetter, DropExponentPlus, EscapeDigits, FewestEscapeDigits, DropAsciiEscapes, NamedEscapes, DropQuoteEscapes, FewestHashes, DropRaw, EscapeInvisible}
use Rattle.rl_restyle.specs.declared.style_error.Expected.{Expected}
use Rattle.rl_restyle.specs.declared.style_error.Expected.TheVariants.{Truth, Size, Case, Separator}

-- All rules that a configuration can set, in the order of their variants.
abbrev pub settable_rules : List Rule
settable_rules =
    HexDigits ∷ DropUnderscores ∷ DropLeadingZeros ∷ SuffixSeparator ∷ BinaryGroups ∷ OctalGroups ∷ DecimalGroups
    ∷ HexadecimalGroups ∷ MinDigits ∷ FloatZero ∷ ExponentLetter ∷ DropExponentPlus ∷ EscapeDigits ∷ FewestEscapeDigits
    ∷ DropAsciiEscapes ∷ NamedEscapes ∷ DropQuoteEscapes ∷ FewestHashes ∷ DropRaw ∷ EscapeInvisible ∷ []

-- The name of a rule in a configuration.
abbrev pub rule_name : Rule → List ℕ
rule_name HexDigits = codes "hex_digits"
rule_name DropUnderscores = codes "drop_underscores"
rule_name DropLeadingZeros = codes "drop_leading_zeros"
rule_name SuffixSeparator = codes "suffix_separator"
rule_name BinaryGroups = codes "binary_groups"
rule_name OctalGroups = codes "octal_groups"
rule_name DecimalGroups = codes "decimal_groups"
rule_name HexadecimalGroups = codes "hexadecimal_groups"
rule_name MinDigits = codes "min_digits"
rule_name FloatZero = codes "float_zero"
rule_name ExponentLetter = codes "exponent_letter"
rule_name DropExponentPlus = codes "drop_exponent_plus"
rule_name EscapeDigits = codes "escape_digits"
rule_name FewestEscapeDigits = codes "fewest_escape_digits"
rule_name DropAsciiEscapes = codes "drop_ascii_escapes"
rule_name NamedEscapes = codes "named_escapes"
rule_name DropQuoteEscapes = codes "drop_quote_escapes"
rule_name FewestHashes = codes "fewest_hashes"
rule_name DropRaw = codes "drop_raw"
rule_name EscapeInvisible = codes "escape_invisible"

-- The values that a rule may have in a configuration.
abbrev pub expected_of : Rule → Expected
expected_of HexDigits = Case
expected_of SuffixSeparator = Separator
expected_of BinaryGroups = Size
expected_of OctalGroups = Size
expected_of DecimalGroups = Size
expected_of HexadecimalGroups = Size
expected_of MinDigits = Size
expected_of ExponentLetter = Case
expected_of EscapeDigits = Case
expected_of _ = Truth

-- The index of a rule in the list of settable rules.
abbrev pub rule_number : Rule → ℕ
rule_number HexDigits = 0
rule_number DropUnderscores = 1
rule_number DropLeadingZeros = 2
rule_number SuffixSeparator = 3
rule_number BinaryGroups = 4
rule_number OctalGroups = 5
rule_number DecimalGroups = 6
rule_number HexadecimalGroups = 7
rule_number MinDigits = 8
rule_number FloatZero = 9
rule_number ExponentLetter = 10
rule_number DropExponentPlus = 11
rule_number EscapeDigits = 12
rule_number FewestEscapeDigits = 13
rule_number DropAsciiEscapes = 14
rule_number NamedEscapes = 15
rule_number DropQuoteEscapes = 16
rule_number FewestHashes = 17
rule_number DropRaw = 18
rule_number EscapeInvisible = 19
