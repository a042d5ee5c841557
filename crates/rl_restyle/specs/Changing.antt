-- The rules that change a literal. Texts are lists of characters.
use Rattle.std.specs.Prelude.{◌≡◌, ◌⊎◌, ℕ, Bool, List, [], ◌∷◌, ◌++◌, Option, is_some, option_map}
use Rattle.rl_style.specs.Rules.{Changes, only}
use Rattle.rl_style.specs.declared.rules.Rule.{Rule as StyleRule}
use Rattle.rl_style.specs.declared.rules.Rule.TheVariants as style
use Rattle.rl_style.specs.declared.style.DigitGroups.{DigitGroups}
use Rattle.rl_style.specs.declared.style.Style.{Style}
use Rattle.rl_restyle.specs.Rules.{settable_rules}
use Rattle.rl_restyle.specs.declared.rule.Rule.{Rule}
use Rattle.rl_restyle.specs.declared.rule.Rule.TheVariants.{HexDigits, DropUnderscores, DropLeadingZeros, SuffixSeparator, BinaryGroups, OctalGroups, DecimalGroups, HexadecimalGroups, MinDigits, FloatZero, ExponentLetter, DropExponentPlus, EscapeDigits, FewestEscapeDigits, DropAsciiEscapes, NamedEscapes, DropQuoteEscapes, FewestHashes, DropRaw, EscapeInvisible}

-- The rule of a style that a rule of a configuration sets, or sets a part of.
abbrev pub style_rule : Rule → StyleRule
style_rule HexDigits = style.HexDigits
style_rule DropUnderscores = style.Underscores
style_rule DropLeadingZeros = style.LeadingZeros
style_rule SuffixSeparator = style.SuffixSeparator
style_rule BinaryGroups = style.DigitGroups
style_rule OctalGroups = style.DigitGroups
style_rule DecimalGroups = style.DigitGroups
style_rule HexadecimalGroups = style.DigitGroups
style_rule MinDigits = style.DigitGroups
style_rule FloatZero = style.FloatZero
style_rule ExponentLetter = style.ExponentLetter
style_rule DropExponentPlus = style.ExponentPlus
style_rule EscapeDigits = style.EscapeDigits
style_rule FewestEscapeDigits = style.CodeDigits
style_rule DropAsciiEscapes = style.AsciiEscapes
style_rule NamedEscapes = style.NamedEscapes
style_rule DropQuoteEscapes = style.QuoteEscapes
style_rule FewestHashes = style.RawHashes
style_rule DropRaw = style.Raw
style_rule EscapeInvisible = style.Hidden

-- The part of the digit groups that a rule sets: the group size of one base, with `min_digits`. The group sizes of other bases are 0.
abbrev pub own_groups : Rule → DigitGroups → DigitGroups
own_groups BinaryGroups g = record { binary = g.binary; octal = 0; decimal = 0; hexadecimal = 0; least = g.least }
own_groups OctalGroups g = record { binary = 0; octal = g.octal; decimal = 0; hexadecimal = 0; least = g.least }
own_groups DecimalGroups g = record { binary = 0; octal = 0; decimal = g.decimal; hexadecimal = 0; least = g.least }
own_groups HexadecimalGroups g =
    record { binary = 0; octal = 0; decimal = 0; hexadecimal = g.hexadecimal; least = g.least }
own_groups _ g = record { binary = 0; octal = 0; decimal = 0; hexadecimal = 0; least = g.least }

abbrev groups_alone : Rule → Option DigitGroups → Option DigitGroups
groups_alone rule groups = option_map (own_groups rule) groups

-- The style that has the rule with its value in the given style, and no other rule. A rule for digit groups is combined with
-- `min_digits`.
abbrev pub rule_alone : Style → Rule → Style
rule_alone given rule =
    record (only given (style_rule rule)) { digit_groups = groups_alone rule (only given (style_rule rule)).digit_groups }

-- The style sets the rule. For a rule for digit groups, this is the case if the style has any digit groups.
abbrev pub is_set : Style → Rule → Bool
is_set given HexDigits = is_some given.hex_digits
is_set given DropUnderscores = given.underscores
is_set given DropLeadingZeros = given.leading_zeros
is_set given SuffixSeparator = is_some given.suffix_separator
is_set given BinaryGroups = is_some given.digit_groups
is_set given OctalGroups = is_some given.digit_groups
is_set given DecimalGroups = is_some given.digit_groups
is_set given HexadecimalGroups = is_some given.digit_groups
is_set given MinDigits = is_some given.digit_groups
is_set given FloatZero = given.float_zero
is_set given ExponentLetter = is_some given.exponent_letter
is_set given DropExponentPlus = given.exponent_plus
is_set given EscapeDigits = is_some given.escape_digits
is_set given FewestEscapeDigits = given.code_digits
is_set given DropAsciiEscapes = given.ascii_escapes
is_set given NamedEscapes = given.named_escapes
is_set given DropQuoteEscapes = given.quote_escapes
is_set given FewestHashes = given.raw_hashes
is_set given DropRaw = given.raw
is_set given EscapeInvisible = given.hidden

-- The rule alone changes the literal `old`. `front` is the text before the literal.
abbrev pub ChangesAlone : Style → List ℕ → List ℕ → Rule → Type 0
ChangesAlone given front old rule = Changes (rule_alone given rule) front old

-- `rules` is the rule if it alone changes the literal `old`, and no rule otherwise.
abbrev pub IsChangingRule : Style → List ℕ → List ℕ → Rule → List Rule → Type 0
IsChangingRule given front old rule rules =
    (ChangesAlone given front old rule × (rules ≡ rule ∷ []))
    ⊎ ((ChangesAlone given front old rule → ⊥) × (rules ≡ []))

-- `rules` are those of the rules `all` each of which alone changes the literal `old`, in order.
abbrev pub AreChangingAmong : Style → List ℕ → List ℕ → List Rule → List Rule → Type 0
AreChangingAmong given front old [] rules = rules ≡ []
AreChangingAmong given front old (rule ∷ all) rules =
    (own others : List Rule) × IsChangingRule given front old rule own × AreChangingAmong given front old all others
    × (rules ≡ own ++ others)

-- The rules are those of the style each of which alone changes the literal `old`.
abbrev pub AreChangingRules : Style → List ℕ → List ℕ → List Rule → Type 0
AreChangingRules given front old rules = AreChangingAmong given front old settable_rules rules

-- `after` are the rules `before`, and also the rule `rule` if this rule alone changes the literal `old`.
abbrev pub TakesRule : Style → List ℕ → List ℕ → Rule → List Rule → List Rule → Type 0
TakesRule given front old rule before after =
    (own : List Rule) × IsChangingRule given front old rule own × (after ≡ before ++ own)
