-- A source whose hexadecimal digits are written in lower case.
use Rattle.std.specs.Prelude.{ℕ, false, List, Some, None}
use Rattle.rl_style.specs.declared.style.Case.TheVariants.{Lower}
use Rattle.rl_style.specs.declared.style.Style.{Style}
use Rattle.rl_restyle.specs.declared.edit.Choice.{Choice}
use Rattle.rl_restyle.specs.declared.edit.Macros.TheVariants.{Skip}
use Rattle.rl_restyle.specs.Clean.{HasCleanTokens}
use Rattle.rl_restyle.specs.Edits.{IsRestyleError, Restyles}
use Rattle.rl_uses.specs.declared.formats.FormatError.{FormatError}
use Rattle.rl_uses.specs.declared.formats.FormatError.TheVariants.{Source, Token}

-- Hexadecimal digits are written in lower case, and nothing else is changed.
abbrev pub lower_hex_style : Style
lower_hex_style = record {
  hex_digits = Some Lower;
  underscores = false;
  leading_zeros = false;
  suffix_separator = None;
  digit_groups = None;
  float_zero = false;
  exponent_letter = None;
  exponent_plus = false;
  escape_digits = None;
  code_digits = false;
  ascii_escapes = false;
  named_escapes = false;
  quote_escapes = false;
  raw_hashes = false;
  raw = false;
  hidden = false;
}

abbrev pub IsLowered : List ℕ → List ℕ → Type 0
IsLowered old new = Restyles lower_hex_style (record { macros = Skip; kinds = None }) old new

-- The source can't be lexed or an allocation failed, or one of its tokens has an error.
abbrev pub FailsToFormat : List ℕ → FormatError → Type 0
FailsToFormat source (Source e) = IsRestyleError source e
FailsToFormat source Token = HasCleanTokens source → ⊥
