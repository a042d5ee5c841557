-- The style that a configuration describes, and the errors of an invalid configuration.
use Rattle.std.specs.Prelude.{◌≡◌, ◌≢◌, ◌⊎◌, ℕ, ⊤, ◌==◌, Bool, true, false, ◌&&◌, List, [], ◌∷◌, Option, Some, None, if◌then◌else◌}
use denote.Ref.{Bor}
use Rattle.std.specs.Str.{chars}
use Rattle.rl_lexer.specs.Cursors.{CursorState}
use Rattle.rl_lexer.specs.Skipping.{Skipped}
use Rattle.rl_cursors.specs.declared.next_literals.NextLiteral.{NextLiteral}
use Rattle.rl_cursors.specs.declared.entries.DottedName.{DottedName}
use Rattle.rl_cursors.specs.declared.entries.NextEntry.{NextEntry}
use Rattle.rl_cursors.specs.declared.entries.EntryRejection.{EntryRejection}
use Rattle.rl_cursors.specs.EntrySteps.{TakesEntry, RejectsNextEntry}
use Rattle.rl_style.specs.declared.style.Case.{Case}
use Rattle.rl_style.specs.declared.style.Case.TheVariants.{Lower}
use Rattle.rl_style.specs.declared.style.Separator.{Separator}
use Rattle.rl_style.specs.declared.style.DigitGroups.{DigitGroups}
use Rattle.rl_style.specs.declared.style.Style.{Style}
use Rattle.rl_restyle.specs.declared.rule.Rule.{Rule}
use Rattle.rl_restyle.specs.declared.rule.Rule.TheVariants.{HexDigits, DropUnderscores, DropLeadingZeros, SuffixSeparator, BinaryGroups, OctalGroups, DecimalGroups, HexadecimalGroups, MinDigits, FloatZero, ExponentLetter, DropExponentPlus, EscapeDigits, FewestEscapeDigits, DropAsciiEscapes, NamedEscapes, DropQuoteEscapes, FewestHashes, DropRaw, EscapeInvisible}
use Rattle.rl_restyle.specs.declared.style_error.StyleErrorKind.{StyleErrorKind}
use Rattle.rl_restyle.specs.declared.style_error.StyleErrorKind.TheVariants.{Syntax, Unknown, Repeated, Expected}
use Rattle.rl_restyle.specs.declared.style_error.StyleError.{StyleError}
use Rattle.rl_restyle.specs.declared.value.Value.{Value}
use Rattle.rl_restyle.specs.declared.value.Value.TheVariants.{Truth, Size, CaseOf, SeparatorOf}
use Rattle.rl_restyle.specs.Rules.{rule_name, rule_number, expected_of}
use Rattle.rl_restyle.specs.Values.{value_of}

-- ---- the entries of a configuration

-- A rule, and the value that an entry sets it to.
pub record Setting : Type 0 where
  pub rule : Rule
  pub value : Value

abbrev pub setting : Rule → Value → Setting
setting rule value = record { rule = rule; value = value }

-- The value that a list of settings gives a rule, or `None` if the list doesn't set the rule.
abbrev pub value_in : List Setting → Rule → Option Value
value_in [] rule = None
value_in (s ∷ ss) rule = if rule_number s.rule == rule_number rule then Some s.value else value_in ss rule

-- The entry sets the rule with the entry's name to a value. No earlier entry sets the rule.
pub record SetsRule (before : List Setting) (entry : NextEntry) (s : Setting) : Type 0 where
  pub named : entry.name.text.now ≡ rule_name s.rule
  pub is_new : value_in before s.rule ≡ None
  pub value : value_of (expected_of s.rule) entry.value ≡ Some s.value

-- The entries between two positions of the cursor set rules. The list has the settings of these entries in reverse
-- order: the last entry comes first.
pub data HoldsSettings (start : CursorState) : List Setting → CursorState → Type 0 where
  HoldsNoSetting : HoldsSettings start [] start
  HoldsOneMore : {before : List Setting} {t new : CursorState} (s : Setting) (entry : NextEntry)
      → HoldsSettings start before t → TakesEntry t entry new → SetsRule before entry s → HoldsSettings start (s ∷ before) new

-- The cursor is at the first entry of the configuration, after white space and comments.
abbrev pub BeginsEntries : List ℕ → CursorState → Type 0
BeginsEntries text start = (start.text ≡ text) × Skipped (chars text) (chars start.rest)

-- ---- the style that a configuration describes

abbrev pub truth_in : Option Value → Bool
truth_in (Some (Truth b)) = b
truth_in _ = false

abbrev pub size_in : Option Value → ℕ
size_in (Some (Size n)) = n
size_in _ = 0

abbrev pub case_in : Option Value → Option Case
case_in (Some (CaseOf case)) = Some case
case_in _ = None

abbrev pub separator_in : Option Value → Option Separator
separator_in (Some (SeparatorOf separator)) = Some separator
separator_in _ = None

-- The sizes of digit groups and the least number of digits, or `None` if all of these numbers are 0.
abbrev pub some_groups : DigitGroups → Option DigitGroups
some_groups g = if (g.binary == 0) && (g.octal == 0) && (g.decimal == 0) && (g.hexadecimal == 0) && (g.least == 0)
    then None else Some g

abbrev pub groups_set_by : (Rule → Option Value) → Option DigitGroups
groups_set_by look = some_groups (record {
  binary = size_in (look BinaryGroups);
  octal = size_in (look OctalGroups);
  decimal = size_in (look DecimalGroups);
  hexadecimal = size_in (look HexadecimalGroups);
  least = size_in (look MinDigits);
})

-- The style that a function from rules to values describes. A rule isn't set if the function returns `None` for it.
abbrev pub style_set_by : (Rule → Option Value) → Style
style_set_by look = record {
  hex_digits = case_in (look HexDigits);
  underscores = truth_in (look DropUnderscores);
  leading_zeros = truth_in (look DropLeadingZeros);
  suffix_separator = separator_in (look SuffixSeparator);
  digit_groups = groups_set_by look;
  float_zero = truth_in (look FloatZero);
  exponent_letter = case_in (look ExponentLetter);
  exponent_plus = truth_in (look DropExponentPlus);
  escape_digits = case_in (look EscapeDigits);
  code_digits = truth_in (look FewestEscapeDigits);
  ascii_escapes = truth_in (look DropAsciiEscapes);
  named_escapes = truth_in (look NamedEscapes);
  quote_escapes = truth_in (look DropQuoteEscapes);
  raw_hashes = truth_in (look FewestHashes);
  raw = truth_in (look DropRaw);
  hidden = truth_in (look EscapeInvisible);
}

-- The configuration describes the style: it has entries up to its end, each of which sets a different rule.
pub record SaysStyle (text : List ℕ) (style : Style) : Type 0 where
  pub start : CursorState
  pub settings : List Setting
  pub at_end : CursorState
  pub begins : BeginsEntries text start
  pub holds : HoldsSettings start settings at_end
  pub ends : at_end.rest ≡ []
  pub style_is : style ≡ style_set_by (value_in settings)

-- ---- errors of a configuration

-- The error has the kind `kind`. The error's name and range are the text and the range of the entry's name.
abbrev pub IsAtName : StyleErrorKind → DottedName → StyleError → Type 0
IsAtName kind name e = (e.kind ≡ kind) × (e.name ≡ Some name.text) × (e.lo ≡ name.lo) × (e.hi ≡ name.hi)

-- The text of a name, or `None` without a name.
abbrev pub name_text : Option DottedName → Option (Bor (List ℕ))
name_text None = None
name_text (Some name) = Some name.text

-- The byte offset where a literal begins, including its minus.
abbrev pub literal_lo : NextLiteral → ℕ
literal_lo l = lo_after l.minus_at l.token.lo
  where
    lo_after : Option ℕ → ℕ → ℕ
    lo_after None lo = lo
    lo_after (Some at) lo = at

-- The error reports that the name of an entry isn't the name of a rule.
abbrev pub IsUnknown : DottedName → StyleError → Type 0
IsUnknown name e = ((rule : Rule) → name.text.now ≡ rule_name rule → ⊥) × IsAtName Unknown name e

-- The error reports that an earlier entry has set the rule with the entry's name.
abbrev pub IsRepeated : List Setting → DottedName → StyleError → Type 0
IsRepeated before name e = (rule : Rule) × (name.text.now ≡ rule_name rule) × (value_in before rule ≢ None)
    × IsAtName Repeated name e

-- The error reports that the literal of an entry isn't a value that the entry's rule may have. No earlier entry has set
-- the rule.
pub record IsUnexpected (before : List Setting) (entry : NextEntry) (e : StyleError) : Type 0 where
  pub rule : Rule
  pub named : entry.name.text.now ≡ rule_name rule
  pub is_new : value_in before rule ≡ None
  pub no_value : value_of (expected_of rule) entry.value ≡ None
  pub kind : e.kind ≡ Expected (expected_of rule)
  pub name : e.name ≡ Some entry.name.text
  pub lo : e.lo ≡ literal_lo entry.value
  pub hi : e.hi ≡ entry.value.token.hi

-- The error `e` is the error for an entry that sets no rule.
abbrev pub RejectsEntry : List Setting → NextEntry → StyleError → Type 0
RejectsEntry before entry e =
    IsUnknown entry.name e ⊎ IsRepeated before entry.name e ⊎ IsUnexpected before entry e

-- No earlier entry has set the rule with the name. This holds too if there is no name.
abbrev pub IsNewName : List Setting → Option DottedName → Type 0
IsNewName before None = ⊤
IsNewName before (Some name) = (rule : Rule) → name.text.now ≡ rule_name rule → value_in before rule ≡ None

-- The error reports a repeated name: an earlier entry has set the rule with the name.
abbrev pub RepeatsRule : List Setting → Option DottedName → StyleError → Type 0
RepeatsRule before None e = ⊥
RepeatsRule before (Some name) e = IsRepeated before name e

-- The error at a position without a valid entry: a repeated name if the entry has one, and the missing part of the entry
-- otherwise.
abbrev pub RejectsRest : List Setting → EntryRejection → StyleError → Type 0
RejectsRest before r e = RepeatsRule before r.name e
    ⊎ (IsNewName before r.name × (e.kind ≡ Syntax r.error.kind) × (e.name ≡ name_text r.name)
    × (e.lo ≡ r.error.lo) × (e.hi ≡ r.error.hi))

-- The error `e` is at the cursor's position `t`. The entries before that position have the settings `before`.
abbrev pub IsWrongAt : List Setting → CursorState → StyleError → Type 0
IsWrongAt before t e =
    ((entry : NextEntry) × (new : CursorState) × TakesEntry t entry new × RejectsEntry before entry e)
    ⊎ ((r : EntryRejection) × (t.rest ≢ []) × RejectsNextEntry t r × RejectsRest before r e)

-- The error is at the first entry that sets no rule, or at the first text that isn't an entry.
pub record RejectsStyle (text : List ℕ) (e : StyleError) : Type 0 where
  pub start : CursorState
  pub before : List Setting
  pub stops : CursorState
  pub begins : BeginsEntries text start
  pub holds : HoldsSettings start before stops
  pub wrong : IsWrongAt before stops e

-- The style that applies without a configuration.
abbrev pub default_settings : Style
default_settings = record {
  hex_digits = None;
  underscores = false;
  leading_zeros = false;
  suffix_separator = None;
  digit_groups = None;
  float_zero = false;
  exponent_letter = Some Lower;
  exponent_plus = false;
  escape_digits = None;
  code_digits = false;
  ascii_escapes = false;
  named_escapes = false;
  quote_escapes = true;
  raw_hashes = true;
  raw = false;
  hidden = false;
}
