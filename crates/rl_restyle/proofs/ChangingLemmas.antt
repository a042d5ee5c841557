-- Lemmas about the rules that change a literal.
use Rattle.rl_syntax.proofs.Common.{◌≡◌, ◌≤◌, ◌+◌, ◌*◌, ℕ, List, cond, is_ascii_digit, [], ◌∷◌, ◌++◌, ◌∙◌, Option, Some, None, ap, append-nil, append_assoc, arith, chars, false, inr, length, refl, subst, sym, true}
use Rattle.rl_syntax.specs.Texts.{first_passes}
use Rattle.std.specs.Prelude.{Bool, is_some, option_map}
use Rattle.std.proofs.lemmas.Bool.{false≢true}
use Rattle.rl_style.proofs.Theorems.{no_rule_changes_nothing}
use Rattle.rl_style.specs.Rewriting.{HasNoRule, room_for}
use Rattle.rl_style.specs.declared.style.Case.{Case}
use Rattle.rl_style.specs.declared.style.DigitGroups.{DigitGroups}
use Rattle.rl_style.specs.declared.style.Separator.{Separator}
use Rattle.rl_style.specs.declared.style.Style.{Style}
use Rattle.rl_restyle.specs.Changing.{AreChangingAmong, AreChangingRules, ChangesAlone, TakesRule, is_set, own_groups, rule_alone}
use Rattle.rl_restyle.specs.Rules.{settable_rules}
use Rattle.rl_restyle.specs.declared.rule.Rule.{Rule}
use Rattle.rl_restyle.specs.declared.rule.Rule.TheVariants.{HexDigits, DropUnderscores, DropLeadingZeros, SuffixSeparator, BinaryGroups, OctalGroups, DecimalGroups, HexadecimalGroups, MinDigits, FloatZero, ExponentLetter, DropExponentPlus, EscapeDigits, FewestEscapeDigits, DropAsciiEscapes, NamedEscapes, DropQuoteEscapes, FewestHashes, DropRaw, EscapeInvisible}

-- The style without rules.
abbrev keep : Style
keep = record {
  hex_digits = None;
  underscores = false;
  leading_zeros = false;
  suffix_separator = None;
  digit_groups = None;
  float_zero = false;
  exponent_letter = None;
  exponent_plus = false;
  escape_digits = None;
  code_digits = false;
  ascii_escapes = false;
  named_escapes = false;
  quote_escapes = false;
  raw_hashes = false;
  raw = false;
  hidden = false;
}

no_rule_in_keep : HasNoRule keep
no_rule_in_keep = record {
  hex_digits = refl;
  underscores = refl;
  leading_zeros = refl;
  suffix_separator = refl;
  digit_groups = refl;
  float_zero = refl;
  exponent_letter = refl;
  exponent_plus = refl;
  escape_digits = refl;
  code_digits = refl;
  ascii_escapes = refl;
  named_escapes = refl;
  quote_escapes = refl;
  raw_hashes = refl;
  raw = refl;
  hidden = refl;
}

no_value : {A : Type 0} (x : Option A) → is_some x ≡ false → x ≡ None
no_value None unset = refl
no_value (Some x) unset = absurd (false≢true (sym unset))

no_groups : (style : Style) (rule : Rule) → is_some style.digit_groups ≡ false
    → record keep { digit_groups = option_map (own_groups rule) style.digit_groups } ≡ keep
no_groups style rule unset =
    ap (λ (z : Option DigitGroups). record keep { digit_groups = option_map (own_groups rule) z })
    (no_value style.digit_groups unset)

-- A rule that the style doesn't set is, alone, the style without rules.
keeps_alone : (style : Style) (rule : Rule) → is_set style rule ≡ false → rule_alone style rule ≡ keep
keeps_alone style HexDigits unset = ap (λ (z : Option Case). record keep { hex_digits = z }) (no_value style.hex_digits unset)
keeps_alone style DropUnderscores unset = ap (λ (z : Bool). record keep { underscores = z }) unset
keeps_alone style DropLeadingZeros unset = ap (λ (z : Bool). record keep { leading_zeros = z }) unset
keeps_alone style SuffixSeparator unset = ap (λ (z : Option Separator). record keep { suffix_separator = z }) (no_value style.suffix_separator unset)
keeps_alone style BinaryGroups unset = no_groups style BinaryGroups unset
keeps_alone style OctalGroups unset = no_groups style OctalGroups unset
keeps_alone style DecimalGroups unset = no_groups style DecimalGroups unset
keeps_alone style HexadecimalGroups unset = no_groups style HexadecimalGroups unset
keeps_alone style MinDigits unset = no_groups style MinDigits unset
keeps_alone style FloatZero unset = ap (λ (z : Bool). record keep { float_zero = z }) unset
keeps_alone style ExponentLetter unset = ap (λ (z : Option Case). record keep { exponent_letter = z }) (no_value style.exponent_letter unset)
keeps_alone style DropExponentPlus unset = ap (λ (z : Bool). record keep { exponent_plus = z }) unset
keeps_alone style EscapeDigits unset = ap (λ (z : Option Case). record keep { escape_digits = z }) (no_value style.escape_digits unset)
keeps_alone style FewestEscapeDigits unset = ap (λ (z : Bool). record keep { code_digits = z }) unset
keeps_alone style DropAsciiEscapes unset = ap (λ (z : Bool). record keep { ascii_escapes = z }) unset
keeps_alone style NamedEscapes unset = ap (λ (z : Bool). record keep { named_escapes = z }) unset
keeps_alone style DropQuoteEscapes unset = ap (λ (z : Bool). record keep { quote_escapes = z }) unset
keeps_alone style FewestHashes unset = ap (λ (z : Bool). record keep { raw_hashes = z }) unset
keeps_alone style DropRaw unset = ap (λ (z : Bool). record keep { raw = z }) unset
keeps_alone style EscapeInvisible unset = ap (λ (z : Bool). record keep { hidden = z }) unset

-- A rule that the style doesn't set doesn't change the literal.
pub rule_unset : (style : Style) (front old : List ℕ) (rule : Rule) (rules : List Rule) → is_set style rule ≡ false
    → TakesRule style front old rule rules rules
rule_unset style front old rule rules unset = (
  [],
  inr (
    (λ changes. changes.2 (no_rule_changes_nothing (rule_alone style rule) front old changes.0
        (subst HasNoRule (sym (keeps_alone style rule unset)) no_rule_in_keep) changes.1)),
    refl,
  ),
  sym (append-nil rules),
)

pub rule_kept : (style : Style) (front old : List ℕ) (rule : Rule) (rules : List Rule)
    → (ChangesAlone style front old rule → ⊥) → TakesRule style front old rule rules rules
rule_kept style front old rule rules unchanged = ([], inr (unchanged, refl), sym (append-nil rules))

hides_alone : (style : Style) (rule : Rule) → (rule_alone style rule).hidden ≡ true → style.hidden ≡ true
hides_alone style EscapeInvisible hides = hides
hides_alone style rule hides = absurd (cc)

-- For a rule alone, a buffer for the whole style is large enough.
pub room_alone : (style : Style) (rule : Rule) (text : List ℕ) → room_for (rule_alone style rule) text ≤ room_for style text
unfolding room_for
room_alone style rule text = go (first_passes is_ascii_digit (chars text)) (rule_alone style rule).hidden style.hidden
    (hides_alone style rule)
  where
    go : (d alone whole : Bool) → (alone ≡ true → whole ≡ true)
        → length text * cond d 2 (cond alone 4 1) + 1 ≤ length text * cond d 2 (cond whole 4 1) + 1
    go true alone whole hides = omega arith
    go false true true hides = omega arith
    go false true false hides = absurd (false≢true (hides refl))
    go false false true hides = omega arith
    go false false false hides = omega arith

-- The invariant of the loop over the rules: the taken rules, with the changing ones among `rest`, are all changing rules.
pub record AreTaken (style : Style) (front old : List ℕ) (rest taken : List Rule) : Type 0 where
  pub goes : (others : List Rule) → AreChangingAmong style front old rest others
      → AreChangingRules style front old (taken ++ others)

pub taken_none : (style : Style) (front old : List ℕ) (rest taken : List Rule) → rest ≡ settable_rules → taken ≡ []
    → AreTaken style front old rest taken
taken_none style front old rest taken is none = record {
  goes = λ others are. subst (λ (z : List Rule). AreChangingRules style front old (z ++ others)) (sym none)
      (subst (λ (all : List Rule). AreChangingAmong style front old all others) is are);
}

-- The loop's invariant stays true after one more rule.
pub taken_step : (style : Style) (front old : List ℕ) (rest after taken more : List Rule) (rule : Rule)
    → rest ≡ rule ∷ after → AreTaken style front old rest taken → TakesRule style front old rule taken more
    → AreTaken style front old after more
taken_step style front old rest after taken more rule is are (own, is_own, pushed) = record {
  goes = λ others left. subst (AreChangingRules style front old)
      (sym (ap (λ (z : List Rule). z ++ others) pushed ∙ append_assoc taken own others))
      (are.goes (own ++ others) (subst (λ (z : List Rule). AreChangingAmong style front old z (own ++ others)) (sym is)
      (own, others, is_own, left, refl)));
}

-- After the last rule, the taken rules are all changing rules.
pub taken_all : (style : Style) (front old : List ℕ) (rest taken : List Rule) → length rest ≡ 0
    → AreTaken style front old rest taken → AreChangingRules style front old taken
taken_all style front old [] taken none are =
    subst (AreChangingRules style front old) (append-nil taken) (are.goes [] refl)
taken_all style front old (rule ∷ rest) taken none are = absurd (omega (arith, none))
