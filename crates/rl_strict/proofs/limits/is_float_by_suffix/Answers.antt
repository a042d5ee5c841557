use Rattle.rl_strict.proofs.Names.{both_ways, false, refl, rules, sym, IsUtf8, ◌∙◌}
use Rattle.rl_strict.proofs.FloatSuffixes.{float_decides, no_float, other_suffix, suffix_chars}
use Rattle.rl_strict.proofs.limits.is_float_by_suffix.Goals as goal

pub returns-in_default : goal.returns-in_default
returns-in_default c =
    let suffix : IsUtf8 c.skip_digits.result.rest.now = search rules in
    float_decides _ _ _ _ c.after_minus-number.ensures.value c.skip_digits.ensures.rest
    (sym c.begins_digit.ensures ∙ c.if-begins_digit.true) (
      λ h. absurd (both_ways false refl h),
      λ f. absurd (other_suffix _ suffix c.in_default.not-f32 c.in_default.not-f64 f),
    )

pub returns-in-f32 : goal.returns-in-f32
returns-in-f32 c = float_decides _ _ _ _ c.after_minus-number.ensures.value c.skip_digits.ensures.rest
    (sym c.begins_digit.ensures ∙ c.if-begins_digit.true) (λ h. suffix_chars _ c.in-f32.is, λ f. refl)

pub returns-in-f32-2 : goal.returns-in-f32-2
returns-in-f32-2 c = float_decides _ _ _ _ c.after_minus-number.ensures.value c.skip_digits.ensures.rest
    (sym c.begins_digit.ensures ∙ c.if-begins_digit.true) (λ h. suffix_chars _ c.in-f32.is, λ f. refl)

pub returns-else-begins_digit : goal.returns-else-begins_digit
returns-else-begins_digit c = no_float _ _ c.after_minus-number.ensures.value
    (sym c.begins_digit.ensures ∙ c.if-begins_digit.false)
