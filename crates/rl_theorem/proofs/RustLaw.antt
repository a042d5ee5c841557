-- Rust's grammar is the rules of the Reference.
use Rattle.rl_syntax.proofs.Common.{◌⊎◌, ℕ, true, not, eqb, List, refl, inl, inr, is_ascii}
use Rattle.std.specs.Prelude.{◌↔◌}
use Rattle.rl_syntax.specs.declared.kind.Kind.{Kind}
use Rattle.rl_syntax.specs.declared.kind.Kind.TheVariants.{Str, ByteStr, CStr, Byte, Char, Int, Float, Bool as BoolKind}
use Rattle.rl_syntax.specs.Reading.{Contents}
use Rattle.rl_syntax.specs.Strict.{StrictCooked, StrictRaw, IsRawInside}
use Rattle.rl_theorem.specs.Notation.{Rule, Many, ◌∣◌, maybe}
use Rattle.rl_theorem.specs.RustRules.{raw_string_literal, raw_byte_string_literal, raw_c_string_literal, suffix, StrictIsByTheRules}
use Rattle.rl_theorem.proofs.RuleParts.{all_pass}
use Rattle.rl_theorem.proofs.QuotedRules.{char_content, byte_content, string_content, byte_string_content, c_string_content, By, frame, cooked_rule, char_between, byte_between, string_between, byte_string_between, c_string_between, by_other}
use Rattle.rl_theorem.proofs.RawRules.{raw_rule}
use Rattle.rl_theorem.proofs.NumberRules.{int_rule, float_rule}
use Rattle.rl_theorem.proofs.TruthRule.{truth_rule, strict_truth}

-- A string is cooked or raw, by the rules too.
either : (kind : Kind) (a b : Rule) (text : List ℕ) (contents : Contents) (x : List ℕ)
    → StrictCooked text kind contents x ↔ By kind a text contents x → StrictRaw text kind contents x ↔ By kind b text contents x
    → (StrictCooked text kind contents x ⊎ StrictRaw text kind contents x) ↔ By kind (a ∣ b) text contents x
either kind a b text contents x cooked raw = (to, from)
  where
    to : StrictCooked text kind contents x ⊎ StrictRaw text kind contents x → By kind (a ∣ b) text contents x
    to (inl s) = by_other (maybe suffix) a (a ∣ b) kind text contents x (λ u v m. inl m) (cooked.0 s)
    to (inr s) = by_other (maybe suffix) b (a ∣ b) kind text contents x (λ u v m. inr m) (raw.0 s)

    from : By kind (a ∣ b) text contents x → StrictCooked text kind contents x ⊎ StrictRaw text kind contents x
    from l = elim l.is_body [
      | inl m ↦ inl (cooked.1 (record { body = l.body; value = l.value; text_is = l.text_is; is_body = m; is_suffix = l.is_suffix; contents_is = l.contents_is }))
      | inr m ↦ inr (raw.1 (record { body = l.body; value = l.value; text_is = l.text_is; is_body = m; is_suffix = l.is_suffix; contents_is = l.contents_is }))
    ]

-- A literal in single quotes is never raw.
single : (kind : Kind) (a : Rule) (text : List ℕ) (contents : Contents) (x : List ℕ) → ((cs : List ℕ) → IsRawInside kind cs → ⊥)
    → StrictCooked text kind contents x ↔ By kind a text contents x
    → (StrictCooked text kind contents x ⊎ StrictRaw text kind contents x) ↔ By kind a text contents x
single kind a text contents x never cooked = (to, λ l. inl (cooked.1 l))
  where
    to : StrictCooked text kind contents x ⊎ StrictRaw text kind contents x → By kind a text contents x
    to (inl s) = cooked.0 s
    to (inr s) = absurd (never s.inside s.allowed)

pub strict_is_by_the_rules : StrictIsByTheRules
strict_is_by_the_rules text Str v x =
    either Str (frame Str (Many string_content)) raw_string_literal text v x
    (cooked_rule Str (Many string_content) string_between (λ v. refl) text v x)
    (raw_rule Str (λ c. true) raw_string_literal (λ cs h. all_pass cs) (λ cs h. tt) (λ v. refl) (λ u x v m. m) (λ u x w m. (w, m, refl)) text v x)
strict_is_by_the_rules text ByteStr v x =
    either ByteStr (frame ByteStr (Many byte_string_content)) raw_byte_string_literal text v x
    (cooked_rule ByteStr (Many byte_string_content) byte_string_between (λ v. refl) text v x)
    (raw_rule ByteStr is_ascii raw_byte_string_literal (λ cs h. h) (λ cs h. h) (λ v. refl) (λ u x v m. m) (λ u x w m. (w, m, refl)) text v x)
strict_is_by_the_rules text CStr v x =
    either CStr (frame CStr (Many c_string_content)) raw_c_string_literal text v x
    (cooked_rule CStr (Many c_string_content) c_string_between (λ v. refl) text v x)
    (raw_rule CStr (λ c. not (eqb c 0)) raw_c_string_literal (λ cs h. h) (λ cs h. h) (λ v. refl) (λ u x v m. (v, m, refl)) (λ u x w m. m) text v x)
strict_is_by_the_rules text Byte v x =
    single Byte (frame Byte byte_content) text v x (λ cs h. h) (cooked_rule Byte byte_content byte_between (λ v. refl) text v x)
strict_is_by_the_rules text Char v x =
    single Char (frame Char char_content) text v x (λ cs h. h) (cooked_rule Char char_content char_between (λ v. refl) text v x)
strict_is_by_the_rules text Int v x = int_rule text v x
strict_is_by_the_rules text Float v x = float_rule text v x
strict_is_by_the_rules text BoolKind v x =
    let same = strict_truth text v x in
    let rule = truth_rule (maybe suffix) (inl (refl, refl)) text v x in
    (λ s. rule.0 (same.0 s), λ l. same.1 (rule.1 l))
