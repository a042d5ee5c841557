use Rattle.std.proofs.Common.{◌≡◌, List, inl, inr, refl}
use Rattle.rust_literals.specs.declared.lit.Lit.{Lit}
use Rattle.rust_literals.specs.LitParts.{lit_span}
use Rattle.rl_attributes.specs.declared.attributes.Entry.{Entry}
use Rattle.rl_attributes.specs.declared.settings.Setting.{Setting}
use Rattle.rl_attributes.specs.declared.settings.SettingError.{SettingError}
use Rattle.rl_attributes.specs.Entries.{attributes_of}
use Rattle.rl_attributes.specs.Settings.{RejectsSetValue, RejectsString, RejectsTruth, RejectsUnsigned, span_of}
use Rattle.rl_attributes.specs.TextSettings.{IsErrorAtValue}
use Rattle.rl_attributes.proofs.Theorems.{a_rejected_bool_is_at_the_value, a_rejected_required_setting_has_its_name, a_rejected_string_is_at_the_value, a_rejected_unsigned_is_at_the_value, a_rejected_value_has_its_name}
use Rattle.rl_uses.proofs.jobs.job_of.Goals as goal

pub returns-in-Err-required_string-clause-exactly : goal.returns-in-Err-required_string-clause-exactly
returns-in-Err-required_string-clause-exactly g c name tries reports m =
    c.in-Err-required_string.ensures.exactly name m.name_is

pub returns-in-Err-unsigned_or-clause-exactly : goal.returns-in-Err-unsigned_or-clause-exactly
returns-in-Err-unsigned_or-clause-exactly g c name tries reports m =
    absurd (let e = c.in-Err-unsigned_or.ensures.exactly tries m.tries_is in cc)

pub returns-in-Err-bool_or-clause-exactly : goal.returns-in-Err-bool_or-clause-exactly
returns-in-Err-bool_or-clause-exactly g c name tries reports m =
    absurd (let e = c.in-Err-bool_or.ensures.exactly reports m.reports_is in cc)

pub returns-in-Ok-bool_or-clause-exactly : goal.returns-in-Ok-bool_or-clause-exactly
returns-in-Ok-bool_or-clause-exactly g c name tries reports m =
    let t = c.in-Ok-unsigned_or.ensures.exactly tries m.tries_is in
    let r = c.in-Ok-bool_or.ensures.exactly reports m.reports_is in
    (c.in-Ok-required_string.ensures.exactly name m.name_is, cc, cc)

pub returns-in-Err-clause-rejected : goal.returns-in-Err-clause-rejected
returns-in-Err-clause-rejected g c = record { why = inl (_, c.in-Err.ensures.first, refl) }

pub returns-in-Err-required_string-clause-rejected : goal.returns-in-Err-required_string-clause-rejected
returns-in-Err-required_string-clause-rejected g c = record {
  why = inr (inl (
      a_rejected_required_setting_has_its_name (RejectsString _) _ c.args.attrs.now _
      (λ l r. a_rejected_string_is_at_the_value _ l _ r) c.in-Err-required_string.ensures.rejected
      ));
}

-- The error of a setting with a default is at the value of the setting's name.
named : {A : Type 0} (Rejects : Setting → Lit A → SettingError A → Type 0) (s : Setting) (es : List (Entry A)) (e : SettingError A)
    → ((l : Lit A) → Rejects s l e → span_of e ≡ lit_span l) → RejectsSetValue s es (Rejects s) e
    → IsErrorAtValue s.name.now (attributes_of es) e
named Rejects s es e at r = a_rejected_value_has_its_name (Rejects s) s es e at r

pub returns-in-Err-unsigned_or-clause-rejected : goal.returns-in-Err-unsigned_or-clause-rejected
returns-in-Err-unsigned_or-clause-rejected g c = record {
  why = inr (inr (inl (
      named (RejectsUnsigned 100) _ _ _ (λ l r. a_rejected_unsigned_is_at_the_value 100 _ l _ r)
      c.in-Err-unsigned_or.ensures.rejected
      )));
}

pub returns-in-Err-bool_or-clause-rejected : goal.returns-in-Err-bool_or-clause-rejected
returns-in-Err-bool_or-clause-rejected g c = record {
  why = inr (inr (inr (
      named RejectsTruth _ _ _ (λ l r. a_rejected_bool_is_at_the_value _ l _ r) c.in-Err-bool_or.ensures.rejected
      )));
}
