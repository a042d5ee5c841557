-- The error for a value that isn't as its setting expects is at the value, and so at the setting's name.
use Rattle.std.proofs.Common.{◌≡◌, ℕ, List, Option, Result, ap, inl, inr, refl}
use Rattle.rust_literals.specs.declared.lit.Lit.{Lit}
use Rattle.rust_literals.specs.declared.lit.Lit.TheVariants as lits
use Rattle.rust_literals.specs.LitParts.{lit_span}
use Rattle.rl_attributes.specs.declared.settings.Setting.{Setting}
use Rattle.rl_attributes.specs.declared.settings.SettingError.{SettingError}
use Rattle.rl_attributes.specs.declared.attributes.Entry.{Entry}
use Rattle.rl_attributes.specs.declared.attributes.Attrs.{Attrs}
use Rattle.rl_attributes.specs.AttributeParsing.{entries_of}
use Rattle.rl_attributes.specs.Entries.{attribute_of, attributes_of}
use Rattle.rl_attributes.specs.Settings.{IsOtherKind, RejectsSetValue, RejectsNumber, RejectsString, RejectsTruth, RejectsUnsigned, span_of}
use Rattle.rl_attributes.specs.TextSettings.{IsErrorAtName, IsErrorAtValue, IsNamed, RejectsRequired}
use Rattle.rl_attributes.proofs.TextLemmas.{any_map}

pub a_rejected_number_is_at_the_value : {A N E : Type 0} (gives : List ℕ → Result N E → Type 0) (output : E → Option (List ℕ)) (s : Setting)
    (l : Lit A) (e : SettingError A) → RejectsNumber gives output s l e → span_of e ≡ lit_span l
a_rejected_number_is_at_the_value gives output s (lits.Int l) e (why, is, r) = rw is r.told.span_is
a_rejected_number_is_at_the_value gives output s (lits.Float l) e (why, is, r) = rw is r.told.span_is
a_rejected_number_is_at_the_value gives output s (lits.Str l) e is = rw is refl
a_rejected_number_is_at_the_value gives output s (lits.ByteStr l) e is = rw is refl
a_rejected_number_is_at_the_value gives output s (lits.CStr l) e is = rw is refl
a_rejected_number_is_at_the_value gives output s (lits.Byte l) e is = rw is refl
a_rejected_number_is_at_the_value gives output s (lits.Char l) e is = rw is refl
a_rejected_number_is_at_the_value gives output s (lits.Bool l) e is = rw is refl
a_rejected_number_is_at_the_value gives output s (lits.Verbatim l) e is = rw is refl

pub string_at : {A : Type 0} (s : Setting) (l : Lit A) (e : SettingError A) → RejectsString s l e
    → span_of e ≡ lit_span l
string_at s (lits.Str l) e is = rw is refl
string_at s (lits.ByteStr l) e is = rw is refl
string_at s (lits.CStr l) e is = rw is refl
string_at s (lits.Byte l) e is = rw is refl
string_at s (lits.Char l) e is = rw is refl
string_at s (lits.Int l) e is = rw is refl
string_at s (lits.Float l) e is = rw is refl
string_at s (lits.Bool l) e is = rw is refl
string_at s (lits.Verbatim l) e is = rw is refl

pub truth_at : {A : Type 0} (s : Setting) (l : Lit A) (e : SettingError A) → RejectsTruth s l e
    → span_of e ≡ lit_span l
truth_at s (lits.Str l) e is = rw is refl
truth_at s (lits.ByteStr l) e is = rw is refl
truth_at s (lits.CStr l) e is = rw is refl
truth_at s (lits.Byte l) e is = rw is refl
truth_at s (lits.Char l) e is = rw is refl
truth_at s (lits.Int l) e is = rw is refl
truth_at s (lits.Float l) e is = rw is refl
truth_at s (lits.Bool l) e is = absurd is
truth_at s (lits.Verbatim l) e is = rw is refl

other_at : {A : Type 0} (s : Setting) (l : Lit A) (e : SettingError A) → IsOtherKind s l e → span_of e ≡ lit_span l
other_at s (lits.Str l) e is = rw is refl
other_at s (lits.ByteStr l) e is = rw is refl
other_at s (lits.CStr l) e is = rw is refl
other_at s (lits.Byte l) e is = rw is refl
other_at s (lits.Char l) e is = rw is refl
other_at s (lits.Int l) e is = rw is refl
other_at s (lits.Float l) e is = rw is refl
other_at s (lits.Bool l) e is = rw is refl
other_at s (lits.Verbatim l) e is = rw is refl

pub unsigned_at : {A : Type 0} (most : ℕ) (s : Setting) (l : Lit A) (e : SettingError A) → RejectsUnsigned most s l e
    → span_of e ≡ lit_span l
unsigned_at most s l e r = other_at s l e r.0

pub a_rejected_value_has_its_name : {A : Type 0} (Rejects : Lit A → SettingError A → Type 0) (s : Setting)
    (es : List (Entry A)) (e : SettingError A) → ((l : Lit A) → Rejects l e → span_of e ≡ lit_span l)
    → RejectsSetValue s es Rejects e → IsErrorAtValue s.name.now (attributes_of es) e
a_rejected_value_has_its_name Rejects s es e at (k, x, lt, same, j) =
    any_map attribute_of (λ a. IsNamed s.name.now a × (span_of e ≡ a.literal.span)) es
    (k, x, lt, same, (j.0, at x.value j.1))

pub a_rejected_required_setting_has_its_name : {A : Type 0} (Rejects : Lit A → SettingError A → Type 0) (s : Setting)
    (attrs : Attrs A) (e : SettingError A) → ((l : Lit A) → Rejects l e → span_of e ≡ lit_span l)
    → RejectsRequired s attrs Rejects e → IsErrorAtName s.name.now attrs e
a_rejected_required_setting_has_its_name Rejects s attrs e at (inl (none, is)) = inr (none, ap span_of is)
a_rejected_required_setting_has_its_name Rejects s attrs e at (inr r) =
    inl (a_rejected_value_has_its_name Rejects s (entries_of attrs) e at r)
