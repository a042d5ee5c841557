-- The meaning of a text as a job's settings. A text is its bytes here, except as an argument of `chars`, which returns its
-- characters.
use Rattle.std.specs.Prelude.{◌≡◌, ◌⊎◌, ℕ, Bool as Truth, false, List, [], ◌∷◌, Result, codes, length, string_bytes}
use Rattle.std.specs.Result.{MatchResult}
use Rattle.std.specs.Str.{chars}
use Rattle.rl_tokens.specs.declared.error.Error.{Error}
use Rattle.rl_tokens.specs.Whole.{place_at}
use Rattle.rl_attributes.specs.declared.attributes.Attrs.{Attrs}
use Rattle.rl_attributes.specs.declared.attributes.Entry.{Entry}
use Rattle.rl_attributes.specs.declared.settings.Setting.{Setting}
use Rattle.rl_attributes.specs.declared.settings.SettingError.{SettingError}
use Rattle.rl_attributes.specs.declared.settings.SettingError.TheVariants.{Text}
use Rattle.rl_attributes.specs.AttributeParsing.{entries_of, attrs_end}
use Rattle.rl_attributes.specs.Attributes.{Attribute, AreAttributesOf, RejectsAttributeText}
use Rattle.rl_attributes.specs.Settings.{RejectsFirst}
use Rattle.rl_attributes.specs.TextSettings.{AreNamedOf, HaveBareTexts, IsErrorAtName, IsErrorAtValue, IsMemoryError, IsStringAt, IsTruthOr, IsUnsignedOr, list_of, setting_names}
use Rattle.rl_uses.specs.declared.jobs.Job.{Job}

abbrev pub job_names : List (List ℕ)
job_names = codes "name" ∷ codes "tries" ∷ codes "reports" ∷ []

-- The attributes are a job's settings, without unknown names and suffixes, and set the values `name`, `tries` and `reports`.
pub record IsJob (list : List Attribute) (name : List ℕ) (tries : ℕ) (reports : Truth) : Type 0 where
  pub known : AreNamedOf job_names list
  pub bare : HaveBareTexts list
  pub name_is : IsStringAt (codes "name") name list
  pub tries_is : IsUnsignedOr (codes "tries") 100 3 tries list
  pub reports_is : IsTruthOr (codes "reports") false reports list

-- The text is a job's settings, and sets the values `name`, `tries` and `reports`.
pub record IsJobText (text : List ℕ) (file : ℕ) (name : List ℕ) (tries : ℕ) (reports : Truth) : Type 0 where
  pub list : List Attribute
  pub are : AreAttributesOf (chars text) file list
  pub job : IsJob list name tries reports

-- The result is a job's settings with these values, or the error for an allocation failure.
abbrev pub IsJobOrMemory : {A : Type 0} → List ℕ → ℕ → Truth → Result (Job A) (SettingError A) → Type 0
IsJobOrMemory name tries reports result = MatchResult result
    (λ job. (chars (string_bytes job.name) ≡ chars name) × (job.tries ≡ tries) × (job.reports ≡ reports)) IsMemoryError

-- The error is that of the first attribute with an unknown name or a suffix.
abbrev pub IsFirstOther : {A : Type 0} → List (Entry A) → SettingError A → Type 0
IsFirstOther entries e = (settings : List Setting) × RejectsFirst settings entries e × (setting_names settings ≡ job_names)

-- The attributes aren't a job's settings, or an allocation failed for the value of one of them.
pub record RejectsJob {A : Type 0} (attrs : Attrs A) (e : SettingError A) : Type 0 where
  pub why : IsFirstOther (entries_of attrs) e ⊎ IsErrorAtName (codes "name") attrs e
      ⊎ IsErrorAtValue (codes "tries") (list_of attrs) e ⊎ IsErrorAtValue (codes "reports") (list_of attrs) e

-- The text is settings, but not a job's.
pub record RejectsJobAttributes {A : Type 0} (text : List ℕ) (file : ℕ) (e : SettingError A) : Type 0 where
  pub attrs : Attrs A
  pub are : AreAttributesOf (chars text) file (list_of attrs)
  pub end : attrs_end attrs ≡ place_at file (length text)
  pub rejects : RejectsJob attrs e

-- The error of a text that isn't a job's settings, or an allocation failure.
abbrev pub RejectsJobText : {A : Type 0} → List ℕ → ℕ → SettingError A → Type 0
RejectsJobText {A} text file e =
    ((why : Error A) × (e ≡ Text why) × RejectsAttributeText (chars text) file (length text) why)
    ⊎ RejectsJobAttributes text file e
