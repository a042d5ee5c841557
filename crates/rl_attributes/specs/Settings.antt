-- The check of attributes against the settings that a program accepts, the values of settings, and their errors.
use Rattle.std.specs.Prelude.{◌≡◌, ◌≢◌, ◌⊎◌, ◌≤◌, ℕ, Bool as Truth, List, [], ◌∷◌, ◌++◌, All, Any, Option, Some, Result, String, IfSome, IsTrue, IsFalse, codes, string_bytes}
use Rattle.std.specs.List.{list_any}
use Rattle.std.specs.Option.{IsSomeAnd}
use Rattle.std.specs.Str.{bytes_eq, chars}
use Rattle.rl_syntax.specs.declared.span.Span.{Span}
use Rattle.rl_tokens.specs.declared.error.Error.{Error}
use Rattle.rl_syntax.specs.declared.kind.Kind.TheVariants.{Str as StrKind, Int as IntKind, Float as FloatKind}
use Rattle.rl_tokens.specs.Errors.{message_of, memory_at}
use Rattle.rl_syntax.specs.Numbers.{IntReads, NoSign}
use Rattle.rl_syntax.specs.Reading.{Characters, HasContents}
use Rattle.rust_literals.specs.declared.lit.Lit.{Lit}
use Rattle.rust_literals.specs.declared.lit.Lit.TheVariants.{Str, Int, Float, Bool, Verbatim}
use Rattle.rust_literals.specs.Base10.{AreBase10Digits, IsMadeOf, IsRejectedBy}
use Rattle.rust_literals.specs.Literals.{kind_of, token_of}
use Rattle.rust_literals.specs.LitParts.{HasLitSuffix, lit_span}
use Rattle.rl_attributes.specs.declared.attributes.Entry.{Entry}
use Rattle.rl_attributes.specs.Entries.{HasName}
use Rattle.rl_attributes.specs.declared.settings.Setting.{Setting}
use Rattle.rl_attributes.specs.declared.settings.SettingError.{SettingError}
use Rattle.rl_attributes.specs.declared.settings.SettingError.TheVariants.{Text, Unknown, Suffix, Kind, Malformed, Value, Missing}

-- Whether one of the settings of a list has the name `name`.
abbrev pub knows : List Setting → List ℕ → Truth
knows settings name = list_any (λ s. bytes_eq s.name.now name) settings

-- The literal has a suffix that isn't empty.
pub record HasSomeLitSuffix {A : Type 0} (literal : Lit A) : Type 0 where
  pub suffix : List ℕ
  pub has : HasLitSuffix literal suffix
  pub some : suffix ≢ []

-- The attribute `entry` is accepted: one of the settings has the attribute's name, and the attribute's value has no
-- suffix.
pub record IsAccepted {A : Type 0} (settings : List Setting) (entry : Entry A) : Type 0 where
  pub known : IsTrue (knows settings (string_bytes entry.name))
  pub bare : HasLitSuffix entry.value []

-- The error `e` is `Unknown` at the attribute's name, which is the name of no setting.
pub record HasUnknownName {A : Type 0} (settings : List Setting) (entry : Entry A)
    (e : SettingError A) : Type 0 where
  pub unknown : IsFalse (knows settings (string_bytes entry.name))
  pub error : e ≡ Unknown entry.span

-- The error `e` is `Suffix` at the attribute's value. The attribute's name is known, and its value has a suffix.
pub record HasSuffixedValue {A : Type 0} (settings : List Setting) (entry : Entry A)
    (e : SettingError A) : Type 0 where
  pub known : IsTrue (knows settings (string_bytes entry.name))
  pub suffixed : HasSomeLitSuffix entry.value
  pub error : e ≡ Suffix (lit_span entry.value)

-- The errors of checking one attribute: an unknown name, or a suffix of the value.
abbrev pub IsRejectedEntry : {A : Type 0} → List Setting → Entry A → SettingError A → Type 0
IsRejectedEntry settings entry e = HasUnknownName settings entry e ⊎ HasSuffixedValue settings entry e

-- The error `e` is the error for the first attribute that has an unknown name, or a value with a suffix.
pub record RejectsFirst {A : Type 0} (settings : List Setting) (entries : List (Entry A))
    (e : SettingError A) : Type 0 where
  pub earlier : List (Entry A)
  pub entry : Entry A
  pub later : List (Entry A)
  pub entries_are : entries ≡ earlier ++ (entry ∷ later)
  pub accepted : All (IsAccepted settings) earlier
  pub rejected : IsRejectedEntry settings entry e

-- ---- the value of a setting, and the errors of a value

-- The option `found` is the value of a setting. If it is `Some`, an attribute has the setting's name, and the property
-- `Holds` relates the value of each attribute with that name to the value in `found`. If it is `None`, no attribute has
-- the setting's name.
pub record IsSetAs {A V : Type 0} (setting : Setting) (entries : List (Entry A))
    (Holds : Lit A → V → Type 0) (found : Option V) : Type 0 where
  pub every : All (λ e. HasName setting.name.now e → IsSomeAnd found (Holds e.value)) entries
  pub named : IfSome found (λ v. Any (HasName setting.name.now) entries)

-- The error `e` is the error for an attribute with the setting's name whose value is rejected. `Rejects` relates a
-- value to its error.
abbrev pub RejectsSetValue : {A : Type 0} → Setting → List (Entry A)
    → (Lit A → SettingError A → Type 0) → SettingError A → Type 0
RejectsSetValue setting entries Rejects e =
    Any (λ entry. HasName setting.name.now entry × Rejects entry.value e) entries

-- The literal is a string literal with the decoded value `value`.
abbrev pub IsStringSet : {A B : Type 0} → Lit A → String B → Type 0
IsStringSet (Str l) value = HasContents StrKind (chars l.text) (Characters (chars (string_bytes value)))
IsStringSet _ value = ⊥

-- The literal is a `bool` literal with the value `value`.
abbrev pub IsTruthSet : {A : Type 0} → Lit A → Truth → Type 0
IsTruthSet (Bool l) value = l.value ≡ value
IsTruthSet _ value = ⊥

-- The text is an integer literal without a minus, with any suffix. Its value is `value`, and is at most `most`.
pub record IsUnsigned (most value : ℕ) (text : List ℕ) : Type 0 where
  pub suffix : List ℕ
  pub reads : IntReads (chars text) NoSign value suffix
  pub small : value ≤ most

-- The literal is an integer literal with the value `value`, from 0 to `most`.
abbrev pub IsUnsignedSet : {A : Type 0} → ℕ → Lit A → ℕ → Type 0
IsUnsignedSet most l value = (kind_of l ≡ Some IntKind) × IsUnsigned most value (token_of l).text

-- The literal is an integer or a float, and `value` is the number that the number type parses from its digits in base
-- ten.
abbrev pub IsNumberSet : {A N E : Type 0} → (List ℕ → Result N E → Type 0) → Lit A → N → Type 0
IsNumberSet gives (Int l) value = IsMadeOf gives (AreBase10Digits IntKind l.text) value
IsNumberSet gives (Float l) value = IsMadeOf gives (AreBase10Digits FloatKind l.text) value
IsNumberSet gives _ value = ⊥

-- The error `e` is the error for a literal of another kind than expected: `Kind` at the literal, or `Malformed` if the
-- literal is `Verbatim`.
abbrev pub IsOtherKind : {A : Type 0} → Setting → Lit A → SettingError A → Type 0
IsOtherKind setting (Verbatim l) e = e ≡ Malformed setting l.span
IsOtherKind setting other e = e ≡ Kind setting (lit_span other)

-- The error `e` is the error for a setting that must be a string: the value isn't a string literal, or an allocation
-- failed for its decoded value.
abbrev pub RejectsString : {A : Type 0} → Setting → Lit A → SettingError A → Type 0
RejectsString setting (Str l) e = e ≡ Text (memory_at l.span)
RejectsString setting other e = IsOtherKind setting other e

-- The error `e` is the error for a setting that must be a `bool`: the value isn't a `bool` literal.
abbrev pub RejectsTruth : {A : Type 0} → Setting → Lit A → SettingError A → Type 0
RejectsTruth setting (Bool l) e = ⊥
RejectsTruth setting other e = IsOtherKind setting other e

-- The error `e` is the error for a setting that must be an integer from 0 to `most`: the value isn't an integer literal,
-- or is one with a minus or with a value above `most`.
abbrev pub RejectsUnsigned : {A : Type 0} → ℕ → Setting → Lit A → SettingError A → Type 0
RejectsUnsigned most setting l e = IsOtherKind setting l e × ((value : ℕ) → IsUnsignedSet most l value → ⊥)

-- The error `e` is the error of a number type that rejects a literal's digits in base ten. The error's span is `span`.
abbrev pub RejectsNumberDigits : {A N E : Type 0} → (List ℕ → Result N E → Type 0)
    → (E → Option (List ℕ)) → Setting → (List ℕ → Type 0) → Span → SettingError A → Type 0
RejectsNumberDigits {A = A} gives output setting AreDigits span e =
    (why : Error A) × (e ≡ Value setting why) × IsRejectedBy gives output AreDigits span why

-- The error `e` is the error for a setting that must be a number: the value isn't an integer or a float, or the number
-- type rejects its digits.
abbrev pub RejectsNumber : {A N E : Type 0} → (List ℕ → Result N E → Type 0)
    → (E → Option (List ℕ)) → Setting → Lit A → SettingError A → Type 0
RejectsNumber gives output setting (Int l) e =
    RejectsNumberDigits gives output setting (AreBase10Digits IntKind l.text) l.span e
RejectsNumber gives output setting (Float l) e =
    RejectsNumberDigits gives output setting (AreBase10Digits FloatKind l.text) l.span e
RejectsNumber gives output setting other e = IsOtherKind setting other e

-- ---- the span and the message of an error of settings

-- The span of an error of settings.
abbrev pub span_of : {A : Type 0} → SettingError A → Span
span_of (Text e) = e.span
span_of (Unknown span) = span
span_of (Suffix span) = span
span_of (Kind setting span) = span
span_of (Malformed setting span) = span
span_of (Value setting e) = e.span
span_of (Missing setting span) = span

-- The text that describes a setting in messages: its name, and its expected value.
abbrev pub expectation : Setting → List ℕ
expectation setting = setting.name.now ++ (codes ": expected " ++ setting.expected.now)

-- The message of an error of settings.
abbrev pub setting_message : {A : Type 0} → SettingError A → List ℕ
setting_message (Text e) = message_of e.kind
setting_message (Unknown span) = codes "unknown name"
setting_message (Suffix span) = codes "unexpected suffix"
setting_message (Kind setting span) = expectation setting
setting_message (Malformed setting span) = setting.name.now ++ codes ": malformed literal"
setting_message (Value setting e) = expectation setting ++ (codes ": " ++ message_of e.kind)
setting_message (Missing setting span) = codes "missing " ++ expectation setting
