-- The values of settings, in terms of the text: of the attributes in it, and the texts of their literals.
use Rattle.std.specs.Prelude.{◌≡◌, ◌⊎◌, ℕ, Bool as Truth, List, [], ◌∷◌, All, Any, map, Option, Some, None, Result, Ok, Err, String, string_bytes}
use Rattle.std.specs.Str.{chars, IsUtf8}
use Rattle.rl_syntax.specs.declared.kind.Kind.{Kind}
use Rattle.rl_syntax.specs.declared.kind.Kind.TheVariants.{Str as StrKind, Int as IntKind, Float as FloatKind, Bool as BoolKind}
use Rattle.rl_syntax.specs.Reading.{Contents, Characters, Digits, Truth as TruthContents, Reads, HasContents}
use Rattle.rl_syntax.specs.Texts.{SpannedText}
use Rattle.rl_tokens.specs.declared.error.ErrorKind.TheVariants.{Memory}
use Rattle.rust_literals.specs.declared.lit.Lit.{Lit}
use Rattle.rl_attributes.specs.declared.attributes.Attrs.{Attrs}
use Rattle.rl_attributes.specs.declared.settings.Setting.{Setting}
use Rattle.rl_attributes.specs.declared.settings.SettingError.{SettingError}
use Rattle.rl_attributes.specs.declared.settings.SettingError.TheVariants.{Text, Missing}
use Rattle.rl_attributes.specs.AttributeParsing.{entries_of, attrs_end}
use Rattle.rl_attributes.specs.Attributes.{Attribute}
use Rattle.rl_attributes.specs.Entries.{attributes_of}
use Rattle.rl_attributes.specs.Settings.{IsUnsigned, RejectsSetValue, span_of}

-- The attributes of a list, each converted to an `Attribute`.
abbrev pub list_of : {A : Type 0} → Attrs A → List Attribute
list_of attrs = attributes_of (entries_of attrs)

-- ---- the names of attributes, and values without a suffix

-- The attribute has the name `name`.
abbrev pub IsNamed : List ℕ → Attribute → Type 0
IsNamed name attribute = attribute.name.text ≡ name

-- The name is an element of a list of names.
abbrev pub IsOneOf : List (List ℕ) → List ℕ → Type 0
IsOneOf [] name = ⊥
IsOneOf (n ∷ ns) name = (name ≡ n) ⊎ IsOneOf ns name

abbrev pub setting_names : List Setting → List (List ℕ)
setting_names settings = map (λ s. s.name.now) settings

-- Each attribute's name is an element of `names`.
abbrev pub AreNamedOf : List (List ℕ) → List Attribute → Type 0
AreNamedOf names list = All (λ a. IsOneOf names a.name.text) list

-- The literal's text is parsed without a suffix, or can't be parsed as a literal.
abbrev pub HasBareText : SpannedText → Type 0
HasBareText literal =
    (kind : Kind) (contents : Contents) (suffix : List ℕ)
    → Reads (chars literal.text) kind contents suffix → suffix ≡ []

-- No attribute of a list has a value with a suffix.
abbrev pub HaveBareTexts : List Attribute → Type 0
HaveBareTexts list = All (λ a. HasBareText a.literal) list

-- ---- the value that a name is set to

-- No attribute of a list has the name `name`.
abbrev pub IsUnset : List ℕ → List Attribute → Type 0
IsUnset name list = All (λ a. IsNamed name a → ⊥) list

-- An attribute has the name `name`, and the property `Is` holds for each attribute with this name.
pub record IsSetWith (name : List ℕ) (Is : Attribute → Type 0) (list : List Attribute) : Type 0 where
  pub named : Any (IsNamed name) list
  pub every : All (λ a. IsNamed name a → Is a) list

-- The property `Is` holds for each attribute with the name `name`. If no attribute has the name, `IsDefault` holds.
pub record IsSetOr (name : List ℕ) (Is : Attribute → Type 0) (IsDefault : Type 0) (list : List Attribute)
    : Type 0 where
  pub every : All (λ a. IsNamed name a → Is a) list
  pub unset : Any (IsNamed name) list ⊎ IsDefault

-- The attribute's literal is a string whose decoded value is the bytes `value`.
abbrev pub IsStringOf : List ℕ → Attribute → Type 0
IsStringOf value a = HasContents StrKind (chars a.literal.text) (Characters (chars value))

-- The attribute's literal is a `bool` with the value `value`.
abbrev pub IsTruthOf : Truth → Attribute → Type 0
IsTruthOf value a = HasContents BoolKind (chars a.literal.text) (TruthContents value)

-- The attribute's literal is an integer without a minus. Its value is `value`, and is at most `most`.
abbrev pub IsUnsignedOf : ℕ → ℕ → Attribute → Type 0
IsUnsignedOf most value a = IsUnsigned most value a.literal.text

-- The attribute's literal is an integer or a float with the digits `digits` in base ten, as bytes.
pub record HasNumberDigits (digits : List ℕ) (a : Attribute) : Type 0 where
  pub is_text : IsUtf8 digits
  pub number : HasContents IntKind (chars a.literal.text) (Digits (chars digits))
      ⊎ HasContents FloatKind (chars a.literal.text) (Digits (chars digits))

-- The name `name` is set to a string whose decoded value is the bytes `value`.
abbrev pub IsStringAt : List ℕ → List ℕ → List Attribute → Type 0
IsStringAt name value list = IsSetWith name (IsStringOf value) list

-- The name `name` is set to the `bool` `value`.
abbrev pub IsTruthAt : List ℕ → Truth → List Attribute → Type 0
IsTruthAt name value list = IsSetWith name (IsTruthOf value) list

-- The name `name` is set to an integer with the value `value`, from 0 to `most`.
abbrev pub IsUnsignedAt : List ℕ → ℕ → ℕ → List Attribute → Type 0
IsUnsignedAt name most value list = IsSetWith name (IsUnsignedOf most value) list

-- The name `name` is set to a number with the digits `digits` in base ten.
abbrev pub AreDigitsAt : List ℕ → List ℕ → List Attribute → Type 0
AreDigitsAt name digits list = IsSetWith name (HasNumberDigits digits) list

-- The name `name` is set to a number literal from whose digits the number type parses the number `value`.
abbrev pub IsNumberAt : {N E : Type 0} → (List ℕ → Result N E → Type 0) → List ℕ → N → List Attribute → Type 0
IsNumberAt gives name value list = (digits : List ℕ) × AreDigitsAt name digits list × gives digits (Ok value)

-- The name `name` is set to the `bool` `value`. Or no attribute has the name, and `value` is the default.
abbrev pub IsTruthOr : List ℕ → Truth → Truth → List Attribute → Type 0
IsTruthOr name default value list = IsSetOr name (IsTruthOf value) (value ≡ default) list

-- The name `name` is set to an integer with the value `value`, from 0 to `most`. Or no attribute has the name, and `value`
-- is the default.
abbrev pub IsUnsignedOr : List ℕ → ℕ → ℕ → ℕ → List Attribute → Type 0
IsUnsignedOr name most default value list = IsSetOr name (IsUnsignedOf most value) (value ≡ default) list

-- ---- the results of functions that return a setting's value

-- The error of settings is an allocation failure.
abbrev pub IsMemoryError : {A : Type 0} → SettingError A → Type 0
IsMemoryError (Text e) = e.kind ≡ Memory
IsMemoryError _ = ⊥

-- The result is a string with the characters of the bytes `value`, or the error for an allocation failure.
abbrev pub IsStringOrMemory : {A : Type 0} → List ℕ → Result (String A) (SettingError A) → Type 0
IsStringOrMemory value (Ok s) = chars (string_bytes s) ≡ chars value
IsStringOrMemory value (Err e) = IsMemoryError e

-- The result is `Some` string with the characters of the bytes `value`, or the error for an allocation failure.
abbrev pub IsSomeStringOrMemory : {A : Type 0} → List ℕ → Result (Option (String A)) (SettingError A) → Type 0
IsSomeStringOrMemory value (Ok (Some s)) = chars (string_bytes s) ≡ chars value
IsSomeStringOrMemory value (Ok None) = ⊥
IsSomeStringOrMemory value (Err e) = IsMemoryError e

-- The result is a number that the number type parses from `digits`. Or the result is an error, and the number type
-- rejects `digits`.
abbrev pub IsNumberOrRejected : {A N E : Type 0} → (List ℕ → Result N E → Type 0) → List ℕ
    → Result N (SettingError A) → Type 0
IsNumberOrRejected gives digits (Ok n) = gives digits (Ok n)
IsNumberOrRejected {E = E} gives digits (Err e) = (error : E) × gives digits (Err error)

-- The result is `Some` number that the number type parses from `digits`. Or the result is an error, and the number type
-- rejects `digits`.
abbrev pub IsSomeNumberOrRejected : {A N E : Type 0} → (List ℕ → Result N E → Type 0) → List ℕ
    → Result (Option N) (SettingError A) → Type 0
IsSomeNumberOrRejected gives digits (Ok (Some n)) = gives digits (Ok n)
IsSomeNumberOrRejected gives digits (Ok None) = ⊥
IsSomeNumberOrRejected {E = E} gives digits (Err e) = (error : E) × gives digits (Err error)

-- The error `e` is the error for a required setting: `Missing` if no attribute has the setting's name, or the error of
-- the value.
abbrev pub RejectsRequired : {A : Type 0} → Setting → Attrs A
    → (Lit A → SettingError A → Type 0) → SettingError A → Type 0
RejectsRequired setting attrs Rejects e =
    (IsUnset setting.name.now (list_of attrs) × (e ≡ Missing setting (attrs_end attrs)))
    ⊎ RejectsSetValue setting (entries_of attrs) Rejects e

-- ---- the positions of errors, by the name of a setting

-- The error `e` is at the value of an attribute with the name `name`.
abbrev pub IsErrorAtValue : {A : Type 0} → List ℕ → List Attribute → SettingError A → Type 0
IsErrorAtValue name list e = Any (λ a. IsNamed name a × (span_of e ≡ a.literal.span)) list

-- The error `e` is at the value of an attribute with the name `name`. Or no attribute has the name, and the error is at the
-- end of the settings.
abbrev pub IsErrorAtName : {A : Type 0} → List ℕ → Attrs A → SettingError A → Type 0
IsErrorAtName name attrs e =
    IsErrorAtValue name (list_of attrs) e ⊎ (IsUnset name (list_of attrs) × (span_of e ≡ attrs_end attrs))
