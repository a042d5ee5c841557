-- The theorems that the functions of src/laws.rt state, by name.
use Rattle.std.specs.Prelude.{◌≡◌, ℕ, Bool as Truth, List, [], Some, None, String, IsTrue, string_bytes}
use Rattle.std.specs.Str.{chars}
use Rattle.rl_syntax.specs.declared.kind.Kind.{Kind}
use Rattle.rl_syntax.specs.declared.kind.Kind.TheVariants.{Str as StrKind, Bool as BoolKind}
use Rattle.rl_syntax.specs.Reading.{Contents, Characters, Truth as TruthContents, Reads, HasNoReading}
use Rattle.rust_literals.specs.declared.lit.Lit.{Lit}
use Rattle.rust_literals.specs.Literals.{kind_of, token_of}
use Rattle.rust_literals.specs.LitParts.{HasLitSuffix, lit_span}
use Rattle.rl_attributes.specs.declared.settings.Setting.{Setting}
use Rattle.rl_attributes.specs.declared.settings.SettingError.{SettingError}
use Rattle.rl_attributes.specs.Entries.{IsReadLit}
use Rattle.rl_attributes.specs.Settings.{knows, IsStringSet, IsTruthSet, RejectsString, RejectsTruth, RejectsUnsigned, span_of}
use Rattle.rl_attributes.specs.TextSettings.{IsOneOf, setting_names, IsMemoryError}

-- A theorem: if an attribute's value is a string without a suffix, the text of the value is parsed as that string.
abbrev pub AStringIsParsedFromItsText : (A B : Type 0) → Type 0
AStringIsParsedFromItsText A B =
    (l : Lit A) (v : String B) → IsStringSet l v → HasLitSuffix l []
    → Reads (chars (token_of l).text) StrKind (Characters (chars (string_bytes v))) []

-- A theorem: if an attribute's value is a `bool`, the text of the value is parsed as that `bool`.
abbrev pub ABoolIsParsedFromItsText : (A : Type 0) → Type 0
ABoolIsParsedFromItsText A =
    (l : Lit A) (b : Truth) → IsTruthSet l b → Reads (chars (token_of l).text) BoolKind (TruthContents b) []

-- A theorem: the kind of an attribute's value is the kind as which the text of the value is parsed.
abbrev pub TheTextTellsTheKind : (A : Type 0) → Type 0
TheTextTellsTheKind A =
    (l : Lit A) → IsReadLit l → (k : Kind) (v : Contents) (x : List ℕ)
    → Reads (chars (token_of l).text) k v x → kind_of l ≡ Some k

-- A theorem: the suffix of an attribute's value is the suffix with which the text of the value is parsed.
abbrev pub TheTextTellsTheSuffix : (A : Type 0) → Type 0
TheTextTellsTheSuffix A =
    (l : Lit A) → IsReadLit l → (k : Kind) (v : Contents) (x y : List ℕ)
    → Reads (chars (token_of l).text) k v x → HasLitSuffix l y → y ≡ x

-- A theorem: if an attribute's value has no kind, and so is reported as malformed, the text of the value isn't a valid
-- literal or is an integer above 128 bits.
abbrev pub AMalformedLiteralHasNoReading : (A : Type 0) → Type 0
AMalformedLiteralHasNoReading A =
    (l : Lit A) → IsReadLit l → kind_of l ≡ None → HasNoReading (chars (token_of l).text)

-- A theorem: the only error for a setting whose value is a string, and which must be a string, is an allocation
-- failure.
abbrev pub OnlyAnAllocationFailureRejectsAString : (A : Type 0) → Type 0
OnlyAnAllocationFailureRejectsAString A =
    (s : Setting) (l : Lit A) (e : SettingError A) → kind_of l ≡ Some StrKind → RejectsString s l e
    → IsMemoryError e

-- A theorem: there is no error for a setting whose value is a `bool`, and which must be a `bool`.
abbrev pub ABoolIsAccepted : (A : Type 0) → Type 0
ABoolIsAccepted A =
    (s : Setting) (l : Lit A) (e : SettingError A) → kind_of l ≡ Some BoolKind → RejectsTruth s l e → ⊥

-- A theorem: a name is known to a list of settings exactly if one of the settings has that name.
abbrev pub KnownNamesAreTheSettings : Type 0
KnownNamesAreTheSettings =
    (settings : List Setting) (name : List ℕ)
    → (IsTrue (knows settings name) → IsOneOf (setting_names settings) name)
    × (IsOneOf (setting_names settings) name → IsTrue (knows settings name))

-- A theorem: the error for a value that must be a string is at the value.
abbrev pub ARejectedStringIsAtTheValue : (A : Type 0) → Type 0
ARejectedStringIsAtTheValue A =
    (s : Setting) (l : Lit A) (e : SettingError A) → RejectsString s l e → span_of e ≡ lit_span l

-- A theorem: the error for a value that must be a `bool` is at the value.
abbrev pub ARejectedBoolIsAtTheValue : (A : Type 0) → Type 0
ARejectedBoolIsAtTheValue A =
    (s : Setting) (l : Lit A) (e : SettingError A) → RejectsTruth s l e → span_of e ≡ lit_span l

-- A theorem: the error for a value that must be an integer from 0 to `most` is at the value.
abbrev pub ARejectedUnsignedIsAtTheValue : (A : Type 0) → Type 0
ARejectedUnsignedIsAtTheValue A =
    (most : ℕ) (s : Setting) (l : Lit A) (e : SettingError A) → RejectsUnsigned most s l e → span_of e ≡ lit_span l
