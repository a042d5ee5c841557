-- The position in the file of the first backslash of a path that is the value of a setting.
use Rattle.std.specs.Prelude.{◌≡◌, ◌==◌, ℕ, ◌+◌, Bool, List, All, Option, Some, None, MatchOption, codes}
use Rattle.std.specs.List.{position}
use Rattle.std.specs.Str.{chars}
use Prim.Native.Char.{code}
use Rattle.rl_syntax.specs.declared.kind.Kind.TheVariants.{Str as StrKind}
use Rattle.rl_syntax.specs.declared.span.Span.{Span}
use Rattle.rl_syntax.specs.Reading.{Characters, HasContents}
use Rattle.rl_syntax.specs.Texts.{SpannedText}
use Rattle.rl_quoted.specs.Places.{IsSpanOf}
use Rattle.rust_literals.specs.declared.lit.Lit.{Lit}
use Rattle.rust_literals.specs.declared.lit.Lit.TheVariants.{Str}
use Rattle.rl_attributes.specs.declared.attributes.Entry.{Entry}
use Rattle.rl_attributes.specs.Attributes.{AreAttributesOf}
use Rattle.rl_attributes.specs.Entries.{HasName, attributes_of}

abbrev pub is_backslash : ℕ → Bool
is_backslash b = b == code "\\"

-- The first backslash of the string literal's decoded value comes from the span `span` in the file.
pub record HasBackslash (token : SpannedText) (span : Span) : Type 0 where
  pub value : List ℕ
  pub contents : HasContents StrKind (chars token.text) (Characters (chars value))
  pub at : ℕ
  pub first : position is_backslash value ≡ Some at
  pub placed : IsSpanOf StrKind token at (at + 1) span

-- The decoded value of the string literal contains no backslash.
pub record HasNoBackslash (token : SpannedText) : Type 0 where
  pub value : List ℕ
  pub contents : HasContents StrKind (chars token.text) (Characters (chars value))
  pub none : position is_backslash value ≡ None

abbrev pub IsBackslashOf : SpannedText → Option Span → Type 0
IsBackslashOf token found = MatchOption found (HasNoBackslash token) (HasBackslash token)

-- The literal is a string literal, and `found` is the span in the file from which its first backslash comes, or `None`
-- if it has none.
abbrev pub IsBackslashIn : {A : Type 0} → Lit A → Option Span → Type 0
IsBackslashIn (Str l) found = IsBackslashOf l found
IsBackslashIn _ found = ⊥

-- `found` is the span in the file from which the first backslash in the value of the setting `path` comes, or `None` if
-- the value has none.
abbrev pub IsBackslashSet : {A : Type 0} → List (Entry A) → Option Span → Type 0
IsBackslashSet entries found =
    All (λ e. HasName (codes "path") e → IsBackslashIn e.value found) entries

-- The text is settings, and `found` is the span in the file from which the first backslash in the value of `path`
-- comes, or `None` if the value has none.
pub record IsPathText (A : Type 0) (text : List ℕ) (file : ℕ) (found : Option Span) : Type 0 where
  pub entries : List (Entry A)
  pub are : AreAttributesOf (chars text) file (attributes_of entries)
  pub found_is : IsBackslashSet entries found
