-- The bodies of quoted literals, which are the texts between their quotes.
use Rattle.std.specs.Prelude.{◌≡◌, ◌≢◌, ◌<◌, ◌∷◌, [], ℕ, Bool, List, IsTrue}
use Rattle.std.specs.Char.{IsScalar}
use Rattle.std.specs.Str.{chars}
use Rattle.rl_syntax.specs.declared.kind.Kind.{Kind}
use Rattle.rl_syntax.specs.declared.kind.Kind.TheVariants.{Byte, Char}
use Rattle.rl_syntax.specs.Quoted.{is_string, is_single}
use Rattle.rl_syntax.specs.Reading.{Contents, HasContents}
use Rattle.rl_lenient.specs.declared.quoted_forms.QuotedForm.{QuotedForm}
use Rattle.rl_lenient.specs.declared.quoted_forms.QuotedForm.TheVariants.{Single as SingleForm}
use Rattle.rl_lenient.specs.Forms.{PartsAre, is_plain_body}

-- The bytes `body` are the text between the quotes of the string literal `text`. `plain` is true exactly if the body is
-- its own value.
pub record HasBody (kind : Kind) (text body : List ℕ) (plain : Bool) : Type 0 where
  pub string : IsTrue (is_string kind)
  pub form : QuotedForm
  pub value : List ℕ
  pub suffix : List ℕ
  pub parts : PartsAre form kind text value (chars body) suffix
  pub plain_is : plain ≡ is_plain_body form kind (chars body)

-- The bytes `body` are the text between the quotes of the character or byte literal `text`.
pub record HasSingleBody (kind : Kind) (text body : List ℕ) : Type 0 where
  pub value : List ℕ
  pub suffix : List ℕ
  pub parts : PartsAre SingleForm kind text value (chars body) suffix

-- The bytes are the text between the quotes of a string literal of the kind. `plain` is true exactly if they are its
-- value.
abbrev pub IsStringBody : Kind → List ℕ → Bool → Type 0
IsStringBody kind body plain = (text : List ℕ) × HasBody kind text body plain

-- Each string literal of the kind with the given body has the given value.
abbrev pub Represents : Kind → List ℕ → Bool → Contents → Type 0
Represents kind body plain contents =
    (text : List ℕ) → HasBody kind text body plain → HasContents kind text contents

-- The bytes are the text between the quotes of a character or byte literal.
abbrev pub IsSingleBody : Kind → List ℕ → Type 0
IsSingleBody kind body = (text : List ℕ) × HasSingleBody kind text body

-- Each character or byte literal with the given body has the given value.
abbrev pub SingleRepresents : Kind → List ℕ → Contents → Type 0
SingleRepresents kind body contents =
    (text : List ℕ) → HasSingleBody kind text body → HasContents kind text contents

-- The number is the value of a character or byte literal. For a string literal it is 0.
pub record IsUnitValue (kind : Kind) (value : List ℕ) (unit : ℕ) : Type 0 where
  pub one : IsTrue (is_single kind) → value ≡ unit ∷ []
  pub byte : kind ≡ Byte → unit < 256
  pub character : kind ≡ Char → IsScalar unit
  pub none : kind ≢ Byte → kind ≢ Char → unit ≡ 0
