-- The parse result of a text as the code returns it: the literal's kind, the byte offsets of its parts, the number of
-- an integer, the `bool`, and the value of a character or byte.
use Rattle.std.specs.Prelude.{◌≡◌, ◌≢◌, ◌↔◌, ◌⊎◌, ◌++◌, ◌-◌, ◌≤◌, ◌<◌, ◌∷◌, [], ◌||◌, ℕ, Bool, false, List, take, drop, IsTrue}
use Rattle.std.specs.Char.{IsScalar}
use Rattle.std.specs.Str.{chars, IsCharBoundary}
use Rattle.rl_syntax.specs.declared.kind.Kind.{Kind}
use Rattle.rl_syntax.specs.declared.kind.Kind.TheVariants.{Byte, Char, Int, Float, Bool as BoolKind}
use Rattle.rl_syntax.specs.Numbers.{FloatReads}
use Rattle.rl_syntax.specs.Quoted.{is_string, is_single}
use Rattle.rl_syntax.specs.Reading.{HasContents, HasSuffix, quoted_contents, truth_text}
use Rattle.rl_lenient.specs.declared.quoted_forms.QuotedForm.{QuotedForm}
use Rattle.rl_lenient.specs.declared.found.Body.{Body}
use Rattle.rl_lenient.specs.declared.found.Found.{Found}
use Rattle.rl_lenient.specs.Forms.{PartsAre, front_len, is_plain_body}
use Rattle.rl_lenient.specs.NumberShapes.{HasMagnitude}
use Rattle.rl_lenient.specs.WholeShapes.{IsSplit, IsPlain}

-- The part of a literal's text at the byte offsets of its body.
abbrev pub body_in : List ℕ → Body → List ℕ
body_in text body = take (body.hi - body.lo) (drop body.lo text)

-- The part of a literal's text from the byte offset of its suffix.
abbrev pub suffix_in : List ℕ → Body → List ℕ
suffix_in text body = drop body.suffix_at text

-- The offsets of a literal's parts are within the text, and each is the start of a character or the end of the text.
pub record IsBodyWithin (text : List ℕ) (body : Body) : Type 0 where
  pub ordered : body.lo ≤ body.hi
  pub begins : IsCharBoundary text body.lo
  pub ends : IsCharBoundary text body.hi
  pub following : IsCharBoundary text body.suffix_at

abbrev pub is_quoted : Kind → Bool
is_quoted kind = is_string kind || is_single kind

-- The text is a quoted literal of the kind whose parts are at the given byte offsets. `plain` is true exactly if the body is its
-- own value.
pub record IsQuotedAt (kind : Kind) (text : List ℕ) (body : Body) : Type 0 where
  pub form : QuotedForm
  pub value : List ℕ
  pub parts :
      PartsAre form kind (chars text) value (chars (body_in text body))
      (chars (suffix_in text body))
  pub plain_is : body.plain ≡ is_plain_body form kind (chars (body_in text body))
  pub lo_is :
      body.lo ≡ front_len form kind (chars text) value (chars (body_in text body))
      (chars (suffix_in text body)) parts
  pub stands : IsBodyWithin text body

-- The number is the value of the text as a character or byte literal of the kind.
pub record IsUnitOf (kind : Kind) (text : List ℕ) (unit : ℕ) : Type 0 where
  pub reads : HasContents kind text (quoted_contents kind (unit ∷ []))
  pub byte : kind ≡ Byte → unit < 256
  pub character : kind ≡ Char → IsScalar unit

-- The text is a literal with the given parse result: its kind, the byte offsets of its parts, whether the body is its value, the
-- magnitude of an integer, a `bool`, and the value of a character or byte.
pub record IsFound (text : List ℕ) (found : Found) : Type 0 where
  pub reads : HasSuffix found.kind (chars text) (chars (suffix_in text found.body))
  pub cut : IsSplit found.kind text (body_in text found.body) (suffix_in text found.body)
  pub stands : IsBodyWithin text found.body
  pub plain : IsTrue found.body.plain ↔ IsPlain found.kind text
  pub quoted : IsTrue (is_quoted found.kind) → IsQuotedAt found.kind text found.body
  pub integer : found.kind ≡ Int
      → HasMagnitude (chars text) found.magnitude (chars (suffix_in text found.body))
  pub no_magnitude : found.kind ≢ Int → found.magnitude ≡ 0
  pub truth : found.kind ≡ BoolKind → text ≡ truth_text found.truth
  pub no_truth : found.kind ≢ BoolKind → found.truth ≡ false
  pub unit : IsTrue (is_single found.kind) → IsUnitOf found.kind (chars text) found.unit
  pub no_unit : found.kind ≢ Byte → found.kind ≢ Char → found.unit ≡ 0

-- The text is a float literal with the given parse result. The text may be an integer literal too.
pub record IsFoundFloat (text : List ℕ) (found : Found) : Type 0 where
  pub kind : found.kind ≡ Float
  pub reads :
      FloatReads (chars text) (chars (body_in text found.body))
      (chars (suffix_in text found.body))
  pub cut : text ≡ body_in text found.body ++ suffix_in text found.body
  pub stands : IsBodyWithin text found.body
  pub plain : IsTrue found.body.plain ↔ IsPlain Float text
  pub no_magnitude : found.magnitude ≡ 0
  pub no_truth : found.truth ≡ false
  pub no_unit : found.unit ≡ 0

-- The text is a number with the given parse result: an integer within 128 bits, or a float. If it is a float, it may be an
-- integer literal too.
abbrev pub IsFoundNumber : List ℕ → Found → Type 0
IsFoundNumber text found =
    (IsFound text found × ((found.kind ≡ Int) ⊎ (found.kind ≡ Float))) ⊎ IsFoundFloat text found
