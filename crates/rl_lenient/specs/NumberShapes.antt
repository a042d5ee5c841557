-- Definitions on texts that are numbers, for the functions that parse them.
use Rattle.std.specs.Prelude.{◌≡◌, ℕ, ◌≤◌, List}
use Rattle.rl_syntax.specs.declared.kind.Kind.{Kind}
use Rattle.rl_syntax.specs.declared.kind.Kind.TheVariants.{Int, Float}
use Rattle.rl_syntax.specs.Numbers.{Sign, IntReads, limit, FloatReads, float_digits}
use Rattle.rl_syntax.specs.Reading.{Contents, Digits, ReadsInt, ReadsFloat, ReadsAs}

-- The text is an integer literal with the given magnitude and suffix, within 128 bits.
pub record HasMagnitude (text : List ℕ) (magnitude : ℕ) (suffix : List ℕ) : Type 0 where
  pub sign : Sign
  pub reads : IntReads text sign magnitude suffix
  pub within : magnitude ≤ limit

-- The text is an integer literal in at most one way: with one sign, one magnitude and one suffix.
abbrev pub HasOneInteger : List ℕ → Type 0
HasOneInteger text =
    (x y : List ℕ) (s z : Sign) (m n : ℕ) → IntReads text s m x → IntReads text z n y
    → (s ≡ z) × (m ≡ n) × (x ≡ y)

-- The text is a float literal in at most one way: with one suffix, and one text before it.
abbrev pub HasOneFloat : List ℕ → Type 0
HasOneFloat text =
    (n m x y : List ℕ) → FloatReads text n x → FloatReads text m y → (n ≡ m) × (x ≡ y)

-- The text is a number of the given kind, value and suffix. It is a float only if it isn't an integer.
abbrev pub ReadsNumber : List ℕ → Kind → Contents → List ℕ → Type 0
ReadsNumber text Int contents suffix = ReadsInt text contents suffix
ReadsNumber text Float contents suffix = ReadsFloat text contents suffix
ReadsNumber text _ contents suffix = ⊥

abbrev pub ReadsNoNumber : List ℕ → Type 0
ReadsNoNumber text =
    (kind : Kind) (contents : Contents) (suffix : List ℕ) → ReadsNumber text kind contents suffix
    → ⊥

-- The text is a number of the kind: an integer within 128 bits, or a float. If the kind is `Float`, the text may be an
-- integer literal too.
abbrev pub IsNumber : Kind → List ℕ → Type 0
IsNumber Int text = ReadsAs Int text
IsNumber Float text = (numeral : List ℕ) × (suffix : List ℕ) × FloatReads text numeral suffix
IsNumber _ text = ⊥

-- The text's value, as an integer or float literal of the kind, is the given digits.
abbrev pub AreDigits : Kind → List ℕ → List ℕ → Type 0
AreDigits Int text digits =
    (contents : Contents) (suffix : List ℕ) → ReadsInt text contents suffix
    → contents ≡ Digits digits
AreDigits Float text digits =
    (numeral suffix : List ℕ) → FloatReads text numeral suffix → digits ≡ float_digits numeral
AreDigits _ text digits = ⊥
