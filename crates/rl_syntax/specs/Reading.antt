-- The parse result of a text as a literal, as by `Lit::new` in `syn` 3.0.9, src/lit.rs. A number is an integer if it
-- can be one, and otherwise a float.
use Rattle.std.specs.Prelude.{◌≡◌, ◌⊎◌, ℕ, ◌≤◌, Bool, true, false, List, [], ◌++◌, codes, Option, Some, None, ◌<◌}
use Rattle.std.specs.Fmt.{decimal}
use Rattle.rl_syntax.specs.declared.kind.Kind.{Kind}
use Rattle.rl_syntax.specs.declared.kind.Kind.TheVariants.{Str, Char, Int, Float, Bool as BoolKind}
use Rattle.rl_syntax.specs.Quoted.{Cooked, Raw, Single}
use Rattle.rl_syntax.specs.Numbers.{Sign, sign_text, IntReads, FloatReads, limit, float_digits}

-- The value of a literal: the characters of a string or character literal, the bytes of a literal of bytes, the digits
-- of a number in base ten, or a `bool`.
pub data Contents : Type 0 where
  Characters : (cs : List ℕ) → Contents
  Bytes : (bs : List ℕ) → Contents
  Digits : (ds : List ℕ) → Contents
  Truth : (b : Bool) → Contents

-- The value of a quoted literal of the kind, from its characters or bytes.
abbrev pub quoted_contents : Kind → List ℕ → Contents
quoted_contents Str v = Characters v
quoted_contents Char v = Characters v
quoted_contents _ v = Bytes v

pub record ReadsQuoted (text : List ℕ) (kind : Kind) (contents : Contents) (suffix : List ℕ)
    : Type 0 where
  pub value : List ℕ
  pub form : Cooked kind text value suffix ⊎ Raw kind text value suffix
      ⊎ Single kind text value suffix
  pub contents_is : contents ≡ quoted_contents kind value

-- The text is an integer literal within 128 bits. Its value is its sign, and the digits of its number in base ten.
-- (`decimal` is a definition of std, which writes only the last 64 digits. A number within 128 bits has at most 39.)
pub record ReadsInt (text : List ℕ) (contents : Contents) (suffix : List ℕ) : Type 0 where
  pub sign : Sign
  pub magnitude : ℕ
  pub reads : IntReads text sign magnitude suffix
  pub within : magnitude ≤ limit
  pub contents_is : contents ≡ Digits (sign_text sign ++ decimal magnitude)

abbrev pub HasNoInteger : List ℕ → Type 0
HasNoInteger text =
    (sign : Sign) (magnitude : ℕ) (suffix : List ℕ) → IntReads text sign magnitude suffix → ⊥

-- The text is a float literal, and isn't an integer literal of any size. Its value is its digits.
pub record ReadsFloat (text : List ℕ) (contents : Contents) (suffix : List ℕ) : Type 0 where
  pub numeral : List ℕ
  pub reads : FloatReads text numeral suffix
  pub no_integer : HasNoInteger text
  pub contents_is : contents ≡ Digits (float_digits numeral)

-- The text of a `bool`.
abbrev pub truth_text : Bool → List ℕ
truth_text true = codes "true"
truth_text false = codes "false"

pub record ReadsBool (text : List ℕ) (contents : Contents) (suffix : List ℕ) : Type 0 where
  pub truth : Bool
  pub text_is : text ≡ truth_text truth
  pub suffix_is : suffix ≡ []
  pub contents_is : contents ≡ Truth truth

-- The text is parsed as a literal of the kind, with the given value and suffix.
abbrev pub Reads : List ℕ → Kind → Contents → List ℕ → Type 0
Reads text Int contents suffix = ReadsInt text contents suffix
Reads text Float contents suffix = ReadsFloat text contents suffix
Reads text BoolKind contents suffix = ReadsBool text contents suffix
Reads text kind contents suffix = ReadsQuoted text kind contents suffix

-- The text is parsed as a literal of the kind.
abbrev pub ReadsAs : Kind → List ℕ → Type 0
ReadsAs kind text = (contents : Contents) × (suffix : List ℕ) × Reads text kind contents suffix

-- The text is parsed as a literal of the kind with the given value.
abbrev pub HasContents : Kind → List ℕ → Contents → Type 0
HasContents kind text contents = (suffix : List ℕ) × Reads text kind contents suffix

-- The text is parsed as a literal of the kind with the given suffix.
abbrev pub HasSuffix : Kind → List ℕ → List ℕ → Type 0
HasSuffix kind text suffix = (contents : Contents) × Reads text kind contents suffix

abbrev pub HasReading : List ℕ → Type 0
HasReading text = (kind : Kind) × ReadsAs kind text

-- The text is an integer literal whose number is above 128 bits.
pub record IsPast (text : List ℕ) : Type 0 where
  pub sign : Sign
  pub magnitude : ℕ
  pub suffix : List ℕ
  pub reads : IntReads text sign magnitude suffix
  pub past : limit < magnitude

abbrev pub HasNoFloat : List ℕ → Type 0
HasNoFloat text = (numeral : List ℕ) (suffix : List ℕ) → FloatReads text numeral suffix → ⊥

-- The text isn't a literal of any kind.
abbrev pub HasNoReading : List ℕ → Type 0
HasNoReading text =
    (kind : Kind) (contents : Contents) (suffix : List ℕ) → Reads text kind contents suffix → ⊥

-- The text isn't a boolean literal.
abbrev pub HasNoTruth : List ℕ → Type 0
HasNoTruth text = (contents : Contents) (suffix : List ℕ) → ReadsBool text contents suffix → ⊥

-- The text is parsed as a literal of the kind. If the kind is `None`, the text isn't a literal.
abbrev pub IsReadAs : Option Kind → List ℕ → Type 0
IsReadAs (Some kind) text = ReadsAs kind text
IsReadAs None text = HasNoReading text
