-- A text that is a list of strings, and the results of reading it. A text is its bytes here.
use Rattle.std.specs.Prelude.{◌≡◌, ◌⊎◌, ◌<◌, ℕ, List, [], Result, Vec, String, get_or, length, take}
use Rattle.std.specs.Result.{MatchResult}
use Rattle.std.specs.Str.{chars}
use Rattle.rl_syntax.specs.declared.kind.Kind.TheVariants.{Str}
use Rattle.rl_syntax.specs.declared.span.Span.{Span}
use Rattle.rl_syntax.specs.Reading.{Characters}
use Rattle.rl_tokens.specs.declared.error.Error.{Error}
use Rattle.rl_tokens.specs.declared.error.ErrorKind.TheVariants.{Memory}
use Rattle.rl_tokens.specs.WrittenLists.{characters_of}
use Rattle.rust_literals.specs.declared.lit.Lit.{Lit}
use Rattle.rust_literals.specs.Literals.{IsLitOf}
use Rattle.rust_literals.specs.LitParts.{lit_span}
use Rattle.rust_literals.specs.Parsing.{AreRead, RejectsText}
use Rattle.rust_literals.specs.ReadBack.{AreStrings}
use Rattle.rl_uses.specs.declared.strings.ListError.{ListError}
use Rattle.rl_uses.specs.declared.strings.ListError.TheVariants.{Text, NoString}

-- The text is a list of string literals without suffixes, with these values.
pub record IsListOf (A : Type 0) (text : List ℕ) (file : ℕ) (values : List (List ℕ)) : Type 0 where
  pub list : List (Lit A)
  pub read : AreRead (chars text) file list
  pub are : AreStrings list values

abbrev pub IsMemory : {A : Type 0} → ListError A → Type 0
IsMemory (Text e) = e.kind ≡ Memory
IsMemory (NoString span) = ⊥

abbrev pub AreValuesOrMemory : {A : Type 0} → List (List ℕ) → Result (Vec (String A) A) (ListError A) → Type 0
AreValuesOrMemory values result = MatchResult result (λ found. characters_of found.items ≡ values) IsMemory

-- The literal isn't a string without a suffix, and the error is at the literal. Or an allocation failed.
abbrev pub RejectsLiteral : {A : Type 0} → Lit A → ListError A → Type 0
RejectsLiteral l (Text e) = e.kind ≡ Memory
RejectsLiteral l (NoString span) =
    (span ≡ lit_span l) × ((value : List ℕ) → IsLitOf Str (Characters value) [] l → ⊥)

-- The error is that of the literal at an index, and the literals before it are strings without suffixes.
pub record RejectsLiterals {A : Type 0} (list : List (Lit A)) (e : ListError A) : Type 0 where
  pub index : ℕ
  pub literal : Lit A
  pub below : index < length list
  pub is : literal ≡ get_or list index literal
  pub values : List (List ℕ)
  pub earlier : AreStrings (take index list) values
  pub rejected : RejectsLiteral literal e

-- The text isn't a list of literals, or one of its literals is rejected.
abbrev pub RejectsListText : {A : Type 0} → List ℕ → ℕ → ListError A → Type 0
RejectsListText {A} text file e =
    ((why : Error A) × (e ≡ Text why) × RejectsText (chars text) file (length text) why)
    ⊎ ((list : List (Lit A)) × AreRead (chars text) file list × RejectsLiterals list e)
