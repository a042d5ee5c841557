-- The conversion of a number literal's digits to a value of a Rust type as `u8`, and the errors of the conversion.
use Rattle.std.specs.Prelude.{◌≡◌, ℕ, List, Option, Result, Ok, Err, IfSome, string_bytes, ⊤}
use Rattle.std.specs.Str.{chars, IsUtf8}
use Rattle.rl_syntax.specs.declared.span.Span.{Span}
use Rattle.rl_tokens.specs.declared.error.ErrorKind.{ErrorKind}
use Rattle.rl_tokens.specs.declared.error.ErrorKind.TheVariants.{Number, Memory}
use Rattle.rl_tokens.specs.declared.error.Error.{Error}
use Rattle.rl_syntax.specs.declared.kind.Kind.{Kind}
use Rattle.rust_literals.specs.Held.{HasDigits}

-- The list of bytes `digits` contains the digits in base ten of `text`, a number of the kind `kind`.
pub record AreBase10Digits (kind : Kind) (text digits : List ℕ) : Type 0 where
  pub digits_are : HasDigits kind (chars text) (chars digits)
  pub is_text : IsUtf8 digits

-- `number` is a value that the number type's `from_str` may return for the digits in base ten. The relation `gives`
-- specifies `from_str`.
pub record IsMadeOf {N E : Type 0} (gives : List ℕ → Result N E → Type 0) (AreOf : List ℕ → Type 0)
    (number : N) : Type 0 where
  pub digits : List ℕ
  pub are : AreOf digits
  pub made : gives digits (Ok number)

-- The kind of error is `Number` with the message `words`, or with any message if `words` is `None`. Or the kind is
-- `Memory`: an allocation failed for the message.
abbrev pub IsInWords : {A : Type 0} → Option (List ℕ) → ErrorKind A → Type 0
IsInWords words (Number told) = IfSome words (λ w. string_bytes told ≡ w)
IsInWords words Memory = ⊤
IsInWords words _ = ⊥

-- The error `e` has the span `span`. Its message is `words`, the message of a number type's own error. Or its kind is
-- `Memory`: an allocation failed for the message.
pub record IsReported {A : Type 0} (words : Option (List ℕ)) (span : Span) (e : Error A)
    : Type 0 where
  pub span_is : e.span ≡ span
  pub kind_is : IsInWords words e.kind

-- The error `e` is the error of a number type whose `from_str` rejects the digits in base ten. The error has the span
-- `span` and the message of the number type's own error.
pub record IsRejectedBy {N E A : Type 0} (gives : List ℕ → Result N E → Type 0)
    (output : E → Option (List ℕ)) (AreOf : List ℕ → Type 0) (span : Span) (e : Error A)
    : Type 0 where
  pub digits : List ℕ
  pub are : AreOf digits
  pub error : E
  pub rejected : gives digits (Err error)
  pub told : IsReported (output error) span e
