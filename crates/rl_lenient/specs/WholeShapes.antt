-- Definitions on the parts of literals of every kind.
use Rattle.std.specs.Prelude.{◌≡◌, ℕ, ◌==◌, ◌||◌, Bool, List, [], ◌++◌, encode_utf8_all}
use Rattle.std.specs.Char.{is_ascii_digit}
use Rattle.std.specs.Str.{chars}
use Prim.Native.Char.{code}
use Rattle.rl_syntax.specs.declared.kind.Kind.{Kind}
use Rattle.rl_syntax.specs.declared.kind.Kind.TheVariants.{Str, ByteStr, CStr, Int, Float, Bool as BoolKind}
use Rattle.rl_syntax.specs.Numbers.{FloatReads, float_digits}
use Rattle.rl_syntax.specs.Reading.{Characters, Bytes, Digits, ReadsQuoted, ReadsInt}
use Rattle.rl_lenient.specs.Shapes.{IsQuotedSplit}

-- The bytes of a literal are its parts, in order. A quoted literal is opening delimiter, body, closing delimiter and
-- suffix. A number is body and suffix. A `bool` is only a body.
abbrev pub IsSplit : Kind → List ℕ → List ℕ → List ℕ → Type 0
IsSplit Int text body suffix = text ≡ body ++ suffix
IsSplit Float text body suffix = text ≡ body ++ suffix
IsSplit BoolKind text body suffix = (body ≡ text) × (suffix ≡ [])
IsSplit kind text body suffix = IsQuotedSplit kind text body suffix

-- Whether a character begins a number, and no other literal begins with it: it is a minus or a decimal digit.
abbrev pub is_number_front : ℕ → Bool
is_number_front c = c == code "-" || is_ascii_digit c

-- The text is a literal of the kind with the given suffix, and the given bytes are its value, or its digits if it is a number. A
-- text of the kind `Float` may be an integer literal too.
abbrev pub HasPlainBody : Kind → List ℕ → List ℕ → List ℕ → Type 0
HasPlainBody Str text body suffix = ReadsQuoted text Str (Characters (chars body)) suffix
HasPlainBody ByteStr text body suffix = ReadsQuoted text ByteStr (Bytes body) suffix
HasPlainBody CStr text body suffix = ReadsQuoted text CStr (Bytes body) suffix
HasPlainBody Int text body suffix = ReadsInt text (Digits (chars body)) suffix
HasPlainBody Float text body suffix =
    FloatReads text (chars body) suffix × (float_digits (chars body) ≡ chars body)
HasPlainBody _ text body suffix = ⊥

-- The text is a string, integer or float literal of the kind, and its body is its value or its digits, byte for byte.
pub record IsPlain (kind : Kind) (text : List ℕ) : Type 0 where
  pub body : List ℕ
  pub suffix : List ℕ
  pub cut : IsSplit kind text body (encode_utf8_all suffix)
  pub reads : HasPlainBody kind (chars text) body suffix
