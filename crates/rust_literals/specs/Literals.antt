-- The relation of a literal and the text that it was parsed from.
use Rattle.std.specs.Prelude.{◌≡◌, ℕ, List, Option, Some, None}
use Rattle.std.specs.Str.{chars}
use Rattle.rl_syntax.specs.Texts.{SpannedText}
use Rattle.rl_syntax.specs.declared.kind.Kind.TheVariants.{Str as StrKind, ByteStr as ByteStrKind, CStr as CStrKind, Byte as ByteKind, Char as CharKind, Int as IntKind, Float as FloatKind, Bool as BoolKind}
use Rattle.rl_syntax.specs.declared.kind.Kind.{Kind}
use Rattle.rl_syntax.specs.Reading.{truth_text, Contents, Reads, IsReadAs}
use Rattle.rust_literals.specs.declared.lit.Lit.{Lit}
use Rattle.rust_literals.specs.declared.lit.Lit.TheVariants.{Str, ByteStr, CStr, Byte, Char, Int, Float, Bool, Verbatim}

-- The kind of a literal, or `None` for a `Verbatim` literal.
abbrev pub kind_of : {A : Type 0} → Lit A → Option Kind
kind_of (Str l) = Some StrKind
kind_of (ByteStr l) = Some ByteStrKind
kind_of (CStr l) = Some CStrKind
kind_of (Byte l) = Some ByteKind
kind_of (Char l) = Some CharKind
kind_of (Int l) = Some IntKind
kind_of (Float l) = Some FloatKind
kind_of (Bool l) = Some BoolKind
kind_of (Verbatim l) = None

-- The text and span of a literal. The text of a `bool` is `true` or `false`.
abbrev pub token_of : {A : Type 0} → Lit A → SpannedText
token_of (Str l) = l
token_of (ByteStr l) = l
token_of (CStr l) = l
token_of (Byte l) = l
token_of (Char l) = l
token_of (Int l) = l
token_of (Float l) = l
token_of (Bool l) = record { text = truth_text l.value; span = l.span }
token_of (Verbatim l) = l

-- The literal `lit` has the text and span of `token`, and the kind as which the text is parsed. It is `Verbatim` if the
-- text isn't a valid literal or is an integer above 128 bits.
abbrev pub IsReadFrom : {A : Type 0} → SpannedText → Lit A → Type 0
IsReadFrom token lit = (token_of lit ≡ token) × IsReadAs (kind_of lit) (chars token.text)

-- The literal `lit` is of the kind `kind`, and its text is parsed with the value `contents` and the suffix `suffix`.
abbrev pub IsLitOf : {A : Type 0} → Kind → Contents → List ℕ → Lit A → Type 0
IsLitOf kind contents suffix lit =
    (kind_of lit ≡ Some kind) × Reads (chars (token_of lit).text) kind contents suffix
