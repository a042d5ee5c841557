-- The results of the formatter, which rewrites quoted literals from their decoded values.
use Rattle.std.specs.Prelude.{◌≡◌, ◌⊎◌, ℕ, List, [], ◌∷◌, ◌++◌}
use Prim.Native.Char.{code}
use Rattle.std.specs.Str.{chars}
use Rattle.rl_syntax.specs.declared.kind.Kind.{Kind}
use Rattle.rl_syntax.specs.declared.kind.Kind.TheVariants.{Str as StrKind, ByteStr as ByteStrKind, CStr as CStrKind, Byte as ByteKind, Char as CharKind}
use Rattle.rl_syntax.specs.Texts.{SpannedText}
use Rattle.rl_syntax.specs.Reading.{quoted_contents, HasContents, HasSuffix}
use Rattle.rl_syntax.specs.Written.{IsWrittenForm}
use Rattle.rl_quoted.specs.Suffixes.{HasSomeSuffix}
use Rattle.rust_literals.specs.declared.lit.Lit.{Lit}
use Rattle.rust_literals.specs.declared.lit.Lit.TheVariants.{Str, ByteStr, CStr, Byte, Char}
use Rattle.rust_literals.specs.Copies.{text_of}

-- The literal `new` is the written form of the decoded value of the literal `old`, with the span of `old`.
pub record IsWrittenOf (kind : Kind) (old new : SpannedText) : Type 0 where
  pub value : List ℕ
  pub contents : HasContents kind (chars old.text) (quoted_contents kind value)
  pub written : IsWrittenForm kind value (chars new.text)
  pub span : new.span ≡ old.span

-- The literal `old` has no suffix, and the literal `new` is the written form of its decoded value.
pub record IsRewrittenAs (kind : Kind) (old new : SpannedText) : Type 0 where
  pub bare : HasSuffix kind (chars old.text) []
  pub written : IsWrittenOf kind old new

-- The literal `old` has a suffix, and the literal `new` equals it.
pub record IsKept (kind : Kind) (old new : SpannedText) : Type 0 where
  pub suffix : HasSomeSuffix kind (chars old.text)
  pub same : new ≡ old

-- The literal `new` is the formatter's result for the quoted literal `old`: rewritten, or unchanged if `old` has a
-- suffix.
abbrev pub IsQuotedRewrite : Kind → SpannedText → SpannedText → Type 0
IsQuotedRewrite kind old new = IsRewrittenAs kind old new ⊎ IsKept kind old new

-- The literal `new` is the formatter's result for the literal `old`. A literal that isn't quoted is unchanged.
abbrev pub IsRewrite : {A : Type 0} → Lit A → Lit A → Type 0
IsRewrite (Str old) (Str new) = IsQuotedRewrite StrKind old new
IsRewrite (ByteStr old) (ByteStr new) = IsQuotedRewrite ByteStrKind old new
IsRewrite (CStr old) (CStr new) = IsQuotedRewrite CStrKind old new
IsRewrite (Byte old) (Byte new) = IsQuotedRewrite ByteKind old new
IsRewrite (Char old) (Char new) = IsQuotedRewrite CharKind old new
IsRewrite old new = new ≡ old

-- The text `new` is the text `old`, followed by the text of the rewritten literal and LF.
abbrev pub PrintsLine : {A : Type 0} → Lit A → List ℕ → List ℕ → Type 0
PrintsLine {A} literal old new =
    (anew : Lit A) × IsRewrite literal anew × (new ≡ old ++ (text_of anew ++ (code "\n" ∷ [])))

-- The bytes `printed` are the texts of the rewritten literals in order, each with LF after it.
abbrev pub AreLines : {A : Type 0} → List (Lit A) → List ℕ → Type 0
AreLines [] printed = printed ≡ []
AreLines {A} (l ∷ ls) printed =
    (anew : Lit A) × (rest : List ℕ) × IsRewrite l anew
    × (printed ≡ text_of anew ++ (code "\n" ∷ rest)) × AreLines ls rest
