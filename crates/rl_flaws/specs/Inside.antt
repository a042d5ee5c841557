-- The valid content of a quoted literal, up to its first flaw or its closing delimiter.
use Rattle.std.specs.Prelude.{◌≡◌, ◌≢◌, ◌⊎◌, ℕ, List, [], ◌∷◌, ◌++◌, IsTrue, ⊤}
use Prim.Native.Char.{code}
use Rattle.rl_syntax.specs.Texts.{begins, first_passes}
use Rattle.rl_syntax.specs.declared.kind.Kind.{Kind}
use Rattle.rl_syntax.specs.Strict.{IsRawInside}
use Rattle.rl_lexer.specs.Sources.{is_apostrophe}
use Rattle.rl_lenient.specs.StrictBytes.{HasNoCarriageReturn}
use Rattle.rl_lenient.specs.StrictUnits.{BeginsStrictUnit, BeginsStrictUnits, HasNoStrictUnit}
use Rattle.rl_lenient.specs.declared.quoted_forms.QuotedForm.{QuotedForm}
use Rattle.rl_lenient.specs.declared.quoted_forms.QuotedForm.TheVariants.{Cooked as CookedForm, Raw as RawForm, Single as SingleForm}

-- The valid content of a character or byte literal: one character or escape if the closing quote follows it, and no text
-- otherwise.
abbrev pub IsUnitUpTo : Kind → List ℕ → List ℕ → Type 0
IsUnitUpTo kind text closing =
    (BeginsStrictUnit kind text closing × IsTrue (first_passes is_apostrophe closing))
    ⊎ ((closing ≡ text) × ((rest : List ℕ) → BeginsStrictUnit kind text rest → IsTrue (first_passes is_apostrophe rest)
    → ⊥))

-- A raw string of the kind may contain the text.
abbrev pub MayBeRaw : Kind → List ℕ → Type 0
MayBeRaw kind body = IsRawInside kind body × HasNoCarriageReturn body

-- The valid content of a raw string ends directly before a text. This text begins with the closing delimiter or with a
-- character that a raw string can't contain, or is empty.
abbrev pub EndsRaw : Kind → List ℕ → List ℕ → Type 0
EndsRaw kind hashes [] = ⊤
EndsRaw kind hashes (c ∷ cs) = ((c ≡ code "\"") × IsTrue (begins hashes cs)) ⊎ (MayBeRaw kind (c ∷ []) → ⊥)

-- The valid content of a raw string of the kind: all allowed characters up to its closing delimiter or its first flaw.
pub record IsRawUpTo (kind : Kind) (hashes text closing : List ℕ) : Type 0 where
  pub body : List ℕ
  pub text_is : text ≡ body ++ closing
  pub may_be : MayBeRaw kind body
  pub no_closer : (front after : List ℕ) → body ≢ front ++ (code "\"" ∷ (hashes ++ after))
  pub ends : EndsRaw kind hashes closing

-- The valid content of a quoted literal with the given form. For a string with escapes, the valid content is all characters
-- and escapes up to the first invalid one or the closing quote.
abbrev pub IsInsideUpTo : QuotedForm → Kind → List ℕ → List ℕ → List ℕ → Type 0
IsInsideUpTo CookedForm kind hashes text closing = BeginsStrictUnits kind text closing × HasNoStrictUnit kind closing
IsInsideUpTo RawForm kind hashes text closing = IsRawUpTo kind hashes text closing
IsInsideUpTo SingleForm kind hashes text closing = IsUnitUpTo kind text closing
