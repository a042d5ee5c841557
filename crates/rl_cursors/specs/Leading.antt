-- The literal at the start of a text.
use Rattle.std.specs.Prelude.{◌≡◌, ◌⊎◌, ℕ, Bool, ◌||◌, List, ◌∷◌, ◌++◌, Some, codes}
use Rattle.std.specs.Char.{is_ascii_digit}
use Rattle.std.specs.Str.{chars, IsUtf8}
use Prim.Native.Char.{code}
use Rattle.rl_syntax.specs.Texts.{IsTail, begins, first_passes}
use Rattle.rl_lexer.specs.Sources.{SourceKind, SourceBefore, IsLiteralText}
use Rattle.rl_lenient.specs.declared.found.Found.{Found}
use Rattle.rl_lenient.specs.Founds.{IsFound}
use Rattle.rl_cursors.specs.NextLiterals.{FindsReading}
use Rattle.rl_cursors.specs.declared.leading.LeadingLiteral.{LeadingLiteral}

-- The first token of the text is the literal `l`: a literal token, `true` or `false`.
pub record Leads (text : List ℕ) (l : LeadingLiteral) : Type 0 where
  pub kind : SourceKind
  pub begins : SourceBefore (chars text) kind (chars l.following.now)
  pub is_literal : IsLiteralText kind (chars l.text.now)
  pub is_text : IsUtf8 l.text.now
  pub bytes_are : text ≡ l.text.now ++ l.following.now
  pub chars_are : chars text ≡ chars l.text.now ++ chars l.following.now
  pub following : IsTail text l.following.now
  pub reading : FindsReading l.text.now l.found

-- The text begins with a digit, an apostrophe or a quote, with a literal's prefix, or with `true` or `false`. A text that
-- begins otherwise doesn't begin with a literal.
abbrev pub may_lead : List ℕ → Bool
may_lead t =
    first_passes is_ascii_digit t || (begins (codes "\"") t || (begins (codes "'") t || (begins (codes "r\"") t
    || (begins (codes "r#") t || (begins (codes "b\"") t || (begins (codes "b'") t || (begins (codes "br") t
    || (begins (codes "c\"") t || (begins (codes "cr") t || (begins (codes "true") t || begins (codes "false") t))))))))))

-- The first token of the text isn't a literal.
abbrev pub LeadsNone : List ℕ → Type 0
LeadsNone text = (l : LeadingLiteral) → Leads text l → ⊥

-- The text begins with a minus and a number directly after it. Together they parse as one negative number.
pub record LeadsNegative (text : List ℕ) (l : LeadingLiteral) : Type 0 where
  pub unsigned : List ℕ
  pub number : LeadingLiteral
  pub found : Found
  pub minus : text ≡ code "-" ∷ unsigned
  pub leads : Leads unsigned number
  pub literal : l.text.now ≡ code "-" ∷ number.text.now
  pub following : l.following.now ≡ number.following.now
  pub is_found : IsFound l.text.now found
  pub found_is : l.found ≡ Some found

abbrev pub LeadsNoNegative : List ℕ → Type 0
LeadsNoNegative text = (l : LeadingLiteral) → LeadsNegative text l → ⊥

abbrev pub LeadsSigned : List ℕ → LeadingLiteral → Type 0
LeadsSigned text l = Leads text l ⊎ LeadsNegative text l

abbrev pub LeadsNoneSigned : List ℕ → Type 0
LeadsNoneSigned text = LeadsNone text × LeadsNoNegative text
